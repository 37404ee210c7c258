-- The values of a property (crate jcal, specs/Values.antt), by numbers.
--     one_in        whether an element is a value, by the head that code finds;   one_at: by its JSON value
--     values_in     whether a list of JSON values has the values
use Rattle.std.specs.Prelude.{Bool, false, List, ℕ, eqb, Option}
use Rattle.octets.specs.Pick.{pick}
use Rattle.octets.specs.Lists.{every}
use Rattle.octets.specs.Reading.{provided, and_then, is_read, read_each}
use Rattle.calendar.specs.Calendar.{Value, text}
use Rattle.schema.specs.Numbers.{type_at}
use Rattle.schema.specs.Columns.{permits_type}
use Rattle.schema.specs.Sets.{is_word_of, words_at}
use Rattle.schema.specs.Property as property
use Rattle.schema.specs.declared.Context.{Context}
use Rattle.json_text.specs.Tree.{Json}
use Rattle.json_text.specs.Kinds.{as_string, as_array}
use Rattle.jcal.specs.Values.{read_geo, read_status, read_chosen}
use Rattle.read_json.specs.declared.Head.{Head}
use Rattle.read_jcal_value.specs.Elements.{string_of, array_of}
use Rattle.read_jcal_value.specs.Typed.{typed_in}

-- ---- one value

abbrev pub read_strings : List Json → Option Value
read_strings vs = and_then (read_each as_string vs) read_status

abbrev pub read_word_in : Option (List (List ℕ)) → List ℕ → Option Value
read_word_in words l = provided (is_word_of words l) (text l)

-- a word of the closed set that the property has in the component, or a value of the type
abbrev pub chosen_in : Option (List (List ℕ)) → ℕ → List ℕ → Head → Bool
chosen_in words t s h = pick (is_read words) (is_read (and_then (string_of s h) (read_word_in words))) (typed_in t s h)

abbrev pub one_in : Context → List ℕ → Head → Bool
one_in x s h =
    pick (eqb x.row.number property.GEO) (is_read (and_then (array_of s h) read_geo))
    (pick (eqb x.row.number property.REQUEST-STATUS) (is_read (and_then (array_of s h) read_strings))
    (chosen_in (words_at x.component x.row.number) x.value_type s h))

unfoldable pub one_at : Context → Json → Bool
one_at x v =
    pick (eqb x.row.number property.GEO) (is_read (and_then (as_array v) read_geo))
    (pick (eqb x.row.number property.REQUEST-STATUS) (is_read (and_then (as_array v) read_strings))
    (is_read (read_chosen (words_at x.component x.row.number) (type_at x.value_type) v)))

-- ---- all values

abbrev pub values_in : Context → List Json → Bool
values_in x vs = pick (permits_type x.row x.value_type) (every (one_at x) vs) false
