-- The values of a property by numbers.
--     one_at p t v      the value that the property of the number p states by v, of the type of the number t
--     written_at k p t  the number of the type that the values of a property have, in the component of the number k, whose type is stated as that of the number t
--     stated_as         the values that a property states in its context, c and w being the names of the component and of the property
--     ReadAs            `read` says whether they can be read
use Rattle.std.specs.Prelude.{◌≡◌, Bool, List, [], ℕ, ◌≤◌, eqb, Option}
use Rattle.octets.specs.Pick.{pick}
use Rattle.octets.specs.Reading.{and_then, is_read, read_or, read_each}
use Rattle.calendar.specs.Calendar.{Value}
use Rattle.names.specs.Table.{place_of}
use Rattle.schema.specs.Components.{component_names}
use Rattle.schema.specs.Properties.{property_names}
use Rattle.schema.specs.Numbers.{type_at}
use Rattle.schema.specs.Sets.{words_at}
use Rattle.schema.specs.Coded.{row_at}
use Rattle.schema.specs.Property as property
use Rattle.schema.specs.declared.Context.{Context}
use Rattle.json_text.specs.Tree.{Json}
use Rattle.json_text.specs.Kinds.{as_string, as_array}
use Rattle.jcal.specs.Values.{read_typed, read_geo, read_status, read_values}

abbrev pub one_at : ℕ → ℕ → Json → Option Value
one_at p t v =
    pick (eqb p property.GEO) (and_then (as_array v) read_geo)
    (pick (eqb p property.REQUEST-STATUS) (and_then (as_array v) (λ vs. and_then (read_each as_string vs) read_status))
    (read_typed (type_at t) v))

-- 6 is FLOAT, 10 is TEXT
abbrev pub written_at : ℕ → ℕ → ℕ → ℕ
written_at k p t = pick (eqb p property.GEO) 6 (pick (eqb p property.REQUEST-STATUS) 10 (pick (is_read (words_at k p)) 10 t))

abbrev pub stated_as : Context → List ℕ → List ℕ → List Json → List Value
stated_as x c w vs = read_or [] (read_values c w (type_at x.value_type) vs)

pub record ReadAs (x : Context) (c w : List ℕ) (vs : List Json) (read : Bool) : Type 0 where
  pub component : x.component ≡ place_of c component_names
  pub row : x.row ≡ row_at (place_of w property_names)
  pub is : read ≡ is_read (read_values c w (type_at x.value_type) vs)
