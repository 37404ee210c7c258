-- The type of a property and its values in iCalendar text written as jCal, by the property's row and the numbers of the component and the type.
--     single_json, shown_json  what is written of the values where they can be read
--     typed_shown              the type and these
--     typed_json vs            the type of values, and the values
use Rattle.std.specs.Prelude.{List, ◌∷◌, map, ℕ, eqb}
use Rattle.octets.specs.Ascii.{ascii}
use Rattle.octets.specs.Pick.{pick}
use Rattle.octets.specs.Append.{◌⊕◌}
use Rattle.octets.specs.Class.{upper, lower}
use Rattle.octets.specs.Words.{joined_by}
use Rattle.octets.specs.Reading.{is_read, or_nothing}
use Rattle.calendar.specs.Calendar.{ical, Value}
use Rattle.schema.specs.Types.{type_name}
use Rattle.schema.specs.Numbers.{type_at}
use Rattle.schema.specs.Sets.{words_at}
use Rattle.schema.specs.Property as property
use Rattle.schema.specs.declared.table.Row.{Row}
use Rattle.numbers.specs.Geo.{read_geo}
use Rattle.values.specs.ReadValue.{read_value}
use Rattle.values.specs.WriteValue.{type_of_all}
use Rattle.json_text.specs.Bytes.{value_separator}
use Rattle.json_text.specs.Write.{quoted}
use Rattle.jcal.specs.WriteJcal.{value_json}
use Rattle.write_jcal_value.specs.Labels.{type_label}
use Rattle.write_jcal_property.specs.Pieces.{listed_json, status_json}

-- a word of a closed set in capitals, or a value of the type t
abbrev pub single_json : ℕ → Row → ℕ → List ℕ → List ℕ
single_json k row t l = pick (is_read (words_at k row.number)) (quoted (upper l)) (or_nothing value_json (read_value ical (type_at t) l))

abbrev pub shown_json : ℕ → Row → ℕ → List ℕ → List ℕ
shown_json k row t l =
    pick (eqb row.number property.GEO) (or_nothing value_json (read_geo l))
    (pick (eqb row.number property.REQUEST-STATUS) (status_json l)
    (pick row.listed (listed_json t l) (single_json k row t l)))

abbrev pub typed_shown : ℕ → Row → ℕ → List ℕ → List ℕ
typed_shown k row t l = type_label t ⊕ ascii "," ⊕ shown_json k row t l

unfoldable pub typed_json : List Value → List ℕ
typed_json vs = joined_by value_separator (quoted (lower (type_name (type_of_all vs))) ∷ map value_json vs)
