-- Lists in iCalendar text written as JSON values with commas between them.
--     pieces_json    each piece that is a value of a type
--     listed_json    the same of a list of values, of TEXT or of another type
--     status_json    the parts of a REQUEST-STATUS (RFC 7265, section 3.4.1.2)
use Rattle.std.specs.Prelude.{List, map, ℕ, eqb}
use Rattle.octets.specs.Ascii.{ascii}
use Rattle.octets.specs.Pick.{pick}
use Rattle.octets.specs.Append.{◌⊕◌}
use Rattle.octets.specs.Words.{cut_at, joined_by}
use Rattle.octets.specs.Reading.{or_nothing}
use Rattle.calendar.specs.Calendar.{ical, ValueType}
use Rattle.schema.specs.Numbers.{type_at}
use Rattle.texts.specs.Text.{split_text}
use Rattle.texts.specs.TextList.{read_texts}
use Rattle.values.specs.ReadValue.{read_value}
use Rattle.json_text.specs.Bytes.{value_separator}
use Rattle.jcal.specs.WriteJcal.{value_json}
use Rattle.write_jcal_value.specs.Texts.{strings_of}

abbrev pub piece_json : ValueType → List ℕ → List ℕ
piece_json t p = or_nothing value_json (read_value ical t p)

unfoldable pub pieces_json : ValueType → List (List ℕ) → List ℕ
pieces_json t ps = joined_by value_separator (map (piece_json t) ps)

-- 10 is TEXT, 44 the comma
abbrev pub listed_json : ℕ → List ℕ → List ℕ
listed_json t l = pick (eqb t 10) (or_nothing strings_of (read_texts l)) (pieces_json (type_at t) (cut_at 44 l))

-- 59 is the semicolon
abbrev pub status_json : List ℕ → List ℕ
status_json l = ascii "[" ⊕ or_nothing strings_of (split_text 59 l) ⊕ ascii "]"
