-- A list of values of iCalendar text written as elements of XML.
--     pieces_xml     an element for each piece that is a value of a type
--     listed_xml     the same of a list of values, of TEXT or of another type
use Rattle.std.specs.Prelude.{List, [], ◌∷◌, ℕ, eqb}
use Rattle.octets.specs.Pick.{pick}
use Rattle.octets.specs.Append.{◌⊕◌}
use Rattle.octets.specs.Words.{cut_at}
use Rattle.octets.specs.Reading.{or_nothing}
use Rattle.calendar.specs.Calendar.{ical, ValueType}
use Rattle.schema.specs.Numbers.{type_at}
use Rattle.texts.specs.TextList.{read_texts}
use Rattle.texts.specs.Elements.{texts_xml}
use Rattle.values.specs.ReadValue.{read_value}
use Rattle.xcal.specs.WriteXml.{value_xml}

unfoldable pub pieces_xml : ValueType → List (List ℕ) → List ℕ
pieces_xml t [] = []
pieces_xml t (p ∷ ps) = or_nothing value_xml (read_value ical t p) ⊕ pieces_xml t ps

-- 10 is TEXT, 44 the comma
abbrev pub listed_xml : ℕ → List ℕ → List ℕ
listed_xml t l = pick (eqb t 10) (or_nothing texts_xml (read_texts l)) (pieces_xml (type_at t) (cut_at 44 l))
