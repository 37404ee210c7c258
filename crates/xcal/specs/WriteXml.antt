-- The canonical XML of a calendar (RFC 6321, section 3): the declaration, LF, the root element, LF; no other white space between elements, start and end
-- tags always both, no empty `parameters`; `components` in every VCALENDAR, elsewhere only if not empty.
--     value_xml, parameter_xml, property_xml, components_xml  the elements of each
--     write_document                                          the document
use Rattle.std.specs.Prelude.{Bool, true, false, List, [], ◌∷◌, ℕ, Option, None, Some}
use Rattle.octets.specs.Ascii.{ascii}
use Rattle.octets.specs.Pick.{pick}
use Rattle.octets.specs.Append.{◌⊕◌}
use Rattle.octets.specs.Class.{lower}
use Rattle.octets.specs.Words.{same}
use Rattle.calendar.specs.Calendar.{xcal, RuleItem, RulePart, Value, binary, boolean, cal_address, date, date_time, duration, float, integer, period_explicit, period_start, recur, text, time, uri, utc_offset, unknown, geo, request_status, type_of, Parameter, Property, Components, no_more, component}
use Rattle.schema.specs.Types.{type_name}
use Rattle.numbers.specs.Float.{write_float}
use Rattle.times.specs.DateTime.{write_date_time}
use Rattle.times.specs.Duration.{write_duration}
use Rattle.recur.specs.Item.{write_item}
use Rattle.values.specs.WriteValue.{value_characters}
use Rattle.xml.specs.Escape.{escaped, element_of, root_start}

-- an element of character data
abbrev pub text_element : List ℕ → List ℕ → List ℕ
text_element n s = element_of n (escaped s)

-- ---- values (section 3.6)

-- a rule part is an element for each of its items
unfoldable pub items_xml : List ℕ → List RuleItem → List ℕ
items_xml n [] = []
items_xml n (i ∷ is) = text_element n (write_item xcal i) ⊕ items_xml n is

unfoldable pub parts_xml : List RulePart → List ℕ
parts_xml [] = []
parts_xml (p ∷ ps) = items_xml (lower p.part) p.items ⊕ parts_xml ps

abbrev pub data_xml : Option (List ℕ) → List ℕ
data_xml None = []
data_xml (Some s) = text_element (ascii "data") s

abbrev pub plain_xml : Value → List ℕ
plain_xml v = text_element (lower (type_name (type_of v))) (value_characters v)

unfoldable pub value_xml : Value → List ℕ
value_xml (binary s) = plain_xml (binary s)
value_xml (boolean b) = plain_xml (boolean b)
value_xml (cal_address s) = plain_xml (cal_address s)
value_xml (date s) = plain_xml (date s)
value_xml (date_time s) = plain_xml (date_time s)
value_xml (duration s) = plain_xml (duration s)
value_xml (float d) = plain_xml (float d)
value_xml (integer w) = plain_xml (integer w)
value_xml (period_explicit s e) = element_of (ascii "period") (text_element (ascii "start") (write_date_time xcal s) ⊕ text_element (ascii "end") (write_date_time xcal e))
value_xml (period_start s d) = element_of (ascii "period") (text_element (ascii "start") (write_date_time xcal s) ⊕ text_element (ascii "duration") (write_duration xcal d))
value_xml (recur ps) = element_of (ascii "recur") (parts_xml ps)
value_xml (text s) = plain_xml (text s)
value_xml (time s) = plain_xml (time s)
value_xml (uri s) = plain_xml (uri s)
value_xml (utc_offset s) = plain_xml (utc_offset s)
value_xml (unknown s) = plain_xml (unknown s)
value_xml (geo la lo) = text_element (ascii "latitude") (write_float la) ⊕ text_element (ascii "longitude") (write_float lo)
value_xml (request_status c d x) = text_element (ascii "code") c ⊕ text_element (ascii "description") d ⊕ data_xml x

unfoldable pub values_xml : List Value → List ℕ
values_xml [] = []
values_xml (v ∷ vs) = value_xml v ⊕ values_xml vs

-- ---- parameters (section 3.5) and properties (section 3.4)

unfoldable pub parameter_xml : Parameter → List ℕ
parameter_xml p = element_of (lower p.name) (values_xml p.values)

unfoldable pub parameters_xml : List Parameter → List ℕ
parameters_xml [] = []
parameters_xml (p ∷ ps) = parameter_xml p ⊕ parameters_xml ps

-- no empty `parameters`
abbrev pub parameters_element : List Parameter → List ℕ
parameters_element [] = []
parameters_element (p ∷ ps) = element_of (ascii "parameters") (parameters_xml (p ∷ ps))

unfoldable pub property_xml : Property → List ℕ
property_xml p = element_of (lower p.name) (parameters_element p.parameters ⊕ values_xml p.values)

unfoldable pub properties_xml : List Property → List ℕ
properties_xml [] = []
properties_xml (p ∷ ps) = property_xml p ⊕ properties_xml ps

-- ---- components (sections 3.2 and 3.3)

abbrev pub is_no_more : Components → Bool
is_no_more no_more = true
is_no_more (component n ps inner next) = false

-- `components` of a component n with these subcomponents, of which s is the XML
unfoldable pub components_element : List ℕ → Bool → List ℕ → List ℕ
components_element n empty s = pick (same n (ascii "VCALENDAR")) (element_of (ascii "components") s) (pick empty [] (element_of (ascii "components") s))

unfoldable pub components_xml : Components → List ℕ
components_xml no_more = []
components_xml (component n ps inner next) =
    element_of (lower n) (element_of (ascii "properties") (properties_xml ps) ⊕ components_element n (is_no_more inner) (components_xml inner)) ⊕ components_xml next

-- ---- the document

abbrev pub declaration : List ℕ
declaration = ascii "<?xml version=\"1.0\" encoding=\"utf-8\"?>"

abbrev pub root_end : List ℕ
root_end = ascii "</icalendar>"

-- 10 is LF
unfoldable pub write_document : Components → List ℕ
write_document c = declaration ⊕ (10 ∷ []) ⊕ root_start ⊕ components_xml c ⊕ root_end ⊕ (10 ∷ [])
