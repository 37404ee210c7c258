-- The content of a calendar's XML, as a tree without places (RFC 6321, section 3): what WriteXml writes is this content, written.
--     inside v             the content of the element of a value that is spelled as its type says
--     value_before, values_before, parameters_before, properties_before  the elements of each, in front of what follows them
--     calendar_content     the content of the root
use Rattle.std.specs.Prelude.{Bool, List, [], ◌∷◌, ℕ, Option, None, Some}
use Rattle.octets.specs.Ascii.{ascii}
use Rattle.octets.specs.Pick.{pick}
use Rattle.octets.specs.Class.{lower}
use Rattle.octets.specs.Words.{same}
use Rattle.calendar.specs.Calendar.{xcal, RuleItem, RulePart, Value, binary, boolean, cal_address, date, date_time, duration, float, integer, period_explicit, period_start, recur, text, time, uri, utc_offset, unknown, geo, request_status, type_of, Parameter, Property, Components, no_more, component}
use Rattle.schema.specs.Types.{type_name}
use Rattle.numbers.specs.Float.{write_float}
use Rattle.times.specs.DateTime.{write_date_time}
use Rattle.times.specs.Duration.{write_duration}
use Rattle.recur.specs.Item.{write_item}
use Rattle.values.specs.WriteValue.{value_characters}
use Rattle.xml.specs.Content.{Content, nothing, child, char_data}
use Rattle.xcal.specs.WriteXml.{is_no_more}

-- an element of character data, in front of what follows it
abbrev pub leaf_before : List ℕ → List ℕ → Content → Content
leaf_before n s next = child n (char_data s nothing) next

-- ---- values

unfoldable pub items_before : List ℕ → List RuleItem → Content → Content
items_before n [] next = next
items_before n (i ∷ is) next = leaf_before n (write_item xcal i) (items_before n is next)

unfoldable pub parts_before : List RulePart → Content → Content
parts_before [] next = next
parts_before (p ∷ ps) next = items_before (lower p.part) p.items (parts_before ps next)

abbrev pub data_before : Option (List ℕ) → Content → Content
data_before None next = next
data_before (Some s) next = leaf_before (ascii "data") s next

abbrev pub plain_inside : Value → Content
plain_inside v = char_data (value_characters v) nothing

-- GEO and REQUEST-STATUS have children of their own, and no element of a type
unfoldable pub inside : Value → Content
inside (binary s) = plain_inside (binary s)
inside (boolean b) = plain_inside (boolean b)
inside (cal_address s) = plain_inside (cal_address s)
inside (date s) = plain_inside (date s)
inside (date_time s) = plain_inside (date_time s)
inside (duration s) = plain_inside (duration s)
inside (float d) = plain_inside (float d)
inside (integer w) = plain_inside (integer w)
inside (period_explicit s e) = leaf_before (ascii "start") (write_date_time xcal s) (leaf_before (ascii "end") (write_date_time xcal e) nothing)
inside (period_start s d) = leaf_before (ascii "start") (write_date_time xcal s) (leaf_before (ascii "duration") (write_duration xcal d) nothing)
inside (recur ps) = parts_before ps nothing
inside (text s) = plain_inside (text s)
inside (time s) = plain_inside (time s)
inside (uri s) = plain_inside (uri s)
inside (utc_offset s) = plain_inside (utc_offset s)
inside (unknown s) = plain_inside (unknown s)
inside (geo la lo) = nothing
inside (request_status c d x) = nothing

abbrev pub element_before : Value → Content → Content
element_before v next = child (lower (type_name (type_of v))) (inside v) next

unfoldable pub value_before : Value → Content → Content
value_before (binary s) next = element_before (binary s) next
value_before (boolean b) next = element_before (boolean b) next
value_before (cal_address s) next = element_before (cal_address s) next
value_before (date s) next = element_before (date s) next
value_before (date_time s) next = element_before (date_time s) next
value_before (duration s) next = element_before (duration s) next
value_before (float d) next = element_before (float d) next
value_before (integer w) next = element_before (integer w) next
value_before (period_explicit s e) next = element_before (period_explicit s e) next
value_before (period_start s d) next = element_before (period_start s d) next
value_before (recur ps) next = element_before (recur ps) next
value_before (text s) next = element_before (text s) next
value_before (time s) next = element_before (time s) next
value_before (uri s) next = element_before (uri s) next
value_before (utc_offset s) next = element_before (utc_offset s) next
value_before (unknown s) next = element_before (unknown s) next
value_before (geo la lo) next = leaf_before (ascii "latitude") (write_float la) (leaf_before (ascii "longitude") (write_float lo) next)
value_before (request_status c d x) next = leaf_before (ascii "code") c (leaf_before (ascii "description") d (data_before x next))

unfoldable pub values_before : List Value → Content → Content
values_before [] next = next
values_before (v ∷ vs) next = value_before v (values_before vs next)

-- ---- parameters and properties

unfoldable pub parameters_before : List Parameter → Content → Content
parameters_before [] next = next
parameters_before (p ∷ ps) next = child (lower p.name) (values_before p.values nothing) (parameters_before ps next)

-- no empty `parameters`
abbrev pub parameters_part : List Parameter → Content → Content
parameters_part [] next = next
parameters_part (p ∷ ps) next = child (ascii "parameters") (parameters_before (p ∷ ps) nothing) next

abbrev pub property_inside : Property → Content
property_inside p = parameters_part p.parameters (values_before p.values nothing)

unfoldable pub properties_before : List Property → Content → Content
properties_before [] next = next
properties_before (p ∷ ps) next = child (lower p.name) (property_inside p) (properties_before ps next)

-- ---- components

-- `components` of a component n whose subcomponents have the content c
unfoldable pub components_part : List ℕ → Bool → Content → Content
components_part n empty c = pick (same n (ascii "VCALENDAR")) (child (ascii "components") c nothing) (pick empty nothing (child (ascii "components") c nothing))

abbrev pub component_inside : List ℕ → List Property → Bool → Content → Content
component_inside n ps empty c = child (ascii "properties") (properties_before ps nothing) (components_part n empty c)

unfoldable pub calendar_content : Components → Content
calendar_content no_more = nothing
calendar_content (component n ps inner next) = child (lower n) (component_inside n ps (is_no_more inner) (calendar_content inner)) (calendar_content next)
