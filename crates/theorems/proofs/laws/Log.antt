-- The document of a valid calendar, in front of anything.
--     calendar_in_front    in what is written of a calendar no character data follows an end tag
--     document_end_lem     it ends where it ends, whatever follows
use Rattle.std.specs.Prelude.{◌≡◌, refl, Bool, true, false, List, [], ◌∷◌, ℕ, length, Option, None, Some}
use Rattle.std.proofs.lemmas.Bool.{false≢true}
use Rattle.octets.specs.Ascii.{ascii}
use Rattle.octets.specs.Pick.{◌and◌}
use Rattle.octets.specs.laws.Pick.{pick_either, and_yes}
use Rattle.octets.specs.Append.{◌⊕◌}
use Rattle.octets.specs.Class.{lower}
use Rattle.calendar.specs.Calendar.{RuleItem, RulePart, Value, binary, boolean, cal_address, date, date_time, duration, float, integer, period_explicit, period_start, recur, text, time, uri, utc_offset, unknown, geo, request_status, Parameter, Property, Components, no_more, component, Calendar}
use Rattle.validity.specs.ValidCalendar.{is_valid}
use Rattle.validity.proofs.laws.ValidCalendar.{valid_parts}
use Rattle.xml.specs.Content.{Content, nothing, child, char_data}
use Rattle.xcal.specs.WriteXml.{is_no_more, write_document}
use Rattle.xcal.proofs.laws.Contents.{leaf_before, items_before, parts_before, data_before, inside, value_before, values_before, parameters_before, parameters_part, property_inside, properties_before, components_part, component_inside, calendar_content}
use Rattle.xcal.proofs.laws.WrittenContents.{document_written}
use Rattle.xcal.proofs.laws.SoundContent.{sound_writable}
use Rattle.xcal.proofs.laws.SoundCalendar.{calendar_sound}
use Rattle.edition.specs.declared.Edition.{Edition}
use Rattle.documents.specs.Log.{document_end}
use Rattle.documents.specs.laws.Passed.{data_in_front}
use Rattle.documents.proofs.laws.Passed.{whole_document}

-- ---- where character data stands

abbrev Tags : Content → Type 0
Tags c = data_in_front c false ≡ true

abbrev Fits : Content → Type 0
Fits c = data_in_front c true ≡ true

-- content that begins with a tag may stand where character data may
tags_fit : (c : Content) → Tags c → Fits c
unfolding data_in_front ◌and◌
tags_fit nothing h = refl
tags_fit (child n c next) h = h
tags_fit (char_data s next) h = absurd (false≢true h)

no_tags : Tags nothing
unfolding data_in_front
no_tags = refl

element_tags : (n : List ℕ) (c next : Content) → Fits c → Tags next → Tags (child n c next)
unfolding data_in_front
element_tags n c next f t = and_yes _ _ f t

data_fits : (s : List ℕ) → Fits (char_data s nothing)
unfolding data_in_front ◌and◌
data_fits s = refl

leaf_tags : (n s : List ℕ) (next : Content) → Tags next → Tags (leaf_before n s next)
leaf_tags n s next t = element_tags n (char_data s nothing) next (data_fits s) t

-- ---- values

items_tags : (n : List ℕ) (is : List RuleItem) (next : Content) → Tags next → Tags (items_before n is next)
unfolding items_before
items_tags n [] next t = t
items_tags n (i ∷ is) next t = leaf_tags n _ _ (items_tags n is next t)

parts_tags : (ps : List RulePart) (next : Content) → Tags next → Tags (parts_before ps next)
unfolding parts_before
parts_tags [] next t = t
parts_tags (p ∷ ps) next t = items_tags (lower p.part) p.items _ (parts_tags ps next t)

status_tags : (x : Option (List ℕ)) (next : Content) → Tags next → Tags (data_before x next)
status_tags None next t = t
status_tags (Some s) next t = leaf_tags (ascii "data") s next t

inside_fits : (v : Value) → Fits (inside v)
unfolding inside
inside_fits (binary s) = data_fits _
inside_fits (boolean b) = data_fits _
inside_fits (cal_address s) = data_fits _
inside_fits (date s) = data_fits _
inside_fits (date_time s) = data_fits _
inside_fits (duration s) = data_fits _
inside_fits (float d) = data_fits _
inside_fits (integer w) = data_fits _
inside_fits (period_explicit s e) = tags_fit _ (leaf_tags (ascii "start") _ _ (leaf_tags (ascii "end") _ nothing no_tags))
inside_fits (period_start s d) = tags_fit _ (leaf_tags (ascii "start") _ _ (leaf_tags (ascii "duration") _ nothing no_tags))
inside_fits (recur ps) = tags_fit _ (parts_tags ps nothing no_tags)
inside_fits (text s) = data_fits _
inside_fits (time s) = data_fits _
inside_fits (uri s) = data_fits _
inside_fits (utc_offset s) = data_fits _
inside_fits (unknown s) = data_fits _
inside_fits (geo la lo) = tags_fit nothing no_tags
inside_fits (request_status c d x) = tags_fit nothing no_tags

value_tags : (v : Value) (next : Content) → Tags next → Tags (value_before v next)
unfolding value_before
value_tags (binary s) next t = element_tags _ _ next (inside_fits (binary s)) t
value_tags (boolean b) next t = element_tags _ _ next (inside_fits (boolean b)) t
value_tags (cal_address s) next t = element_tags _ _ next (inside_fits (cal_address s)) t
value_tags (date s) next t = element_tags _ _ next (inside_fits (date s)) t
value_tags (date_time s) next t = element_tags _ _ next (inside_fits (date_time s)) t
value_tags (duration s) next t = element_tags _ _ next (inside_fits (duration s)) t
value_tags (float d) next t = element_tags _ _ next (inside_fits (float d)) t
value_tags (integer w) next t = element_tags _ _ next (inside_fits (integer w)) t
value_tags (period_explicit s e) next t = element_tags _ _ next (inside_fits (period_explicit s e)) t
value_tags (period_start s d) next t = element_tags _ _ next (inside_fits (period_start s d)) t
value_tags (recur ps) next t = element_tags _ _ next (inside_fits (recur ps)) t
value_tags (text s) next t = element_tags _ _ next (inside_fits (text s)) t
value_tags (time s) next t = element_tags _ _ next (inside_fits (time s)) t
value_tags (uri s) next t = element_tags _ _ next (inside_fits (uri s)) t
value_tags (utc_offset s) next t = element_tags _ _ next (inside_fits (utc_offset s)) t
value_tags (unknown s) next t = element_tags _ _ next (inside_fits (unknown s)) t
value_tags (geo la lo) next t = leaf_tags (ascii "latitude") _ _ (leaf_tags (ascii "longitude") _ next t)
value_tags (request_status c d x) next t = leaf_tags (ascii "code") c _ (leaf_tags (ascii "description") d _ (status_tags x next t))

values_tags : (vs : List Value) (next : Content) → Tags next → Tags (values_before vs next)
unfolding values_before
values_tags [] next t = t
values_tags (v ∷ vs) next t = value_tags v _ (values_tags vs next t)

-- ---- parameters and properties

parameters_tags : (ps : List Parameter) (next : Content) → Tags next → Tags (parameters_before ps next)
unfolding parameters_before
parameters_tags [] next t = t
parameters_tags (p ∷ ps) next t = element_tags (lower p.name) _ _ (tags_fit _ (values_tags p.values nothing no_tags)) (parameters_tags ps next t)

part_tags : (ps : List Parameter) (next : Content) → Tags next → Tags (parameters_part ps next)
part_tags [] next t = t
part_tags (p ∷ ps) next t = element_tags (ascii "parameters") _ next (tags_fit _ (parameters_tags (p ∷ ps) nothing no_tags)) t

properties_tags : (ps : List Property) (next : Content) → Tags next → Tags (properties_before ps next)
unfolding properties_before
properties_tags [] next t = t
properties_tags (p ∷ ps) next t =
    element_tags (lower p.name) (property_inside p) _ (tags_fit _ (part_tags p.parameters _ (values_tags p.values nothing no_tags))) (properties_tags ps next t)

-- ---- components

components_tags : (n : List ℕ) (empty : Bool) (c : Content) → Fits c → Tags (components_part n empty c)
unfolding components_part
components_tags n empty c f = pick_either Tags _ _ _ some_tags (pick_either Tags empty _ _ no_tags some_tags)
  where
    some_tags : Tags (child (ascii "components") c nothing)
    some_tags = element_tags (ascii "components") c nothing f no_tags

pub calendar_in_front : (c : Components) → Tags (calendar_content c)
unfolding calendar_content
calendar_in_front no_more = no_tags
calendar_in_front (component n ps inner next) =
    element_tags (lower n) (component_inside n ps (is_no_more inner) (calendar_content inner)) _
    (tags_fit _ (element_tags (ascii "properties") _ _ (tags_fit _ (properties_tags ps nothing no_tags)) (components_tags n (is_no_more inner) (calendar_content inner) (tags_fit _ (calendar_in_front inner)))))
    (calendar_in_front next)

-- ---- the document

pub document_end_lem : (ed : Edition) (c : Calendar) (more : List ℕ) → is_valid ed c ≡ true → document_end (write_document c ⊕ more) ≡ Some (length (write_document c))
document_end_lem ed c more h =
    rw (document_written c) (whole_document (calendar_content c) 31 more (sound_writable (calendar_content c) 31 (calendar_sound ed c (valid_parts ed c h).1)) (tags_fit _ (calendar_in_front c)))
