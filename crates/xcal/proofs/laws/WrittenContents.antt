-- What WriteXml writes of a calendar is its content, written.
--     value_written, values_written, parameters_written, properties_written    of each, in front of what follows
--     calendar_written     of components
--     document_written     a document is the content of its root, written
use Rattle.std.specs.Prelude.{◌≡◌, refl, Bool, true, false, List, [], ◌∷◌, ℕ, Option, None, Some}
use Rattle.std.proofs.Common.{sym, ap, ◌∙◌}
use Rattle.octets.specs.Ascii.{ascii}
use Rattle.octets.specs.Pick.{pick}
use Rattle.octets.specs.Append.{◌⊕◌}
use Rattle.octets.specs.laws.Append.{append_empty, append_none, append_regroup}
use Rattle.octets.specs.Class.{lower}
use Rattle.octets.specs.Words.{same}
use Rattle.octets.specs.Computing.{octets_compute}
use Rattle.calendar.specs.Calendar.{xcal, RuleItem, RulePart, Value, binary, boolean, cal_address, date, date_time, duration, float, integer, period_explicit, period_start, recur, text, time, uri, utc_offset, unknown, geo, request_status, type_of, Parameter, Property, Components, no_more, component}
use Rattle.schema.specs.Types.{type_name}
use Rattle.numbers.specs.Float.{write_float}
use Rattle.times.specs.DateTime.{write_date_time}
use Rattle.times.specs.Duration.{write_duration}
use Rattle.recur.specs.Item.{write_item}
use Rattle.values.specs.WriteValue.{value_characters}
use Rattle.xml.specs.Escape.{escaped, element_of, document_of}
use Rattle.xml.specs.Content.{Content, nothing, child, written}
use Rattle.xcal.specs.WriteXml.{text_element, items_xml, parts_xml, data_xml, plain_xml, value_xml, values_xml, parameter_xml, parameters_xml, parameters_element, property_xml, properties_xml, is_no_more, components_element, components_xml, write_document}
use Rattle.xcal.proofs.laws.Contents.{leaf_before, items_before, parts_before, data_before, plain_inside, inside, value_before, values_before, parameters_before, parameters_part, property_inside, properties_before, components_part, component_inside, calendar_content}

leaf_written : (n s : List ℕ) (next : Content) → written (leaf_before n s next) ≡ text_element n s ⊕ written next
unfolding written
leaf_written n s next = ap (λ (t : List ℕ). element_of n t ⊕ written next) (append_none (escaped s))

-- the content of an element in front of what follows it, where its own content is known
in_front : (n s : List ℕ) (c next : Content) → written c ≡ s → written (child n c next) ≡ element_of n s ⊕ written next
unfolding written
in_front n s c next e = ap (λ (t : List ℕ). element_of n t ⊕ written next) e

two_leaves : (n s m t : List ℕ) (next : Content) → written (leaf_before n s (leaf_before m t next)) ≡ (text_element n s ⊕ text_element m t) ⊕ written next
two_leaves n s m t next = leaf_written n s (leaf_before m t next) ∙ ap (λ (x : List ℕ). text_element n s ⊕ x) (leaf_written m t next) ∙ sym (append_regroup (text_element n s) (text_element m t) (written next))

items_written : (n : List ℕ) (is : List RuleItem) (next : Content) → written (items_before n is next) ≡ items_xml n is ⊕ written next
unfolding items_before items_xml
items_written n [] next = sym (append_empty (written next))
items_written n (i ∷ is) next =
    leaf_written n (write_item xcal i) (items_before n is next)
    ∙ ap (λ (t : List ℕ). text_element n (write_item xcal i) ⊕ t) (items_written n is next)
    ∙ sym (append_regroup (text_element n (write_item xcal i)) (items_xml n is) (written next))

parts_written : (ps : List RulePart) (next : Content) → written (parts_before ps next) ≡ parts_xml ps ⊕ written next
unfolding parts_before parts_xml
parts_written [] next = sym (append_empty (written next))
parts_written (p ∷ ps) next =
    items_written (lower p.part) p.items (parts_before ps next)
    ∙ ap (λ (t : List ℕ). items_xml (lower p.part) p.items ⊕ t) (parts_written ps next)
    ∙ sym (append_regroup (items_xml (lower p.part) p.items) (parts_xml ps) (written next))

plain_written : (v : Value) (next : Content) → written (child (lower (type_name (type_of v))) (plain_inside v) next) ≡ plain_xml v ⊕ written next
plain_written v next = leaf_written (lower (type_name (type_of v))) (value_characters v) next

nothing_written : (s : List ℕ) (c : Content) → written c ≡ s ⊕ written nothing → written c ≡ s
unfolding written
nothing_written s c e = e ∙ append_none s

-- the elements of PERIOD and RECUR
period_name : lower (ascii "PERIOD") ≡ ascii "period"
unfolding octets_compute
period_name = refl

recur_name : lower (ascii "RECUR") ≡ ascii "recur"
unfolding octets_compute
recur_name = refl

status_data : (x : Option (List ℕ)) (next : Content) → written (data_before x next) ≡ data_xml x ⊕ written next
status_data None next = sym (append_empty (written next))
status_data (Some s) next = leaf_written (ascii "data") s next

pub value_written : (v : Value) (next : Content) → written (value_before v next) ≡ value_xml v ⊕ written next
unfolding value_before inside value_xml
value_written (binary s) next = plain_written (binary s) next
value_written (boolean b) next = plain_written (boolean b) next
value_written (cal_address s) next = plain_written (cal_address s) next
value_written (date s) next = plain_written (date s) next
value_written (date_time s) next = plain_written (date_time s) next
value_written (duration s) next = plain_written (duration s) next
value_written (float d) next = plain_written (float d) next
value_written (integer w) next = plain_written (integer w) next
value_written (period_explicit s e) next =
    rw period_name
    (in_front (ascii "period") _ _ next (nothing_written _ _ (two_leaves (ascii "start") (write_date_time xcal s) (ascii "end") (write_date_time xcal e) nothing)))
value_written (period_start s d) next =
    rw period_name
    (in_front (ascii "period") _ _ next (nothing_written _ _ (two_leaves (ascii "start") (write_date_time xcal s) (ascii "duration") (write_duration xcal d) nothing)))
value_written (recur ps) next = rw recur_name (in_front (ascii "recur") (parts_xml ps) (parts_before ps nothing) next (nothing_written (parts_xml ps) _ (parts_written ps nothing)))
value_written (text s) next = plain_written (text s) next
value_written (time s) next = plain_written (time s) next
value_written (uri s) next = plain_written (uri s) next
value_written (utc_offset s) next = plain_written (utc_offset s) next
value_written (unknown s) next = plain_written (unknown s) next
value_written (geo la lo) next = two_leaves (ascii "latitude") (write_float la) (ascii "longitude") (write_float lo) next
value_written (request_status c d x) next =
    two_leaves (ascii "code") c (ascii "description") d (data_before x next)
    ∙ ap (λ (t : List ℕ). (text_element (ascii "code") c ⊕ text_element (ascii "description") d) ⊕ t) (status_data x next)
    ∙ append_regroup (text_element (ascii "code") c) (text_element (ascii "description") d) (data_xml x ⊕ written next)
    ∙ ap (λ (t : List ℕ). text_element (ascii "code") c ⊕ t) (sym (append_regroup (text_element (ascii "description") d) (data_xml x) (written next)))
    ∙ sym (append_regroup (text_element (ascii "code") c) (text_element (ascii "description") d ⊕ data_xml x) (written next))

pub values_written : (vs : List Value) (next : Content) → written (values_before vs next) ≡ values_xml vs ⊕ written next
unfolding values_before values_xml
values_written [] next = sym (append_empty (written next))
values_written (v ∷ vs) next =
    value_written v (values_before vs next)
    ∙ ap (λ (t : List ℕ). value_xml v ⊕ t) (values_written vs next)
    ∙ sym (append_regroup (value_xml v) (values_xml vs) (written next))

pub parameters_written : (ps : List Parameter) (next : Content) → written (parameters_before ps next) ≡ parameters_xml ps ⊕ written next
unfolding parameters_before parameters_xml parameter_xml
parameters_written [] next = sym (append_empty (written next))
parameters_written (p ∷ ps) next =
    in_front (lower p.name) (values_xml p.values) (values_before p.values nothing) (parameters_before ps next) (nothing_written _ _ (values_written p.values nothing))
    ∙ ap (λ (t : List ℕ). parameter_xml p ⊕ t) (parameters_written ps next)
    ∙ sym (append_regroup (parameter_xml p) (parameters_xml ps) (written next))

parameters_part_lem : (ps : List Parameter) (next : Content) → written (parameters_part ps next) ≡ parameters_element ps ⊕ written next
parameters_part_lem [] next = sym (append_empty (written next))
parameters_part_lem (p ∷ ps) next = in_front (ascii "parameters") (parameters_xml (p ∷ ps)) (parameters_before (p ∷ ps) nothing) next (nothing_written _ _ (parameters_written (p ∷ ps) nothing))

pub properties_written : (ps : List Property) (next : Content) → written (properties_before ps next) ≡ properties_xml ps ⊕ written next
unfolding properties_before properties_xml property_xml
properties_written [] next = sym (append_empty (written next))
properties_written (p ∷ ps) next =
    in_front (lower p.name) _ (property_inside p) (properties_before ps next)
    (parameters_part_lem p.parameters (values_before p.values nothing)
    ∙ ap (λ (t : List ℕ). parameters_element p.parameters ⊕ t) (nothing_written _ _ (values_written p.values nothing)))
    ∙ ap (λ (t : List ℕ). property_xml p ⊕ t) (properties_written ps next)
    ∙ sym (append_regroup (property_xml p) (properties_xml ps) (written next))

components_part_lem : (n : List ℕ) (empty : Bool) (c : Content) (s : List ℕ) → written c ≡ s → written (components_part n empty c) ≡ components_element n empty s
unfolding components_part components_element written pick
components_part_lem n empty c s e = go (same n (ascii "VCALENDAR")) empty
  where
    one : written (child (ascii "components") c nothing) ≡ element_of (ascii "components") s
    one = nothing_written (element_of (ascii "components") s) (child (ascii "components") c nothing) (in_front (ascii "components") s c nothing e)

    go : (t u : Bool) → written (pick t (child (ascii "components") c nothing) (pick u nothing (child (ascii "components") c nothing)))
        ≡ pick t (element_of (ascii "components") s) (pick u [] (element_of (ascii "components") s))
    go true u = one
    go false true = refl
    go false false = one

pub calendar_written : (c : Components) → written (calendar_content c) ≡ components_xml c
unfolding calendar_content components_xml written
calendar_written no_more = refl
calendar_written (component n ps inner next) =
    in_front (lower n) _ (component_inside n ps (is_no_more inner) (calendar_content inner)) (calendar_content next)
    (in_front (ascii "properties") (properties_xml ps) (properties_before ps nothing) (components_part n (is_no_more inner) (calendar_content inner)) (nothing_written (properties_xml ps) (properties_before ps nothing) (properties_written ps nothing))
    ∙ ap (λ (t : List ℕ). element_of (ascii "properties") (properties_xml ps) ⊕ t) (components_part_lem n (is_no_more inner) (calendar_content inner) (components_xml inner) (calendar_written inner)))
    ∙ ap (λ (t : List ℕ). element_of (lower n) (element_of (ascii "properties") (properties_xml ps) ⊕ components_element n (is_no_more inner) (components_xml inner)) ⊕ t) (calendar_written next)

pub document_written : (c : Components) → write_document c ≡ document_of (written (calendar_content c))
unfolding write_document octets_compute
document_written c = ap document_of (sym (calendar_written c))
