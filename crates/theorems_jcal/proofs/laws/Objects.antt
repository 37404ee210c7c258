-- The jCal objects of canonical jCal are what is written of its calendars.
--     components_joined    of calendars that are joined
--     objects_are          of a valid calendar
--     some_objects         jCal has an object, so that what is joined of two stands in an outer array
use Rattle.std.specs.Prelude.{◌≡◌, refl, true, List, [], ℕ}
use Rattle.std.proofs.Common.{sym, ap, subst, ◌∙◌}
use Rattle.std.proofs.lemmas.Bool.{false≢true}
use Rattle.octets.specs.Pick.{pick}
use Rattle.octets.specs.Append.{◌⊕◌}
use Rattle.octets.specs.Words.{is_empty}
use Rattle.octets.specs.Reading.{and_then, is_read}
use Rattle.calendar.specs.Calendar.{Calendar, no_more, component}
use Rattle.validity.specs.ValidCalendar.{has_components, is_valid}
use Rattle.validity.proofs.laws.ValidCalendar.{valid_parts}
use Rattle.edition.specs.declared.Edition.{Edition}
use Rattle.json_text.specs.Bytes.{most_open}
use Rattle.json_text.specs.Tree.{Json, string, number, literal, array, object, Elements, no_elements, element, Members, no_members, member, value_of, element_list}
use Rattle.json_text.specs.Write.{array_of, object_of}
use Rattle.json_text.specs.Written.{written, written_elements, written_members, bare, bare_elements, bare_members}
use Rattle.json_text.specs.laws.TreeBack.{written_back}
use Rattle.jcal.specs.Components.{calendars_in}
use Rattle.jcal.specs.Computing.{jcal_compute}
use Rattle.jcal.specs.WriteJcal.{components_json, write_jcal}
use Rattle.jcal.proofs.laws.Trees.{components_tree, calendar_tree, calendar_written}
use Rattle.jcal.proofs.laws.Writable.{calendar_writable}
use Rattle.theorems.specs.Joined.{◌followed_by◌}
use Rattle.theorems_jcal.specs.Joined.{objects_in, Objects}

-- ---- places are not written

mutual
  unfolding written written_elements written_members bare bare_elements bare_members

  value_bare : (v : Json) → written (bare v) ≡ written v
  value_bare (string p s) = refl
  value_bare (number p s) = refl
  value_bare (literal p s) = refl
  value_bare (array p e vs) = ap array_of (elements_bare vs)
  value_bare (object p e ms) = ap object_of (members_bare ms)

  elements_bare : (vs : Elements) → written_elements (bare_elements vs) ≡ written_elements vs
  elements_bare no_elements = refl
  elements_bare (element v vs) = rw (value_bare v, elements_bare vs)

  members_bare : (ms : Members) → written_members (bare_members ms) ≡ written_members ms
  members_bare no_members = refl
  members_bare (member n v ms) = rw (value_bare v, members_bare ms)

one_bare : (v : Json) → written_elements (element (bare v) no_elements) ≡ written_elements (element v no_elements)
unfolding written_elements
one_bare v = rw (value_bare v)

calendars_bare : (v : Json) → written_elements (calendars_in (bare v)) ≡ written_elements (calendars_in v)
unfolding calendars_in bare bare_elements element_list and_then is_read pick
calendars_bare (string p s) = one_bare (string p s)
calendars_bare (number p s) = one_bare (number p s)
calendars_bare (literal p s) = one_bare (literal p s)
calendars_bare (object p e ms) = one_bare (object p e ms)
calendars_bare (array p e no_elements) = one_bare (array p e no_elements)
calendars_bare (array p e (element (string q s) vs)) = one_bare (array p e (element (string q s) vs))
calendars_bare (array p e (element (number q s) vs)) = one_bare (array p e (element (number q s) vs))
calendars_bare (array p e (element (literal q s) vs)) = one_bare (array p e (element (literal q s) vs))
calendars_bare (array p e (element (object q f ms) vs)) = one_bare (array p e (element (object q f ms) vs))
calendars_bare (array p e (element (array q f ws) vs)) = elements_bare (element (array q f ws) vs)

-- ---- calendars

pub components_joined : (c d : Calendar) → components_json (c followed_by d) ≡ components_json c ⊕ components_json d
unfolding components_json ◌followed_by◌ ◌⊕◌
components_joined no_more d = refl
components_joined (component n ps inner next) d = rw (components_joined next d)

components_written : (c : Calendar) → written_elements (components_tree c) ≡ components_json c
unfolding written_elements components_tree components_json write_jcal
components_written no_more = refl
components_written (component n ps inner next) = rw (one, components_written next)
  where
    one : written (calendar_tree (component n ps inner no_more)) ≡ write_jcal (component n ps inner no_more)
    one = calendar_written (component n ps inner no_more)

tree_objects : (c : Calendar) → has_components c ≡ true → written_elements (calendars_in (calendar_tree c)) ≡ components_json c
unfolding components_tree calendars_in element_list and_then is_read pick
tree_objects no_more h = absurd (false≢true h)
tree_objects (component n ps inner no_more) h = components_written (component n ps inner no_more)
tree_objects (component n ps inner (component k qs more next)) h = components_written (component n ps inner (component k qs more next))

pub objects_are : (ed : Edition) (c : Calendar) → is_valid ed c ≡ true → objects_in (write_jcal c) ≡ components_json c
objects_are ed c h =
    let v = valid_parts ed c h in
    subst (λ (x : List ℕ). objects_in x ≡ components_json c) (calendar_written c)
    (sym (calendars_bare (value_of (written (calendar_tree c))))
    ∙ ap (λ (w : Json). written_elements (calendars_in w)) (written_back (calendar_tree c) most_open (calendar_writable ed c v.1))
    ∙ calendars_bare (calendar_tree c)
    ∙ tree_objects c v.0)

pub some_objects : (x : List ℕ) → Objects [] x → ⊥
unfolding jcal_compute written_elements
some_objects x o = false≢true (ap (λ (vs : List (List ℕ)). is_empty vs) (ap objects_in (sym o.bytes) ∙ o.elements))
