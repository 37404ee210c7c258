-- The components of a valid calendar are read back from its JSON value, which has no fault (RFC 7265, sections 3.2 and 3.3).
--     tree_back, tree_fine    of the whole value
use Rattle.std.specs.Prelude.{◌≡◌, refl, Bool, true, false, not, List, [], ◌∷◌, map, ℕ, ◌-◌, ltb, None}
use Rattle.std.proofs.lemmas.Bool.{false≢true}
use Rattle.octets.specs.Pick.{pick, ◌and◌}
use Rattle.octets.specs.Class.{lower}
use Rattle.octets.specs.Words.{is_empty}
use Rattle.octets.specs.Lists.{every}
use Rattle.octets.specs.laws.Lists.{every_both}
use Rattle.octets.specs.Reading.{and_then, is_read, read_or}
use Rattle.calendar.specs.Calendar.{Property, Components, no_more, component}
use Rattle.calendar.specs.Levels.{levels}
use Rattle.calendar.specs.Refusal.{fine, ◌otherwise◌}
use Rattle.schema.specs.Components.{may_contain}
use Rattle.schema.specs.Counts.{method_for, complete}
use Rattle.edition.specs.declared.Edition.{Edition}
use Rattle.validity.specs.ValidCalendar.{is_kept_name, is_valid_property, has_components, are_valid, at_top, is_valid}
use Rattle.validity.proofs.laws.ValidCalendar.{valid_property, valid_component, valid_parts, valid_shallow}
use Rattle.xcal.proofs.laws.ElementNames.{kept_back}
use Rattle.json_text.specs.Tree.{array, Elements, no_elements, element, element_list}
use Rattle.json_text.specs.Kinds.{as_array}
use Rattle.jcal.specs.Property.{property_of}
use Rattle.jcal.specs.Components.{properties_verdict, component_name, property_arrays, component_fault, read_properties, method_inside, is_complete, components_verdict, component_verdict, inner_verdict, array_verdict, read_components, read_inside, read_inner, read_array, read_calendars, calendars_in}
use Rattle.jcal.proofs.laws.Trees.{element_list_lem, str, arr, property_elements, property_tree, components_tree, calendar_tree}
use Rattle.jcal.proofs.laws.PropertyBack.{good_name, property_fine, property_back}

-- ---- properties

properties_fine : (ed : Edition) (k : List ℕ) (ps : List Property) → every (is_valid_property ed k) ps ≡ true → properties_verdict ed k (map property_tree ps) ≡ fine
unfolding properties_verdict ◌otherwise◌
properties_fine ed k [] h = refl
properties_fine ed k (p ∷ ps) h =
    let a = every_both (is_valid_property ed k) p ps h in
    rw (element_list_lem (property_elements p), property_fine ed k p (valid_property ed k p a.0)) (properties_fine ed k ps a.1)

properties_back : (ed : Edition) (k : List ℕ) (ps : List Property) → every (is_valid_property ed k) ps ≡ true → map (λ v. property_of k (read_or [] (as_array v))) (map property_tree ps) ≡ ps
unfolding read_or
properties_back ed k [] h = refl
properties_back ed k (p ∷ ps) h =
    let a = every_both (is_valid_property ed k) p ps h in
    rw (element_list_lem (property_elements p), property_back ed k p (valid_property ed k p a.0), properties_back ed k ps a.1)

-- ---- one component

-- the elements of its array
abbrev parts : List ℕ → List Property → Components → Elements
parts n ps inner = element (str (lower n)) (element (arr (map property_tree ps)) (element (array 0 0 (components_tree inner)) no_elements))

some_inner : (c : Components) → not (is_empty (element_list (components_tree c))) ≡ has_components c
unfolding components_tree element_list
some_inner no_more = refl
some_inner (component n ps inner next) = refl

module _ (ed : Edition) (n : List ℕ) (ps : List Property) (inner : Components) (kept : is_kept_name n ≡ true) (h : every (is_valid_property ed n) ps ≡ true) where
  properties_there : read_properties (element_list (parts n ps inner)) ≡ ps
  unfolding element_list and_then read_or
  properties_there = rw (element_list_lem (map property_tree ps), kept_back n kept) (properties_back ed n ps h)

  no_fault : (may : List ℕ → Bool) (l : ℕ) → may n ≡ true → ltb 0 l ≡ true → component_fault may l (element_list (parts n ps inner)) ≡ None
  unfolding component_fault element_list and_then is_read read_or pick ◌and◌
  no_fault may l o e = rw (good_name n kept, kept_back n kept, o, e)

  method_there : (m : Bool) → method_inside (element_list (parts n ps inner)) m ≡ method_for n ps m
  unfolding element_list and_then read_or
  method_there m = rw (element_list_lem (map property_tree ps), kept_back n kept, properties_back ed n ps h)

  complete_there : (m : Bool) → is_complete (element_list (parts n ps inner)) m ≡ complete n ps (record { inner = has_components inner; method = m })
  unfolding element_list and_then read_or
  complete_there m = rw (element_list_lem (map property_tree ps), kept_back n kept, properties_back ed n ps h, some_inner inner)

  name_there : component_name (element_list (parts n ps inner)) ≡ n
  unfolding element_list and_then read_or
  name_there = kept_back n kept

  properties_part : properties_verdict ed (component_name (element_list (parts n ps inner))) (read_or [] (property_arrays (element_list (parts n ps inner)))) ≡ fine
  unfolding element_list and_then read_or
  properties_part = rw (element_list_lem (map property_tree ps), kept_back n kept) (properties_fine ed n ps h)

-- ---- all components

components_fine : (ed : Edition) (c : Components) (l : ℕ) (may : List ℕ → Bool) (m : Bool) → are_valid ed l may m c ≡ true → components_verdict ed (components_tree c) may l m ≡ fine
unfolding components_tree components_verdict component_verdict inner_verdict array_verdict ◌otherwise◌ pick
components_fine ed no_more l may m h = refl
components_fine ed (component n ps inner next) l may m h =
    let v = valid_component ed l may m n ps inner next h in
    rw (
      no_fault ed n ps inner v.kept v.properties may l v.named v.level,
      properties_part ed n ps inner v.kept v.properties,
      method_there ed n ps inner v.kept v.properties m,
      complete_there ed n ps inner v.kept v.properties m,
      name_there ed n ps inner v.kept v.properties,
      components_fine ed inner (l - 1) (may_contain n) (method_for n ps m) v.inside,
      v.counts,
    )
    (components_fine ed next l may m v.after)

components_back : (ed : Edition) (c : Components) (l : ℕ) (may : List ℕ → Bool) (m : Bool) → are_valid ed l may m c ≡ true → read_components (components_tree c) ≡ c
unfolding components_tree read_components read_inside read_inner read_array read_or
components_back ed no_more l may m h = refl
components_back ed (component n ps inner next) l may m h =
    let v = valid_component ed l may m n ps inner next h in
    rw (
      properties_there ed n ps inner v.kept v.properties,
      name_there ed n ps inner v.kept v.properties,
      components_back ed inner (l - 1) (may_contain n) (method_for n ps m) v.inside,
      components_back ed next l may m v.after,
    )

-- ---- the stream

calendars_there : (c : Components) → has_components c ≡ true → calendars_in (calendar_tree c) ≡ components_tree c
unfolding components_tree calendars_in element_list and_then is_read pick
calendars_there no_more h = absurd (false≢true h)
calendars_there (component n ps inner no_more) h = refl
calendars_there (component n ps inner (component k qs more next)) h = refl

pub tree_fine : (ed : Edition) (c : Components) → is_valid ed c ≡ true → components_verdict ed (calendars_in (calendar_tree c)) at_top levels false ≡ fine
tree_fine ed c h = let v = valid_parts ed c h in rw (calendars_there c v.0) (components_fine ed c levels at_top false v.1)

pub tree_back : (ed : Edition) (c : Components) → is_valid ed c ≡ true → read_calendars (calendars_in (calendar_tree c)) ≡ c
tree_back ed c h =
    let v = valid_parts ed c h in
    rw (calendars_there c v.0, components_back ed c levels at_top false v.1) (valid_shallow ed c levels at_top false v.1)
