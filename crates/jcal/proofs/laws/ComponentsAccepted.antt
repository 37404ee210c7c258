-- Components read from arrays that are not refused, and whose strings are text, are valid (RFC 7265, sections 3.2 and 3.3).
--     components_accepted    the components that elements state
use Rattle.std.specs.Prelude.{◌≡◌, refl, Bool, true, not, List, [], ◌∷◌, map, ℕ, zero, suc, ◌-◌, ltb, Option, None, Some}
use Rattle.std.proofs.Common.{sym, ap, ◌∙◌}
use Rattle.octets.specs.Pick.{◌and◌}
use Rattle.octets.specs.laws.Pick.{and_both, and_yes}
use Rattle.octets.specs.Class.{upper}
use Rattle.octets.specs.Words.{is_empty}
use Rattle.octets.specs.Lists.{every}
use Rattle.octets.specs.laws.Lists.{every_both}
use Rattle.octets.specs.Reading.{and_then, is_read, read_or}
use Rattle.octets.specs.laws.Reading.{read_some, and_then-some}
use Rattle.calendar.specs.Calendar.{Components, component}
use Rattle.calendar.specs.Refusal.{Refusal, NAME, FRAME, COUNT, fine}
use Rattle.calendar.specs.laws.Refusal.{refused_not}
use Rattle.schema.specs.Components.{may_contain}
use Rattle.edition.specs.declared.Edition.{Edition}
use Rattle.validity.specs.ValidCalendar.{is_kept_name, is_valid_property, has_components, are_valid}
use Rattle.validity.proofs.laws.ValidCalendar.{component_valid}
use Rattle.xcal.proofs.laws.Accepted.{both_fine, test_fine}
use Rattle.json_text.specs.Tree.{Json, string, number, literal, array, object, Elements, no_elements, element, element_list, place_of}
use Rattle.json_text.specs.Kinds.{as_array, nth}
use Rattle.jcal.specs.Property.{name_in, is_bad_name, passes, property_fault, property_of}
use Rattle.jcal.specs.Components.{at, property_verdict, properties_verdict, component_name, property_arrays, read_properties, is_component, component_fault, method_inside, is_complete, components_verdict, component_verdict, inner_verdict, array_verdict, read_components, read_inside, read_inner, read_array}
use Rattle.jcal.proofs.laws.Textual.{is_textual, are_textual}
use Rattle.jcal.proofs.laws.ValuesAccepted.{elements_textual, array_textual}
use Rattle.jcal.proofs.laws.ParametersAccepted.{good_kept}
use Rattle.jcal.proofs.laws.PropertyAccepted.{past_fault, last_fault, nth_textual, passed_name, property_accepted}

at-fine : (p : ℕ) (o : Option Refusal) → at p o ≡ fine → o ≡ None
at-fine p None h = refl
at-fine p (Some r) h = refused_not r p h

-- ---- properties

properties_accepted : (ed : Edition) (k : List ℕ) (vs : List Json) → every is_textual vs ≡ true → properties_verdict ed k vs ≡ fine → every (is_valid_property ed k) (map (λ v. property_of k (read_or [] (as_array v))) vs) ≡ true
unfolding properties_verdict every read_or
properties_accepted ed k [] c h = refl
properties_accepted ed k (v ∷ vs) c h =
    let a = both_fine (property_verdict ed k v (as_array v)) _ h in
    let b = every_both is_textual v vs c in
    and_yes _ _ (go (as_array v) refl b.0 a.0) (properties_accepted ed k vs b.1 a.1)
  where
    go : (o : Option (List Json)) → as_array v ≡ o → is_textual v ≡ true → property_verdict ed k v o ≡ fine → is_valid_property ed k (property_of k (read_or [] o)) ≡ true
    go None e c h = refused_not FRAME (place_of v) h
    go (Some xs) e c h = property_accepted ed k xs (array_textual v xs c e) (at-fine (place_of v) (property_fault ed k xs) h)

-- ---- one component

-- whether there is a subcomponent
has_array : (v : Json) → not (is_empty (read_or [] (as_array v))) ≡ has_components (read_array v)
unfolding read_or read_array read_components element_list
has_array (string p s) = refl
has_array (number p s) = refl
has_array (literal p s) = refl
has_array (object p e ms) = refl
has_array (array p e no_elements) = refl
has_array (array p e (element v vs)) = refl

has_inner : (xs : Elements) (k : ℕ) → not (is_empty (read_or [] (and_then (nth k (element_list xs)) as_array))) ≡ has_components (read_inner xs k)
unfolding read_or and_then element_list read_inner
has_inner no_elements zero = refl
has_inner no_elements (suc k) = refl
has_inner (element v vs) zero = has_array v
has_inner (element v vs) (suc k) = has_inner vs k

arrays_textual : (vs : List Json) → every is_textual vs ≡ true → every is_textual (read_or [] (property_arrays vs)) ≡ true
unfolding read_or every
arrays_textual vs c = go (property_arrays vs) refl
  where
    go : (o : Option (List Json)) → property_arrays vs ≡ o → every is_textual (read_or [] o) ≡ true
    go None e = refl
    go (Some xs) e = let a = and_then-some (nth 1 vs) as_array xs e in array_textual a.0 xs (nth_textual 1 vs a.0 c a.1) a.2

-- a component's array with no fault of its own
record Sound (may : List ℕ → Bool) (l : ℕ) (vs : List Json) : Type 0 where
  kept : is_kept_name (component_name vs) ≡ true
  named : may (component_name vs) ≡ true
  level : ltb 0 l ≡ true

fault_sound : (may : List ℕ → Bool) (l : ℕ) (vs : List Json) → component_fault may l vs ≡ None → Sound may l vs
unfolding component_fault read_or
fault_sound may l vs h =
    let a = past_fault (passes is_bad_name (name_in vs)) NAME _ h in
    let b = and_both (is_component vs) _ (last_fault (is_component vs and may (component_name vs) and ltb 0 l) FRAME a.1) in
    let c = and_both (may (component_name vs)) _ b.1 in
    let m = read_some (name_in vs) (and_both (is_read (name_in vs)) _ b.0).0 in
    let z : upper m.0 ≡ component_name vs = ap (λ (o : Option (List ℕ)). upper (read_or [] o)) (sym m.1) in
    record { kept = ap is_kept_name (sym z) ∙ good_kept m.0 (passed_name is_bad_name (name_in vs) m.0 m.1 a.0); named = c.0; level = c.1 }

-- ---- all components

mutual
  unfolding components_verdict component_verdict inner_verdict array_verdict read_components read_inside read_inner read_array are_valid is_textual are_textual read_or

  pub components_accepted : (ed : Edition) (vs : Elements) (may : List ℕ → Bool) (l : ℕ) (m : Bool) → are_textual vs ≡ true → components_verdict ed vs may l m ≡ fine → are_valid ed l may m (read_components vs) ≡ true
  components_accepted ed no_elements may l m c h = refl
  components_accepted ed (element v vs) may l m c h =
      let a = and_both (is_textual v) _ c in
      let b = both_fine (component_verdict ed v may l m) _ h in
      component_accepted ed v may l m (read_components vs) a.0 b.0 (components_accepted ed vs may l m a.1 b.1)

  component_accepted : (ed : Edition) (v : Json) (may : List ℕ → Bool) (l : ℕ) (m : Bool) (next : Components) → is_textual v ≡ true → component_verdict ed v may l m ≡ fine → are_valid ed l may m next ≡ true →
      are_valid ed l may m (component (component_name (read_or [] (as_array v))) (read_properties (read_or [] (as_array v))) (read_inside v) next) ≡ true
  component_accepted ed (string p s) may l m next c h n = refused_not FRAME p h
  component_accepted ed (number p s) may l m next c h n = refused_not FRAME p h
  component_accepted ed (literal p s) may l m next c h n = refused_not FRAME p h
  component_accepted ed (object p e ms) may l m next c h n = refused_not FRAME p h
  component_accepted ed (array p e vs) may l m next c h n =
      let xs = element_list vs in
      let a = both_fine (at p (component_fault may l xs)) _ h in
      let b = both_fine (properties_verdict ed (component_name xs) (read_or [] (property_arrays xs))) _ a.1 in
      let d = both_fine (inner_verdict ed vs 2 (may_contain (component_name xs)) (l - 1) (method_inside xs m)) _ b.1 in
      let f = test_fine (is_complete xs m) fine COUNT e d.1 in
      let s = fault_sound may l xs (at-fine p (component_fault may l xs) a.0) in
      component_valid ed l may m (component_name xs) (read_properties xs) (read_inner vs 2) next (record {
        level = s.level;
        kept = s.kept;
        named = s.named;
        properties = properties_accepted ed (component_name xs) (read_or [] (property_arrays xs)) (arrays_textual xs (elements_textual vs c)) b.0;
        counts = rw (← (has_inner vs 2)) f.0;
        inside = inner_accepted ed vs 2 (may_contain (component_name xs)) (l - 1) (method_inside xs m) c d.0;
        after = n;
      })

  inner_accepted : (ed : Edition) (vs : Elements) (k : ℕ) (may : List ℕ → Bool) (l : ℕ) (m : Bool) → are_textual vs ≡ true → inner_verdict ed vs k may l m ≡ fine → are_valid ed l may m (read_inner vs k) ≡ true
  inner_accepted ed no_elements k may l m c h = refl
  inner_accepted ed (element v vs) zero may l m c h = array_accepted ed v may l m (and_both (is_textual v) _ c).0 h
  inner_accepted ed (element v vs) (suc k) may l m c h = inner_accepted ed vs k may l m (and_both (is_textual v) _ c).1 h

  array_accepted : (ed : Edition) (v : Json) (may : List ℕ → Bool) (l : ℕ) (m : Bool) → is_textual v ≡ true → array_verdict ed v may l m ≡ fine → are_valid ed l may m (read_array v) ≡ true
  array_accepted ed (string p s) may l m c h = refl
  array_accepted ed (number p s) may l m c h = refl
  array_accepted ed (literal p s) may l m c h = refl
  array_accepted ed (object p e ms) may l m c h = refl
  array_accepted ed (array p e vs) may l m c h = components_accepted ed vs may l m c h
