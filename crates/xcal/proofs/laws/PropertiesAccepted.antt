-- Properties read from elements that are not refused are valid (RFC 6321, section 3.4).
--     properties_accepted
use Rattle.std.specs.Prelude.{◌≡◌, Bool, ℕ}
use Rattle.std.proofs.Math.Path.{refl}
use Rattle.std.proofs.Common.{sym}
use Rattle.std.proofs.Math.Bool.{true, false, not}
use mathlib.Core.List.{List, [], ◌∷◌}
use Rattle.std.proofs.lemmas.Bool.{not-false}
use Rattle.octets.specs.Ascii.{ascii}
use Rattle.octets.specs.Pick.{pick, ◌and◌, ◌or◌}
use Rattle.octets.specs.laws.Pick.{and_both, and_yes, or_neither}
use Rattle.octets.specs.Class.{is_space, upper, lower}
use Rattle.octets.specs.Words.{same}
use Rattle.octets.specs.Lists.{every}
use Rattle.octets.specs.Computing.{octets_compute}
use Rattle.calendar.specs.Calendar.{ValueType}
use Rattle.calendar.specs.Refusal.{NAME, FRAME, PARAMETER, fine}
use Rattle.calendar.specs.laws.Refusal.{refused_not}
use Rattle.schema.specs.Components.{may_stand}
use Rattle.schema.specs.Properties.{is_known_property}
use Rattle.read_text_line.specs.Names.{is_carried_name}
use Rattle.values.specs.Valid.{is_property}
use Rattle.validity.specs.ValidCalendar.{is_kept_name, is_valid_property}
use Rattle.xml.specs.Reads.{is_name}
use Rattle.xml.specs.Nodes.{Nodes, no_nodes, element, literal, referred}
use Rattle.edition.specs.declared.Edition.{Edition}
use Rattle.xcal.specs.Layout.{has_capital, slot_of, sequence}
use Rattle.xcal.proofs.laws.ElementNames.{kept_name, upper_apart}
use Rattle.xcal.specs.ValueNodes.{value_slots, type_of_nodes, value_verdict, read_value_nodes}
use Rattle.xcal.specs.ParameterNodes.{parameters_verdict}
use Rattle.xcal.specs.PropertyNodes.{bad_name, property_slots, still_before, parameters_in, child_verdict, lacks_encoding, property_verdict, properties_verdict, read_properties, property_in}
use Rattle.xcal.proofs.laws.Accepted.{both_fine, test_fine, past_fine, admitted-fine}
use Rattle.xcal.proofs.laws.ValuesAccepted.{is_clean_content}
use Rattle.xcal.proofs.laws.GoodNodes.{is_good}
use Rattle.xcal.proofs.laws.CleanValues.{clean_values}
use Rattle.xcal.proofs.laws.ParametersAccepted.{parameters_accepted}
use Rattle.xcal.proofs.laws.EncodingAccepted.{are_parameters_lem}
use Rattle.xcal.proofs.laws.OwnAccepted.{values_accepted}

parameters_good_lem : (n : List ℕ) (kids : Nodes) → is_good kids ≡ true → is_good (parameters_in n kids) ≡ true
unfolding parameters_in is_good pick
parameters_good_lem n no_nodes g = refl
parameters_good_lem n (literal p b more) g = parameters_good_lem n more g
parameters_good_lem n (referred p bs more) g = parameters_good_lem n more g
parameters_good_lem n (element p m y kids more) g =
    let b = and_both (is_name m) _ g in
    let c = and_both (is_clean_content kids) _ b.1 in
    let d = and_both (is_good kids) _ c.1 in
    go (same m (ascii "parameters")) (still_before (slot_of m (value_slots n) 0)) d.0 (parameters_good_lem n more d.1)
  where
    go : (b c : Bool) → is_good kids ≡ true → is_good (parameters_in n more) ≡ true → is_good (pick b kids (pick c (parameters_in n more) no_nodes)) ≡ true
    go true c v ih = v
    go false true v ih = ih
    go false false v ih = refl

-- ---- one property

small_begin : lower (ascii "BEGIN") ≡ ascii "begin"
unfolding octets_compute
small_begin = refl

small_end : lower (ascii "END") ≡ ascii "end"
unfolding octets_compute
small_end = refl

-- a known property that may stand
allowed : (a b : Bool) → (a and not b) ≡ false → (not a or b) ≡ true
unfolding ◌and◌ ◌or◌
allowed true true h = refl
allowed true false h = sym h
allowed false b h = refl

module _ (ed : Edition) where
  -- ---- the parameters in their place

  parameters_fine : (k n : List ℕ) (t : ValueType) (kids : Nodes) (next : ℕ) (seen : List (List ℕ)) (x : ℕ) → sequence (property_slots n) (child_verdict ed k n t) kids next seen x ≡ fine →
      parameters_verdict ed n t (parameters_in n kids) [] ≡ fine
  unfolding sequence parameters_in parameters_verdict pick
  parameters_fine k n t no_nodes next seen x h = refl
  parameters_fine k n t (literal p b more) next seen x h = parameters_fine k n t more next seen x (test_fine (is_space b) _ FRAME p h).1
  parameters_fine k n t (referred p bs more) next seen x h = refused_not FRAME p h
  parameters_fine k n t (element p m y kids more) next seen x h =
      let a = admitted-fine (slot_of m (property_slots n) 0) next p m (child_verdict ed k n t p m y kids) _ h in
      go (same m (ascii "parameters")) (still_before (slot_of m (value_slots n) 0)) a.3 (parameters_fine k n t more _ (m ∷ seen) x a.4)
    where
      go : (b c : Bool) → pick b (parameters_verdict ed n t kids []) (value_verdict k n t p m y kids) ≡ fine → parameters_verdict ed n t (parameters_in n more) [] ≡ fine →
          parameters_verdict ed n t (pick b kids (pick c (parameters_in n more) no_nodes)) [] ≡ fine
      go true c v ih = v
      go false true v ih = ih
      go false false v ih = refl

  property_accepted : (k : List ℕ) (p : ℕ) (m : List ℕ) (x : ℕ) (kids : Nodes) → is_name m ≡ true → is_good kids ≡ true → property_verdict ed k p m x kids ≡ fine →
      is_valid_property ed k (property_in m kids) ≡ true
  unfolding property_verdict is_valid_property is_property
  property_accepted k p m x kids w g h =
      let n = upper m in
      let t = type_of_nodes n kids in
      let a = past_fine (bad_name m) _ NAME p h in
      let b = past_fine (is_known_property n and not (may_stand k n)) _ FRAME p a.1 in
      let c = past_fine (lacks_encoding n kids) _ PARAMETER p b.1 in
      let d = or_neither (has_capital m) _ a.0 in
      let e = or_neither (not (is_carried_name m)) _ d.1 in
      let f = or_neither (same m (ascii "begin")) _ e.1 in
      let v = values_accepted ed k n kids x g c.1 in
      let s = parameters_accepted ed n t (parameters_in n kids) [] (parameters_good_lem n kids g) (parameters_fine k n t kids 0 [] x c.1) in
      let u = clean_values (read_value_nodes n kids) v.clean in
      let q : is_kept_name n ≡ true = kept_name m w (not-false _ e.0) in
      and_yes _ _ q
      (and_yes _ _ (rw (upper_apart m (ascii "BEGIN") d.0 (rw small_begin f.0)))
      (and_yes _ _ (rw (upper_apart m (ascii "END") d.0 (rw small_end f.1)))
      (and_yes _ _ (allowed (is_known_property n) (may_stand k n) b.0)
      (and_yes _ _ (and_yes _ _ (and_both _ _ q).0 (and_yes _ _ (rw v.type (are_parameters_lem ed n t (parameters_in n kids) s c.0)) v.values))
      (and_yes _ _ s.valid (and_yes _ _ u.0 u.1))))))

  -- ---- properties

  pub properties_accepted : (k : List ℕ) (kids : Nodes) → is_good kids ≡ true → properties_verdict ed k kids ≡ fine → every (is_valid_property ed k) (read_properties kids) ≡ true
  unfolding properties_verdict read_properties is_good every
  properties_accepted k no_nodes g h = refl
  properties_accepted k (literal p b more) g h = properties_accepted k more g (test_fine (is_space b) _ FRAME p h).1
  properties_accepted k (referred p bs more) g h = refused_not FRAME p h
  properties_accepted k (element p m x kids more) g h =
      let a = both_fine (property_verdict ed k p m x kids) _ h in
      let b = and_both (is_name m) _ g in
      let c = and_both (is_clean_content kids) _ b.1 in
      let d = and_both (is_good kids) _ c.1 in
      and_yes _ _ (property_accepted k p m x kids b.0 d.0 a.0) (properties_accepted k more d.1 a.1)
