-- A property read from an array that has no fault, and whose strings are text, is valid (RFC 7265, section 3.4).
--     property_accepted
use Rattle.std.specs.Prelude.{◌≡◌, refl, Bool, true, false, not, List, [], ◌∷◌, ℕ, zero, suc, drop, Option, None, Some}
use Rattle.std.proofs.Common.{sym, ap, ◌∙◌}
use Rattle.std.proofs.lemmas.Bool.{not-false}
use Rattle.octets.specs.Ascii.{ascii}
use Rattle.octets.specs.Pick.{pick}
use Rattle.octets.specs.laws.Pick.{and_both, and_yes, or_neither}
use Rattle.octets.specs.Class.{upper, lower}
use Rattle.octets.specs.Words.{same}
use Rattle.octets.specs.Lists.{every}
use Rattle.octets.specs.laws.Lists.{every_both}
use Rattle.octets.specs.Reading.{is_read, read_or}
use Rattle.octets.specs.laws.Reading.{none-some, read_some, and_then-some}
use Rattle.octets.specs.Computing.{octets_compute}
use Rattle.calendar.specs.Refusal.{Refusal, NAME, FRAME, PARAMETER, VALUE}
use Rattle.schema.specs.Properties.{is_listed_property}
use Rattle.edition.specs.declared.Edition.{Edition}
use Rattle.values.specs.Valid.{is_amount, is_property}
use Rattle.validity.specs.ValidCalendar.{is_kept_name, is_valid_property}
use Rattle.xcal.proofs.laws.CleanValues.{clean_values}
use Rattle.json_text.specs.Tree.{Json, Member}
use Rattle.json_text.specs.Kinds.{as_object, first_in, nth}
use Rattle.jcal.specs.Parameters.{parameters_good}
use Rattle.jcal.specs.Values.{read_values}
use Rattle.jcal.specs.Property.{name_in, parameters_in, type_in, values_in, property_name, member_list, value_type_of, is_bad_name, is_bad_property, passes, names_bad, is_shaped, property_fault, property_of}
use Rattle.jcal.proofs.laws.Textual.{is_textual}
use Rattle.jcal.proofs.laws.ValuesAccepted.{values_accepted}
use Rattle.jcal.proofs.laws.ParametersAccepted.{good_kept, small_apart, member_textual, object_textual, parameters_accepted}

-- ---- faults

-- a test that refuses where it holds
pub past_fault : (t : Bool) (r : Refusal) (o : Option Refusal) → pick t (Some r) o ≡ None → (t ≡ false) × (o ≡ None)
unfolding pick
past_fault true r o h = none-some (sym h)
past_fault false r o h = (refl, h)

-- one that refuses where it fails
pub last_fault : (t : Bool) (r : Refusal) → pick t None (Some r) ≡ None → t ≡ true
unfolding pick
last_fault true r h = refl
last_fault false r h = none-some (sym h)

-- ---- elements

drop_textual : (k : ℕ) (vs : List Json) → every is_textual vs ≡ true → every is_textual (drop k vs) ≡ true
drop_textual zero vs h = h
drop_textual (suc k) [] h = h
drop_textual (suc k) (v ∷ vs) h = drop_textual k vs (every_both is_textual v vs h).1

first_textual : (vs : List Json) (v : Json) → every is_textual vs ≡ true → first_in vs ≡ Some v → is_textual v ≡ true
first_textual [] v h e = none-some e
first_textual (x ∷ vs) v h e = let z : x ≡ v = cc in rw (← z) (every_both is_textual x vs h).0

pub nth_textual : (k : ℕ) (vs : List Json) (v : Json) → every is_textual vs ≡ true → nth k vs ≡ Some v → is_textual v ≡ true
nth_textual k vs v h e = first_textual (drop k vs) v (drop_textual k vs h) e

members_textual_lem : (vs : List Json) → every is_textual vs ≡ true → every member_textual (member_list vs) ≡ true
unfolding read_or every
members_textual_lem vs h = go (parameters_in vs) refl
  where
    go : (o : Option (List Member)) → parameters_in vs ≡ o → every member_textual (read_or [] o) ≡ true
    go None e = refl
    go (Some ms) e = let a = and_then-some (nth 1 vs) as_object ms e in object_textual a.0 ms (nth_textual 1 vs a.0 h a.1) a.2

-- ---- a property

-- the test of a name that is there
pub passed_name : (f : List ℕ → Bool) (o : Option (List ℕ)) (m : List ℕ) → o ≡ Some m → passes f o ≡ false → f m ≡ false
passed_name f None m e h = none-some e
passed_name f (Some n) m e h = let z : n ≡ m = cc in rw (← z) h

small_begin : lower (ascii "BEGIN") ≡ ascii "begin"
unfolding octets_compute
small_begin = refl

small_end : lower (ascii "END") ≡ ascii "end"
unfolding octets_compute
small_end = refl

pub property_accepted : (ed : Edition) (k : List ℕ) (vs : List Json) → every is_textual vs ≡ true → property_fault ed k vs ≡ None → is_valid_property ed k (property_of k vs) ≡ true
unfolding property_fault names_bad is_shaped property_of is_valid_property is_property read_or
property_accepted ed k vs c h =
    let n = property_name vs in
    let t = value_type_of vs in
    let a = past_fault (names_bad vs) NAME _ h in
    let b = past_fault (not (is_shaped k vs)) FRAME _ a.1 in
    let d = past_fault (not (parameters_good ed n t (member_list vs))) PARAMETER _ b.1 in
    let r = last_fault (is_read (read_values k n t (values_in vs))) VALUE d.1 in
    let e = or_neither (passes is_bad_property (name_in vs)) _ a.0 in
    let f1 = and_both (is_read (name_in vs)) _ (not-false _ b.0) in
    let f2 = and_both (is_read (parameters_in vs)) _ f1.1 in
    let f3 = and_both (is_read (type_in vs)) _ f2.1 in
    let f4 = and_both (is_amount (is_listed_property n) (values_in vs)) _ f3.1 in
    let m = read_some (name_in vs) f1.0 in
    let g1 = or_neither (is_bad_name m.0) _ (passed_name is_bad_property (name_in vs) m.0 m.1 e.0) in
    let g2 = or_neither (same m.0 (ascii "begin")) _ g1.1 in
    let z : upper m.0 ≡ n = ap (λ (o : Option (List ℕ)). upper (read_or [] o)) (sym m.1) in
    let x = read_some (read_values k n t (values_in vs)) r in
    let v = values_accepted k n t (values_in vs) x.0 (drop_textual 3 vs c) f4.0 x.1 in
    let s = parameters_accepted ed n t (member_list vs) (members_textual_lem vs c) e.1 (not-false _ d.0) in
    let u = clean_values x.0 v.clean in
    let q : is_kept_name n ≡ true = ap is_kept_name (sym z) ∙ good_kept m.0 g1.0 in
    rw x.1
    (and_yes _ _ q
    (and_yes _ _ (ap (λ (w : List ℕ). not (same w (ascii "BEGIN"))) (sym z) ∙ rw (small_apart m.0 (ascii "BEGIN") g1.0 (rw small_begin g2.0)))
    (and_yes _ _ (ap (λ (w : List ℕ). not (same w (ascii "END"))) (sym z) ∙ rw (small_apart m.0 (ascii "END") g1.0 (rw small_end g2.1)))
    (and_yes _ _ f4.1
    (and_yes _ _ (and_yes _ _ (and_both _ _ q).0 (and_yes _ _ (rw v.type s.agree) (rw v.type v.values)))
    (and_yes _ _ s.valid (and_yes _ _ u.0 u.1)))))))
