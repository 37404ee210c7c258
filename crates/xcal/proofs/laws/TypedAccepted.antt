-- The values of a property that are spelled as their type says, read from elements that are not refused.
--     typed_values_accepted    they are of the property's type, and as many as it takes
use Rattle.std.specs.Prelude.{◌≡◌, Bool, Option, None, Some}
use Rattle.std.proofs.Math.Path.{refl, ap}
use Rattle.std.proofs.Common.{sym, subst, ◌∙◌, arith}
use Rattle.std.proofs.Math.Bool.{true, false, not}
use Rattle.std.proofs.lemmas.Bool.{false≢true}
use mathlib.Core.List.{List, [], ◌∷◌}
use Prim.Native.Nat.{ℕ, suc, ◌≤◌, ◌<◌}
use borrow.Author.Tests.{ltb-false, not-true}
use Rattle.octets.specs.Ascii.{ascii}
use Rattle.octets.specs.Pick.{pick, ◌and◌, ◌or◌}
use Rattle.octets.specs.laws.Pick.{and_both, and_yes, or_left, or_right, or_cases}
use Rattle.octets.specs.Class.{is_space}
use Rattle.octets.specs.Words.{same, is_one_of, is_empty}
use Rattle.octets.specs.laws.Words.{same_true}
use Rattle.octets.specs.Lists.{every, any_one}
use Rattle.octets.specs.laws.Reading.{none-some}
use Rattle.calendar.specs.Calendar.{ValueType, Value}
use Rattle.calendar.specs.Refusal.{FRAME, VALUE, fine}
use Rattle.calendar.specs.laws.Refusal.{refused_not}
use Rattle.schema.specs.Types.{same_type, is_type_of}
use Rattle.schema.specs.laws.Types.{same_type_true}
use Rattle.schema.specs.Properties.{permitted_types, property_words}
use Rattle.schema.specs.Computing.{schema_compute}
use Rattle.values.specs.Valid.{is_amount, is_chosen}
use Rattle.xml.specs.Reads.{is_name}
use Rattle.xml.specs.Nodes.{Nodes, no_nodes, element, literal, referred}
use Rattle.edition.specs.declared.Edition.{Edition}
use Rattle.xcal.specs.Layout.{slot_of, lacks, sequence}
use Rattle.xcal.specs.ValueNodes.{may, type_elements, element_type, as_typed, typed_verdict, value_verdict, one_of, typed_values}
use Rattle.xcal.specs.PropertyNodes.{child_verdict}
use Rattle.xcal.proofs.laws.PropertyValues.{typed_slots, of_text}
use Rattle.xcal.proofs.laws.PropertiesBack.{no_type}
use Rattle.xcal.proofs.laws.CleanValues.{is_clean_value}
use Rattle.xcal.proofs.laws.Accepted.{test_fine, past_fine, admitted-fine}
use Rattle.xcal.proofs.laws.ValuesAccepted.{is_clean_content, typed_accepted, value_clean}
use Rattle.xcal.proofs.laws.GoodNodes.{is_good}

-- ---- slots

slot_small : (m : List ℕ) (l : Bool) (y : ℕ × Bool) → slot_of m (typed_slots l) 0 ≡ Some y → y.0 ≤ 1
unfolding pick
slot_small m l y h = go (is_one_of m (ascii "parameters" ∷ [])) (is_one_of m type_elements) h
  where
    first : (x : ℕ × Bool) → x.0 ≤ 1 → Some x ≡ Some y → y.0 ≤ 1
    first x g e = let z : x ≡ y = cc in rw (← z) g

    go : (a b : Bool) → pick a (Some (0, false)) (pick b (Some (1, l)) None) ≡ Some y → y.0 ≤ 1
    go true b k = first (0, false) (omega arith) k
    go false true k = first (1, l) (omega arith) k
    go false false k = none-some k

slot_second : (m : List ℕ) (l : Bool) (y : ℕ × Bool) → same m (ascii "parameters") ≡ false → slot_of m (typed_slots l) 0 ≡ Some y → y ≡ (1, l)
unfolding pick is_one_of ◌or◌
slot_second m l y o h = go (is_one_of m type_elements) (rw o at h)
  where
    go : (b : Bool) → pick b (Some (1, l)) None ≡ Some y → y ≡ (1, l)
    go true k = cc
    go false k = none-some k

abbrev at_most_one : List Value → Bool
at_most_one [] = true
at_most_one (v ∷ vs) = is_empty vs

-- ---- what must have come

was_filled : (ws : List (List ℕ)) (l : Bool) (seen : List (List ℕ)) → lacks (may (ascii "parameters") ∷ record { names = ws; several = l; required = true } ∷ []) seen ≡ false →
    any_one (λ n. is_one_of n seen) ws ≡ true
unfolding lacks any_one ◌and◌ ◌or◌
was_filled ws l seen h = go (any_one (λ n. is_one_of n seen) ws) h
  where
    go : (b : Bool) → (not b or false) ≡ false → b ≡ true
    go true k = refl
    go false k = sym k

-- `parameters` is no value
come_apart : (ws seen : List (List ℕ)) → every (λ w. not (same w (ascii "parameters"))) ws ≡ true → any_one (λ w. is_one_of w (ascii "parameters" ∷ seen)) ws ≡ any_one (λ w. is_one_of w seen) ws
unfolding any_one every is_one_of ◌or◌
come_apart [] seen h = refl
come_apart (w ∷ ws) seen h = let a = and_both (not (same w (ascii "parameters"))) _ h in rw (not-true (same w (ascii "parameters")) a.0, come_apart ws seen a.1)

types_apart : every (λ w. not (same w (ascii "parameters"))) type_elements ≡ true
unfolding schema_compute
types_apart = refl

other_come : (seen : List (List ℕ)) (b : Bool) → (any_one (λ w. is_one_of w (ascii "parameters" ∷ seen)) type_elements or b) ≡ true → (any_one (λ w. is_one_of w seen) type_elements or b) ≡ true
other_come seen b h = ap (λ (c : Bool). c or b) (sym (come_apart type_elements seen types_apart)) ∙ h

nothing_come_lem : any_one (λ w. is_one_of w []) type_elements ≡ false
unfolding schema_compute
nothing_come_lem = refl

module _ (ed : Edition) where
  module _ (k n : List ℕ) (g : same n (ascii "GEO") ≡ false) (s : same n (ascii "REQUEST-STATUS") ≡ false) (t : ValueType) (l : Bool) where
    -- the verdict on the children, from the slot `next` on
    abbrev From : Nodes → ℕ → List (List ℕ) → ℕ → Type 0
    From kids next seen x = sequence (typed_slots l) (child_verdict ed k n t) kids next seen x ≡ fine

    -- ---- one child

    -- `parameters`, or an element of the type
    child_type : (m : List ℕ) (p x : ℕ) (kids : Nodes) → same m (ascii "parameters") ≡ false → child_verdict ed k n t p m x kids ≡ fine →
        (element_type m ≡ Some t) × (is_type_of t (permitted_types n) ≡ true) × (typed_verdict k n t p x kids ≡ fine)
    unfolding value_verdict pick
    child_type m p x kids o h = go (element_type m) refl (rw (o, g, s) at h)
      where
        go : (w : Option ValueType) → element_type m ≡ w → as_typed w k n t p x kids ≡ fine → (element_type m ≡ Some t) × (is_type_of t (permitted_types n) ≡ true) × (typed_verdict k n t p x kids ≡ fine)
        go None e h = refused_not VALUE p h
        go (Some u) e h =
            let a = test_fine (is_type_of u (permitted_types n) and same_type u t) _ VALUE p h in
            let b = and_both (is_type_of u (permitted_types n)) _ a.0 in
            let z : u ≡ t = same_type_true u t b.1 in
            (e ∙ ap (λ (w : ValueType). Some w) z, rw z at b.0, rw z at a.1)

    -- ---- the values

    record Read (vs : List Value) : Type 0 where
      chosen : every (is_chosen (property_words k n) t) vs ≡ true
      clean : every is_clean_value vs ≡ true
      permitted : is_empty vs ≡ false → is_type_of t (permitted_types n) ≡ true

    all_read : (kids : Nodes) (next : ℕ) (seen : List (List ℕ)) (x : ℕ) → is_good kids ≡ true → From kids next seen x → Read (typed_values kids)
    unfolding sequence typed_values is_good every
    all_read no_nodes next seen x c h = record { chosen = refl; clean = refl; permitted = λ e. absurd (false≢true (sym e)) }
    all_read (literal p b more) next seen x c h = all_read more next seen x c (test_fine (is_space b) _ FRAME p h).1
    all_read (referred p bs more) next seen x c h = refused_not FRAME p h
    all_read (element p m y kids more) next seen x c h =
        let a = admitted-fine (slot_of m (typed_slots l) 0) next p m (child_verdict ed k n t p m y kids) _ h in
        let b = and_both (is_name m) _ c in
        let d = and_both (is_clean_content kids) _ b.1 in
        let f = and_both (is_good kids) _ d.1 in
        go (same m (ascii "parameters")) refl a.3 d.0 (all_read more _ (m ∷ seen) x f.1 a.4)
      where
        go : (w : Bool) → same m (ascii "parameters") ≡ w → child_verdict ed k n t p m y kids ≡ fine → is_clean_content kids ≡ true → Read (typed_values more) → Read (one_of (element_type m) kids (typed_values more))
        go true e v i r = rw (same_true m (ascii "parameters") e, no_type) r
        go false e v i r =
            let a = child_type m p y kids e v in
            rw a.0 (record {
              chosen = and_yes _ _ (typed_accepted k n t p y kids (of_text k n t a.1) a.2) r.chosen;
              clean = and_yes _ _ (value_clean k n t p y kids a.2 i) r.clean;
              permitted = λ e. a.1;
            })

    -- after the values nothing is left
    none_left : (kids : Nodes) (next : ℕ) (seen : List (List ℕ)) (x : ℕ) → 1 < next → From kids next seen x → typed_values kids ≡ []
    unfolding sequence typed_values
    none_left no_nodes next seen x u h = refl
    none_left (literal p b more) next seen x u h = none_left more next seen x u (test_fine (is_space b) _ FRAME p h).1
    none_left (referred p bs more) next seen x u h = refused_not FRAME p h
    none_left (element p m y kids more) next seen x u h =
        let a = admitted-fine (slot_of m (typed_slots l) 0) next p m (child_verdict ed k n t p m y kids) _ h in
        let w = slot_small m l a.0 a.1 in
        let v = ltb-false a.0.0 next a.2 in
        absurd (omega arith)

    one_only : l ≡ false → (kids : Nodes) (next : ℕ) (seen : List (List ℕ)) (x : ℕ) → From kids next seen x → at_most_one (typed_values kids) ≡ true
    unfolding sequence typed_values pick
    one_only f no_nodes next seen x h = refl
    one_only f (literal p b more) next seen x h = one_only f more next seen x (test_fine (is_space b) _ FRAME p h).1
    one_only f (referred p bs more) next seen x h = refused_not FRAME p h
    one_only f (element p m y kids more) next seen x h =
        let a = admitted-fine (slot_of m (typed_slots l) 0) next p m (child_verdict ed k n t p m y kids) _ h in
        go (same m (ascii "parameters")) refl a.3 a.0 a.1 a.4 (one_only f more _ (m ∷ seen) x a.4)
      where
        go : (w : Bool) → same m (ascii "parameters") ≡ w → child_verdict ed k n t p m y kids ≡ fine → (z : ℕ × Bool) → slot_of m (typed_slots l) 0 ≡ Some z → From more (pick z.1 z.0 (suc z.0)) (m ∷ seen) x →
            at_most_one (typed_values more) ≡ true → at_most_one (one_of (element_type m) kids (typed_values more)) ≡ true
        go true e v z o r ih = rw (same_true m (ascii "parameters") e, no_type) ih
        go false e v z o r ih =
            let a = child_type m p y kids e v in
            let q : z ≡ (1, false) = slot_second m l z e o ∙ ap (λ (b : Bool). (1, b)) f in
            rw a.0 (ap is_empty (none_left more 2 (m ∷ seen) x (omega arith) (rw q at r)))

    -- a value must have come
    some_come : (kids : Nodes) (next : ℕ) (seen : List (List ℕ)) (x : ℕ) → From kids next seen x → (any_one (λ w. is_one_of w seen) type_elements or not (is_empty (typed_values kids))) ≡ true
    unfolding sequence typed_values
    some_come no_nodes next seen x h = or_left _ _ (was_filled type_elements l seen (past_fine (lacks (typed_slots l) seen) fine FRAME x h).0)
    some_come (literal p b more) next seen x h = some_come more next seen x (test_fine (is_space b) _ FRAME p h).1
    some_come (referred p bs more) next seen x h = refused_not FRAME p h
    some_come (element p m y kids more) next seen x h =
        let a = admitted-fine (slot_of m (typed_slots l) 0) next p m (child_verdict ed k n t p m y kids) _ h in
        go (same m (ascii "parameters")) refl a.3 (some_come more _ (m ∷ seen) x a.4)
      where
        go : (w : Bool) → same m (ascii "parameters") ≡ w → child_verdict ed k n t p m y kids ≡ fine → (any_one (λ w. is_one_of w (m ∷ seen)) type_elements or not (is_empty (typed_values more))) ≡ true →
            (any_one (λ w. is_one_of w seen) type_elements or not (is_empty (one_of (element_type m) kids (typed_values more)))) ≡ true
        go true e v ih = rw (same_true m (ascii "parameters") e, no_type) (other_come seen (not (is_empty (typed_values more))) (subst (λ (w : List ℕ). (any_one (λ v. is_one_of v (w ∷ seen)) type_elements or not (is_empty (typed_values more))) ≡ true) (same_true m (ascii "parameters") e) ih))
        go false e v ih = rw (child_type m p y kids e v).0 (or_right _ _ refl)

    pub typed_values_accepted : (kids : Nodes) (x : ℕ) → is_good kids ≡ true → From kids 0 [] x →
        (is_amount l (typed_values kids) ≡ true) × (every (is_chosen (property_words k n) t) (typed_values kids) ≡ true) × (is_type_of t (permitted_types n) ≡ true) × (every is_clean_value (typed_values kids) ≡ true)
    typed_values_accepted kids x c h =
        let r = all_read kids 0 [] x c h in
        let e : is_empty (typed_values kids) ≡ false = not-true _ (or_cases _ _ (some_come kids 0 [] x h) (λ f. absurd (false≢true (sym nothing_come_lem ∙ f))) (λ f. f)) in
        (amount l refl (typed_values kids) e (λ f. one_only f kids 0 [] x h), r.chosen, r.permitted e, r.clean)
      where
        amount : (b : Bool) → l ≡ b → (vs : List Value) → is_empty vs ≡ false → (l ≡ false → at_most_one vs ≡ true) → is_amount b vs ≡ true
        amount b z [] e f = absurd (false≢true (sym e))
        amount true z (v ∷ vs) e f = or_left _ _ refl
        amount false z (v ∷ vs) e f = or_right _ _ (f z)
