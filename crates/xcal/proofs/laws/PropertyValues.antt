-- The values of a property in its element: what they are read as, and that they are not refused (RFC 6321, sections 3.4 and 3.6).
--     Stands          what the elements of values are, in the element of a property
--     typed_stands    the elements of values that are spelled as their type says are that
use Rattle.std.specs.Prelude.{◌≡◌, Bool, not, ℕ, ◌≤◌, Some}
use Rattle.std.proofs.Math.Path.{refl}
use Rattle.std.proofs.Common.{sym, ap, ◌∙◌, arith}
use Rattle.std.proofs.Math.Bool.{true, false}
use Rattle.std.proofs.lemmas.Bool.{false≢true}
use mathlib.Core.List.{List, [], ◌∷◌}
use borrow.Author.Tests.{le-ltb, not-true}
use Rattle.octets.specs.Ascii.{ascii}
use Rattle.octets.specs.Pick.{pick, ◌and◌, ◌or◌}
use Rattle.octets.specs.laws.Pick.{and_yes, or_left, or_right, or_cases}
use Rattle.octets.specs.Class.{lower}
use Rattle.octets.specs.Words.{same, is_one_of}
use Rattle.octets.specs.laws.Words.{same_self, same_true}
use Rattle.octets.specs.Lists.{every, any_one}
use Rattle.octets.specs.laws.Lists.{every_both}
use Rattle.octets.specs.Reading.{read_or}
use Rattle.calendar.specs.Calendar.{ValueType, TEXT, Value, type_of}
use Rattle.calendar.specs.Refusal.{fine, ◌otherwise◌}
use Rattle.schema.specs.Types.{type_name, same_type, is_type_of}
use Rattle.schema.specs.laws.Types.{same_type_self, same_type_true, type_passes}
use Rattle.schema.specs.Properties.{permitted_types, default_type, is_listed_property, property_words}
use Rattle.schema.specs.laws.Closed.{property_words_text}
use Rattle.schema.specs.Computing.{schema_compute}
use Rattle.values.specs.ReadBack.{is_value, is_typed}
use Rattle.values.specs.Valid.{is_amount, is_chosen, has_own_values}
use Rattle.xml.specs.Nodes.{no_nodes}
use Rattle.xml.specs.Content.{Content, nothing, placed}
use Rattle.edition.specs.declared.Edition.{Edition}
use Rattle.xcal.specs.Layout.{Slot, slot_of, lacks, sequence}
use Rattle.xcal.specs.ValueNodes.{may, type_elements, first_type, value_verdict, read_value_nodes}
use Rattle.xcal.specs.PropertyNodes.{property_slots, parameters_in, child_verdict}
use Rattle.xcal.proofs.laws.Contents.{inside, value_before, values_before}
use Rattle.xcal.proofs.laws.ValuesBack.{typed_before, typed_fine, element_type_lem, values_back}
use Rattle.xcal.proofs.laws.Chosen.{chosen_typed, chosen_word}

-- ---- values that are spelled as their type says

abbrev pub typed_slots : Bool → List Slot
typed_slots l = may (ascii "parameters") ∷ record { names = type_elements; several = l; required = true } ∷ []

pub type_listed : (t : ValueType) → is_one_of (lower (type_name t)) type_elements ≡ true
unfolding schema_compute
type_listed t = type_passes (λ u. is_one_of (lower (type_name u)) type_elements) refl t

pub type_other : (t : ValueType) → same (lower (type_name t)) (ascii "parameters") ≡ false
unfolding schema_compute
type_other t = not-true _ (type_passes (λ u. not (same (lower (type_name u)) (ascii "parameters"))) refl t)

type_slot : (t : ValueType) (l : Bool) → slot_of (lower (type_name t)) (typed_slots l) 0 ≡ Some (1, l)
unfolding is_one_of ◌or◌ pick
type_slot t l = rw (type_other t, type_listed t)

-- the required slot is filled by any of its names
any_seen : (m : List ℕ) (ws seen : List (List ℕ)) → is_one_of m ws ≡ true → is_one_of m seen ≡ true → any_one (λ n. is_one_of n seen) ws ≡ true
unfolding is_one_of any_one
any_seen m [] seen h k = absurd (false≢true h)
any_seen m (w ∷ ws) seen h k =
    or_cases (same m w) (is_one_of m ws) h
    (λ e. or_left _ _ (ap (λ (n : List ℕ). is_one_of n seen) (sym (same_true m w e)) ∙ k))
    (λ e. or_right _ _ (any_seen m ws seen e k))

filled : (ws : List (List ℕ)) (l : Bool) (seen : List (List ℕ)) → any_one (λ n. is_one_of n seen) ws ≡ true →
    lacks (may (ascii "parameters") ∷ record { names = ws; several = l; required = true } ∷ []) seen ≡ false
unfolding lacks any_one ◌and◌ ◌or◌
filled ws l seen h = rw h

-- a property with a closed set of words takes TEXT
pub of_text : (k n : List ℕ) (t : ValueType) → is_type_of t (permitted_types n) ≡ true → (words : List (List ℕ)) → property_words k n ≡ Some words → t ≡ TEXT
unfolding is_type_of
of_text k n t h words e =
    let z = (property_words_text k n words e).0 in
    let w : is_type_of t (TEXT ∷ []) ≡ true = ap (is_type_of t) (sym z) ∙ h in
    or_cases (same_type t TEXT) false w (same_type_true t TEXT) (λ f. absurd (false≢true f))

module _ (ed : Edition) where
  -- the elements of the values vs, of type t, of the property n in a component k
  pub record Stands (k n : List ℕ) (t : ValueType) (vs : List Value) : Type 0 where
    -- they state the values
    pub stated : (q : ℕ) → read_value_nodes n (placed (values_before vs nothing) q no_nodes) ≡ vs
    -- and their type
    pub typed : (q : ℕ) → pick (has_own_values n) (default_type n) (first_type (default_type n) (placed (values_before vs nothing) q no_nodes)) ≡ t
    -- they are no parameters
    pub apart : (q : ℕ) → parameters_in n (placed (values_before vs nothing) q no_nodes) ≡ no_nodes
    -- and are not refused, where none or `parameters` has come
    pub good : (next : ℕ) (seen : List (List ℕ)) (x q : ℕ) → next ≤ 1 → sequence (property_slots n) (child_verdict ed k n t) (placed (values_before vs nothing) q no_nodes) next seen x ≡ fine

  module _ (k n : List ℕ) (g : same n (ascii "GEO") ≡ false) (s : same n (ascii "REQUEST-STATUS") ≡ false) (t : ValueType) (permitted : is_type_of t (permitted_types n) ≡ true) where
    typed_value : (v : Value) → is_chosen (property_words k n) t v ≡ true → (type_of v ≡ t) × (is_typed v ≡ true) × (is_value v ≡ true)
    typed_value v h = chosen_typed (property_words k n) t v (of_text k n t permitted) h

    value_fine : (v : Value) → is_chosen (property_words k n) t v ≡ true → (p x q : ℕ) → child_verdict ed k n t p (lower (type_name (type_of v))) x (placed (inside v) q no_nodes) ≡ fine
    unfolding value_verdict pick ◌and◌
    value_fine v h p x q =
        let c = typed_value v h in
        let a : is_type_of (type_of v) (permitted_types n) ≡ true = rw c.0 permitted in
        let b : same_type (type_of v) t ≡ true = rw c.0 (same_type_self t) in
        rw (type_other (type_of v), g, s, element_type_lem (type_of v), a, b)
        (typed_fine v c.1 c.2 k n (λ d. rw c.0 (chosen_word (property_words k n) t v (of_text k n t permitted) h d)) p x q)

    -- the verdict on the elements of some content
    Good : Bool → Content → ℕ → List (List ℕ) → ℕ → Type 0
    Good l c next seen x = (q : ℕ) → sequence (typed_slots l) (child_verdict ed k n t) (placed c q no_nodes) next seen x ≡ fine

    one_good : (l : Bool) (v : Value) (c : Content) (next : ℕ) (seen : List (List ℕ)) (x : ℕ) → is_chosen (property_words k n) t v ≡ true → next ≤ 1 →
        Good l c (pick l 1 2) (lower (type_name t) ∷ seen) x → Good l (value_before v c) next seen x
    unfolding Good placed sequence pick ◌otherwise◌
    one_good l v c next seen x h u rest q =
        let e = typed_value v h in
        rw (typed_before v c e.1, type_slot (type_of v) l, le-ltb 1 next u, value_fine v h) (rw e.0 (rest _))

    -- none is left, and one has come
    none_good : (l : Bool) (next : ℕ) (seen : List (List ℕ)) (x : ℕ) → is_one_of (lower (type_name t)) seen ≡ true → Good l nothing next seen x
    unfolding Good placed sequence pick
    none_good l next seen x h q = rw (filled type_elements l seen (any_seen (lower (type_name t)) type_elements seen (type_listed t) h))

    came : (seen : List (List ℕ)) → is_one_of (lower (type_name t)) (lower (type_name t) ∷ seen) ≡ true
    unfolding is_one_of
    came seen = or_left _ _ (same_self (lower (type_name t)))

    more_good : (vs : List Value) (next : ℕ) (seen : List (List ℕ)) (x : ℕ) → every (is_chosen (property_words k n) t) vs ≡ true → next ≤ 1 → is_one_of (lower (type_name t)) seen ≡ true →
        Good true (values_before vs nothing) next seen x
    unfolding Good values_before pick
    more_good [] next seen x h u o q = none_good true next seen x o q
    more_good (v ∷ vs) next seen x h u o q =
        let a = every_both _ v vs h in
        one_good true v (values_before vs nothing) next seen x a.0 u (more_good vs 1 (lower (type_name t) ∷ seen) x a.1 (omega arith) (came seen)) q

    all_good : (l : Bool) (vs : List Value) (next : ℕ) (seen : List (List ℕ)) (x : ℕ) → is_amount l vs ≡ true → every (is_chosen (property_words k n) t) vs ≡ true → next ≤ 1 →
        Good l (values_before vs nothing) next seen x
    unfolding Good values_before pick ◌or◌
    all_good l [] next seen x a h u q = absurd (false≢true a)
    all_good true (v ∷ vs) next seen x a h u q =
        let b = every_both _ v vs h in
        one_good true v (values_before vs nothing) next seen x b.0 u (more_good vs 1 (lower (type_name t) ∷ seen) x b.1 (omega arith) (came seen)) q
    all_good false (v ∷ []) next seen x a h u q =
        one_good false v nothing next seen x (every_both _ v [] h).0 u (none_good false 2 (lower (type_name t) ∷ seen) x (came seen)) q
    all_good false (v ∷ w ∷ vs) next seen x a h u q = absurd (false≢true a)

    all_typed : (vs : List Value) → every (is_chosen (property_words k n) t) vs ≡ true → every (λ (v : Value). is_typed v and is_value v) vs ≡ true
    unfolding every
    all_typed [] h = refl
    all_typed (v ∷ vs) h =
        let a = every_both _ v vs h in
        let c = typed_value v a.0 in
        and_yes _ _ (and_yes _ _ c.1 c.2) (all_typed vs a.1)

    typed_first : (l : Bool) (vs : List Value) → is_amount l vs ≡ true → every (is_chosen (property_words k n) t) vs ≡ true → (q : ℕ) →
        (first_type (default_type n) (placed (values_before vs nothing) q no_nodes) ≡ t) × (parameters_in n (placed (values_before vs nothing) q no_nodes) ≡ no_nodes)
    unfolding values_before placed first_type parameters_in pick read_or
    typed_first l [] a h q = absurd (false≢true a)
    typed_first l (v ∷ vs) a h q =
        let e = typed_value v (every_both _ v vs h).0 in
        (rw (typed_before v (values_before vs nothing) e.1, element_type_lem (type_of v)) e.0, rw (typed_before v (values_before vs nothing) e.1, type_other (type_of v), g, s, type_listed (type_of v)))

    pub typed_stands : (vs : List Value) → is_amount (is_listed_property n) vs ≡ true → every (is_chosen (property_words k n) t) vs ≡ true → Stands k n t vs
    unfolding Good read_value_nodes pick ◌or◌
    typed_stands vs a h = record {
      stated = λ q. rw (g, s) (values_back vs (all_typed vs h) q);
      typed = λ q. rw (g, s) (typed_first (is_listed_property n) vs a h q).0;
      apart = λ q. (typed_first (is_listed_property n) vs a h q).1;
      good = λ next seen x q u. rw (g, s) (all_good (is_listed_property n) vs next seen x a h u q);
    }
