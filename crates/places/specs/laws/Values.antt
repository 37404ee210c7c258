-- The verdicts on children in a fixed order, on the elements of a value and on those of parameters refuse within a bound that their places keep.
--     Judges n f           what the verdict f on a child's own content finds, it finds up to n
--     sequence_within      children by slots
--     inner_within         character data
--     value_within         an element of a property's value
--     parameters_within    the children of `parameters`
use mathlib.Core.List.{List, [], ◌∷◌}
use Rattle.std.specs.Prelude.{ℕ, ◌≤◌, Option, None, Some}
use Rattle.calendar.specs.Calendar.{ValueType}
use Rattle.calendar.specs.Refusal.{Verdict}
use Rattle.xml.specs.Nodes.{Nodes, no_nodes, element, literal, referred}
use Rattle.xcal.specs.Layout.{Slot, slot_of, after_slot, admitted, sequence, inner_element}
use Rattle.xcal.specs.ValueNodes.{element_type, period_slots, period_inside, recur_slots, recur_inside, typed_verdict, as_typed, value_verdict}
use Rattle.xcal.specs.ParameterNodes.{parameter_verdict, parameters_verdict}
use Rattle.edition.specs.declared.Edition.{Edition}
use Rattle.places.specs.laws.Bounds.{Within, within_fine, within_otherwise, bounding, Inside}

abbrev pub Judges : ℕ → (ℕ → List ℕ → ℕ → Nodes → Verdict) → Type 0
Judges n f = (p : ℕ) (m : List ℕ) (x : ℕ) (kids : Nodes) → p ≤ n → x ≤ n → Inside n kids → Within n (f p m x kids)

module _ (ed : Edition) where
  module _ (n : ℕ) where
    -- ---- children by slots, character data

    admitted_within : (o : Option ℕ) (p : ℕ) (m : List ℕ) (v : Verdict) (rest : ℕ → Verdict) → p ≤ n → Within n v → ((k : ℕ) → Within n (rest k)) →
        Within n (admitted o p m v rest)
    admitted_within None p m v rest h a f = search bounding
    admitted_within (Some next) p m v rest h a f = within_otherwise n v (rest next) a (f next)

    pub sequence_within : (slots : List Slot) (f : ℕ → List ℕ → ℕ → Nodes → Verdict) → Judges n f →
        (ns : Nodes) (next : ℕ) (seen : List (List ℕ)) (e : ℕ) → Inside n ns → e ≤ n → Within n (sequence slots f ns next seen e)
    unfolding sequence
    sequence_within slots f j no_nodes next seen e i h = search bounding
    sequence_within slots f j (literal p b more) next seen e i h = let ih = sequence_within slots f j more next seen e i.1 h in search bounding
    sequence_within slots f j (referred p bs more) next seen e i h = search bounding
    sequence_within slots f j (element p m x kids more) next seen e i h =
        admitted_within (after_slot (slot_of m slots 0) next) p m (f p m x kids) (λ k. sequence slots f more k (m ∷ seen) e) i.0 (j p m x kids i.0 i.1 i.2)
        (λ k. sequence_within slots f j more k (m ∷ seen) e i.3 h)

    pub inner_within : (ns : Nodes) → Inside n ns → Within n (inner_element ns)
    unfolding inner_element
    inner_within no_nodes i = within_fine n
    inner_within (literal p b more) i = inner_within more i.1
    inner_within (referred p bs more) i = inner_within more i.1
    inner_within (element p m x kids more) i = search bounding

    -- ---- the elements of a value

    period_judges : Judges n period_inside
    unfolding period_inside
    period_judges p m x kids h l i = search (bounding, inner_within)

    recur_judges : Judges n recur_inside
    unfolding recur_inside
    recur_judges p m x kids h l i = search (bounding, inner_within)

    typed_within : (k m : List ℕ) (t : ValueType) (p x : ℕ) (kids : Nodes) → p ≤ n → x ≤ n → Inside n kids → Within n (typed_verdict k m t p x kids)
    unfolding typed_verdict
    typed_within k m t p x kids h l i =
        let a = sequence_within period_slots period_inside period_judges kids 0 [] x i l in
        let b = sequence_within recur_slots recur_inside recur_judges kids 0 [] x i l in
        search (bounding, inner_within)

    as_typed_within : (o : Option ValueType) (k m : List ℕ) (t : ValueType) (p x : ℕ) (kids : Nodes) → p ≤ n → x ≤ n → Inside n kids →
        Within n (as_typed o k m t p x kids)
    as_typed_within None k m t p x kids h l i = search bounding
    as_typed_within (Some u) k m t p x kids h l i = search (bounding, typed_within)

    pub value_within : (k m : List ℕ) (t : ValueType) → Judges n (value_verdict k m t)
    unfolding value_verdict
    value_within k m t p q x kids h l i = let a = as_typed_within (element_type q) k m t p x kids h l i in search (bounding, inner_within)

    -- ---- the elements of parameters

    parameter_within : (m : List ℕ) (t : ValueType) (seen : List (List ℕ)) → Judges n (parameter_verdict ed m t seen)
    unfolding parameter_verdict
    parameter_within m t seen p q x kids h l i = search bounding

    pub parameters_within : (m : List ℕ) (t : ValueType) (ns : Nodes) (seen : List (List ℕ)) → Inside n ns → Within n (parameters_verdict ed m t ns seen)
    unfolding parameters_verdict
    parameters_within m t no_nodes seen i = within_fine n
    parameters_within m t (literal p b more) seen i = let ih = parameters_within m t more seen i.1 in search bounding
    parameters_within m t (referred p bs more) seen i = search bounding
    parameters_within m t (element p q x kids more) seen i =
        within_otherwise n _ _ (parameter_within m t seen p q x kids i.0 i.1 i.2) (parameters_within m t more (q ∷ seen) i.3)
