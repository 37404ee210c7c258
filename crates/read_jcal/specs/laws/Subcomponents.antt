-- Laws of what specs/Subcomponents.antt defines.
--     wholes   the rules of a component
--     Among    the invariant of the walk over components;   among: the rules
use Rattle.std.specs.Prelude.{◌≡◌, refl, Bool, true, false, List, ℕ, ◌+◌, ◌*◌, ◌-◌, ◌≤◌, ◌<◌, ⊤, Result, Ok, Err}
use Rattle.std.proofs.Common.{sym, ap, subst, ◌∙◌, arith, rules}
use Rattle.names.specs.Table.{place_of}
use Rattle.calendar.specs.Calendar.{Property}
use Rattle.calendar.specs.Refusal.{◌otherwise◌}
use Rattle.schema.specs.Components.{component_names, may_contain}
use Rattle.schema.specs.Columns.{may_begin}
use Rattle.schema.specs.laws.Columns.{begin_place}
use Rattle.schema.specs.Counts.{method_for, complete}
use Rattle.schema.specs.Completing.{complete_at, method_at}
use Rattle.schema.specs.laws.Completing.{method_tallies, complete-tallies}
use Rattle.edition.specs.declared.Edition.{Edition}
use Rattle.json_text.specs.Tree.{Json, Elements}
use Rattle.jcal.specs.Components.{components_verdict}
use Rattle.read_json.specs.TreeAt.{elements_at}
use Rattle.read_json.specs.Heads.{value_of_head, HeadAt, NextAt}
use Rattle.read_json.specs.Kinds.{is_there}
use Rattle.read_json.specs.declared.Head.{Head}
use Rattle.tallies.specs.Counting.{Counted}
use Rattle.tallies.specs.declared.Kept.{Kept}
use Rattle.refusals.specs.Fault.{judged_as}
use Rattle.refusals.specs.declared.Fault.{Fault}
use Prim.{tt}
use Rattle.read_jcal.specs.laws.Arrays.{none_found, element_found, element_here, head_inside, next_less}
use Rattle.read_jcal.specs.Components.{Names, around, BehindAt, BegunAt}
use Rattle.read_jcal.specs.Subcomponents.{ComponentAt, CompsAt}
use Rattle.read_jcal.specs.declared.Outer.{Outer}
use Rattle.read_jcal.specs.declared.Outer.TheVariants.{Component}
use Rattle.read_jcal.specs.declared.Begun.{Begun}

-- the components that may stand in a component of the name i
names_in : (i : List ℕ) {k : ℕ} → k ≡ place_of i component_names → Names (Component k) (may_contain i)
names_in i o = record { is = λ n. begin_place i n ∙ ap (λ (j : ℕ). may_begin j (place_of n component_names)) (sym o) }

-- what is kept, and the definitions
module _ (i : List ℕ) {k : ℕ} (o : k ≡ place_of i component_names) (ps : List Property) {t : Kept} (n : Counted ps t) (m : Bool) where
  method_is : method_for i ps m ≡ method_at k t.counts m
  method_is = sym (rw (n.tallied, o) (method_tallies i ps m))

  complete_is : (s : List ℕ) (x : ℕ) → complete i ps (around s x m) ≡ complete_at k t.counts t.action (around s x m)
  complete_is s x = sym (rw (n.tallied, n.acting, o) (complete-tallies i ps (around s x m)))

-- ---- a component

-- the measure of several components, by the levels that are left, and that of one
pub fall_in : (l : ℕ) {t : ℕ} → t ≡ 2 * l + 1 → 2 * l < t
fall_in l e = omega arith

module _ (ed : Edition) {o : Outer} {left : ℕ} {s : List ℕ} {inside : ℕ} {v : Json} {b : Begun} (d : BegunAt ed o left s inside v (Ok b)) where
  pub whole_left : 1 ≤ left
  whole_left = d.fits.2

module _ (ed : Edition) {o : Outer} {left : ℕ} {s : List ℕ} (h : Head) where
  pub whole_ends : (m : Bool) {f : Fault} → BegunAt ed o left s h.next (value_of_head s h) (Err f) → ComponentAt ed o left m s h (Err f)
  whole_ends m d = record { is = λ may a. d.is may a m }

  module _ {b : Begun} (d : BegunAt ed o left s h.next (value_of_head s h) (Ok b)) (m : Bool) {n : Bool} (u : n ≡ method_at b.component b.kept.counts m) where
    inner_is : {r : Result ⊤ Fault} → CompsAt ed (Component b.component) (left - 1) n s b.components r →
        components_verdict ed (elements_at s b.components) (may_contain d.name) (left - 1) (method_for d.name d.stated m) ≡ judged_as r
    inner_is w =
        ap (components_verdict ed (elements_at s b.components) (may_contain d.name) (left - 1)) (method_is d.name d.fits.0 d.stated d.fits.1 m ∙ sym u)
        ∙ w.is (may_contain d.name) (names_in d.name d.fits.0)

    pub whole_fails : {f : Fault} → CompsAt ed (Component b.component) (left - 1) n s b.components (Err f) → ComponentAt ed o left m s h (Err f)
    unfolding ◌otherwise◌
    whole_fails w = record { is = λ may a. d.is may a m ∙ rw (inner_is w) }

    pub whole_behind : {u : ⊤} {v : Result ⊤ Fault} → CompsAt ed (Component b.component) (left - 1) n s b.components (Ok u) → BehindAt b m s h.next v → ComponentAt ed o left m s h v
    unfolding ◌otherwise◌
    whole_behind w q = record { is = λ may a. d.is may a m ∙ rw (inner_is w, complete_is d.name d.fits.0 d.stated d.fits.1 m s b.components) q.is }

pub ruleset wholes = (whole_ends, whole_fails, whole_behind, whole_left, rules)

-- ---- several

module _ (ed : Edition) where
  pub record Among (o : Outer) (left : ℕ) (m : Bool) (s : List ℕ) (from at : ℕ) : Type 0 where
    pub is : (may : List ℕ → Bool) → Names o may → components_verdict ed (elements_at s from) may left m ≡ components_verdict ed (elements_at s at) may left m

module _ (ed : Edition) where
  pub among_start : (o : Outer) (left : ℕ) (m : Bool) (s : List ℕ) (from : ℕ) → Among ed o left m s from from
  among_start o left m s from = record { is = λ may a. refl }

  module _ {o : Outer} {left : ℕ} {m : Bool} {s : List ℕ} {from at : ℕ} (i : Among ed o left m s from at) {h : Head} (n : HeadAt s at h) {b : Bool} (e : b ≡ is_there h.kind) where
    with_elements : {es : Elements} → elements_at s at ≡ es → (may : List ℕ → Bool) → Names o may → components_verdict ed (elements_at s from) may left m ≡ components_verdict ed es may left m
    with_elements q may a = i.is may a ∙ ap (λ (es : Elements). components_verdict ed es may left m) q

    pub among_none : b ≡ false → CompsAt ed o left m s from (Ok tt)
    unfolding components_verdict
    among_none y = record { is = with_elements (none_found n (sym e ∙ y)) }

    module _ (y : b ≡ true) where
      pub among_fine : {next : ℕ} {u : ⊤} → ComponentAt ed o left m s h (Ok u) → NextAt s h next → Among ed o left m s from next
      unfolding components_verdict ◌otherwise◌
      among_fine d f = record { is = λ may a. with_elements (element_found n f (sym e ∙ y)) may a ∙ rw (d.is may a) }

      pub among_bad : {x : Fault} → ComponentAt ed o left m s h (Err x) → CompsAt ed o left m s from (Err x)
      unfolding components_verdict ◌otherwise◌
      among_bad d = record { is = λ may a. with_elements (element_here n (sym e ∙ y)) may a ∙ rw (d.is may a) }

pub ruleset among = (fall_in, among_start, among_none, among_fine, among_bad, head_inside, next_less, rules)
