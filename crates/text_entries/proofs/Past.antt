-- The way past a component, line by line.
--     Passing    the invariant;   `search passings`
use mathlib.Core.Path.{◌≡◌, refl, sym, ap, ◌∙◌}
use mathlib.Core.List.{List, ◌∷◌}
use Prim.Native.Nat.{ℕ, ◌+◌, ◌-◌, ◌≤◌, ◌<◌}
use native.Mathlib.Omega.{arith}
use lib.ListN.{length}
use borrow.Author.Rules.{rules}
use Rattle.read_text_line.specs.Ready.{Ready}
use Rattle.text.specs.Tree.{Entry}
use Rattle.edition.specs.declared.Edition.{Edition}
use Rattle.text_entries.specs.declared.entry.Found.{Found}
use Rattle.text_entries.specs.declared.entry.Kind.TheVariants.{Begin, End, Property, Nothing}
use Rattle.text_entries.specs.Entries.{entries_at, First}
use Rattle.text_entries.specs.laws.Entries.{entries_past}
use Rattle.text_entries.specs.Bounds.{Aside, BoundAt}
use Rattle.text_entries.specs.laws.Bounds.{bound_kind}
use Rattle.text_entries.specs.laws.Passing.{behind_none, behind-begin, behind_close, behind_up, behind_aside}
use Rattle.text_entries.specs.Passing.{behind, Passed}

module _ (ed : Edition) where
  pub record Passing (mode : ℕ) (s : List ℕ) (from at depth : ℕ) : Type 0 where
    pub low : from ≤ at
    pub ready : Ready mode s at
    pub deep : depth ≤ at
    pub is : behind (entries_at ed mode s at) depth ≡ behind (entries_at ed mode s from) 0

module _ {ed : Edition} where
  pub passing_start : (mode : ℕ) (s : List ℕ) (from : ℕ) → Ready mode s from → Passing ed mode s from from 0
  passing_start mode s from r = record { low = omega arith; ready = r; deep = omega arith; is = refl }

  module _ {mode : ℕ} {s : List ℕ} {from at depth : ℕ} (m : Passing ed mode s from at depth) where
    pub passing_end : length s ≤ at → Passed ed mode s from at
    passing_end h = record { onward = m.low; ready = m.ready; rest = entries_past ed mode s at m.ready.cut h ∙ sym (behind_none depth) ∙ ap (λ (es : List Entry). behind es depth) (sym (entries_past ed mode s at m.ready.cut h)) ∙ m.is }

    passing_on : (x : Entry) (next depth' : ℕ) → at < next → Ready mode s next → depth' ≤ next → First ed mode s at x next → behind (x ∷ entries_at ed mode s next) depth ≡ behind (entries_at ed mode s next) depth' → Passing ed mode s from next depth'
    passing_on x next depth' h y l i q = record { low = omega (arith, m.low); ready = y; deep = l; is = sym q ∙ ap (λ (es : List Entry). behind es depth) (sym i) ∙ m.is }

    module _ {r : Found} (f : BoundAt ed mode s at r) where
      pub passing_begin : r.kind ≡ Begin → Passing ed mode s from r.next (depth + 1)
      passing_begin q = passing_on _ r.next (depth + 1) f.onward f.ready (omega (arith, m.deep, f.onward)) (bound_kind f Begin q) (behind-begin _ _ depth)

      pub passing_up : r.kind ≡ End → (depth ≡ 0 → ⊥) → Passing ed mode s from r.next (depth - 1)
      passing_up q h = passing_on _ r.next (depth - 1) f.onward f.ready (omega (arith, m.deep, f.onward)) (bound_kind f End q) (behind_up _ depth h)

      pub passing_over : r.kind ≡ End → depth ≡ 0 → Passed ed mode s from r.next
      passing_over q h = record {
        onward = omega (arith, m.low, f.onward);
        ready = f.ready;
        rest = sym (behind_close _ depth h) ∙ ap (λ (es : List Entry). behind es depth) (sym (bound_kind f End q)) ∙ m.is;
      }

      passing_aside : Aside ed mode s at r.next → Passing ed mode s from r.next depth
      passing_aside i = passing_on _ r.next depth f.onward f.ready (omega (arith, m.deep, f.onward)) i.first (behind_aside _ i.entry depth i.aside)

      pub passing_property : r.kind ≡ Property → Passing ed mode s from r.next depth
      passing_property q = passing_aside (bound_kind f Property q)

      pub passing_nothing : r.kind ≡ Nothing → Passing ed mode s from r.next depth
      passing_nothing q = passing_aside (bound_kind f Nothing q)

pub ruleset passings = (passing_start, passing_end, passing_begin, passing_up, passing_over, passing_property, passing_nothing, rules)
