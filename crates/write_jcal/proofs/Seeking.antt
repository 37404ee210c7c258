-- The way to the next component, line by line.
--     Seeking    the invariant;   `search seekings`
use Prim.{tt}
use Rattle.std.specs.Prelude.{None, Some}
use mathlib.Core.Path.{◌≡◌, refl, sym, ap, ◌∙◌}
use mathlib.Core.Bool.{true, false}
use mathlib.Core.List.{List}
use Prim.Native.Nat.{ℕ, ◌≤◌}
use native.Mathlib.Omega.{arith}
use lib.ListN.{length}
use borrow.Author.Rules.{rules}
use Rattle.read_text_line.specs.Ready.{Ready}
use Rattle.text.specs.Tree.{Entry, inner_of}
use Rattle.edition.specs.declared.Edition.{Edition}
use Rattle.text_entries.specs.declared.entry.Found.{Found}
use Rattle.text_entries.specs.declared.entry.Kind.TheVariants.{Begin, End, Property, Nothing}
use Rattle.text_entries.specs.Entries.{entries_at}
use Rattle.text_entries.specs.laws.Entries.{entries_past}
use Rattle.text_entries.specs.Bounds.{Aside, BoundAt}
use Rattle.text_entries.specs.laws.Bounds.{bound_kind}
use Rattle.text_entries.specs.laws.Passing.{inner_past, inner_closed, inner_beside}
use Rattle.write_jcal.specs.Alone.{NextBegun}

module _ (ed : Edition) where
  pub record Seeking (mode : ℕ) (s : List ℕ) (from at : ℕ) : Type 0 where
    pub low : from ≤ at
    pub ready : Ready mode s at
    pub is : inner_of (entries_at ed mode s at) 0 ≡ inner_of (entries_at ed mode s from) 0

module _ {ed : Edition} where
  pub seeking_start : (mode : ℕ) (s : List ℕ) (from : ℕ) → Ready mode s from → Seeking ed mode s from from
  seeking_start mode s from r = record { low = omega arith; ready = r; is = refl }

  module _ {mode : ℕ} {s : List ℕ} {from at : ℕ} (m : Seeking ed mode s from at) where
    pub seeking_ready : Ready mode s at
    seeking_ready = m.ready

    pub seeking_end : length s ≤ at → NextBegun ed mode s from None
    seeking_end h = record { none = sym m.is ∙ ap (λ (es : List Entry). inner_of es 0) (entries_past ed mode s at m.ready.cut h) ∙ inner_past; begins = tt }

    module _ {r : Found} (f : BoundAt ed mode s at r) where
      pub seeking_begin : r.kind ≡ Begin → NextBegun ed mode s from (Some r.next)
      seeking_begin q = record { none = tt; begins = record { onward = omega (arith, m.low, f.onward); ready = f.ready; name = _; is = sym m.is ∙ ap (λ (es : List Entry). inner_of es 0) (bound_kind f Begin q) } }

      pub seeking_over : r.kind ≡ End → NextBegun ed mode s from None
      seeking_over q = record { none = sym m.is ∙ ap (λ (es : List Entry). inner_of es 0) (bound_kind f End q) ∙ inner_closed _; begins = tt }

      aside : Aside ed mode s at r.next → Seeking ed mode s from r.next
      aside i = record { low = omega (arith, m.low, f.onward); ready = f.ready; is = sym (ap (λ (es : List Entry). inner_of es 0) i.first ∙ inner_beside _ i.entry i.aside) ∙ m.is }

      pub seeking_property : r.kind ≡ Property → Seeking ed mode s from r.next
      seeking_property q = aside (bound_kind f Property q)

      pub seeking_nothing : r.kind ≡ Nothing → Seeking ed mode s from r.next
      seeking_nothing q = aside (bound_kind f Nothing q)

pub ruleset seekings = (seeking_start, seeking_ready, seeking_end, seeking_begin, seeking_over, seeking_property, seeking_nothing, rules)
