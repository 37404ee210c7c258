-- A walk over the lines of a component.
--     Along      it began at `from` and has come to the line at `at`, and the component ends where it did
--     along_start, along_aside, along_component     its steps;   along_end, along_closed: it has passed the component
use Rattle.std.specs.Prelude.{◌≡◌, refl, true, List, ℕ, ◌≤◌, ◌<◌, length}
use Rattle.std.proofs.Common.{sym, ap, ◌∙◌, arith}
use Rattle.read_text_line.specs.Ready.{Ready}
use Rattle.text.specs.Tree.{Entry, begin, end}
use Rattle.edition.specs.declared.Edition.{Edition}
use Rattle.text_entries.specs.Entries.{entries_at, First}
use Rattle.text_entries.specs.laws.Entries.{entries_past}
use Rattle.text_entries.specs.Passing.{behind, is_aside, Passed}
use Rattle.text_entries.specs.laws.Passing.{behind_none, behind-begin, behind_close, behind_aside, behind_deeper}

module _ (ed : Edition) where
  pub record Along (mode : ℕ) (s : List ℕ) (from at : ℕ) : Type 0 where
    pub low : from ≤ at
    pub ready : Ready mode s at
    pub over : behind (entries_at ed mode s at) 0 ≡ behind (entries_at ed mode s from) 0

module _ {ed : Edition} where
  pub along_start : (mode : ℕ) (s : List ℕ) (from : ℕ) → Ready mode s from → Along ed mode s from from
  along_start mode s from r = record { low = omega arith; ready = r; over = refl }

  module _ {mode : ℕ} {s : List ℕ} {from at : ℕ} (m : Along ed mode s from at) where
    -- it comes to the end of the text, or of the component
    pub along_end : length s ≤ at → Passed ed mode s from at
    along_end h = record { onward = m.low; ready = m.ready; rest = entries_past ed mode s at m.ready.cut h ∙ sym (behind_none 0) ∙ ap (λ (es : List Entry). behind es 0) (sym (entries_past ed mode s at m.ready.cut h)) ∙ m.over }

    module _ {next : ℕ} (h : at < next) where
      pub along_closed : Ready mode s next → First ed mode s at end next → Passed ed mode s from next
      along_closed y i = record { onward = omega (arith, m.low); ready = y; rest = sym (behind_close _ 0 refl) ∙ ap (λ (es : List Entry). behind es 0) (sym i) ∙ m.over }

      pub along_aside : (x : Entry) → is_aside x ≡ true → Ready mode s next → First ed mode s at x next → Along ed mode s from next
      along_aside x q y i = record { low = omega (arith, m.low); ready = y; over = sym (ap (λ (es : List Entry). behind es 0) i ∙ behind_aside _ x 0 q) ∙ m.over }

      -- over a component that is passed
      pub along_component : {n : ℕ} (v : List ℕ) → First ed mode s at (begin v) next → Passed ed mode s next n → Along ed mode s from n
      along_component v i p = record {
        low = omega (arith, m.low, p.onward);
        ready = p.ready;
        over = rw p.rest (sym (ap (λ (es : List Entry). behind es 0) i ∙ behind-begin (entries_at ed mode s next) v 0 ∙ behind_deeper (entries_at ed mode s next) 0)) ∙ m.over;
      }
