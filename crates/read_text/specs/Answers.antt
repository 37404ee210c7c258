-- What the check answers, as a verdict.
--     verdict_of    the verdict of an answer
--     Checks        the contract of the check: the verdict on the lines of a text, at a place within the text
use Rattle.std.specs.Prelude.{◌≡◌, List, ℕ, ◌≤◌, length, ⊤, Result, Ok, Err}
use Rattle.calendar.specs.Refusal.{Verdict, fine, refuse}
use Rattle.source.specs.Source.{rest}
use Rattle.read_text_line.specs.LineEnd.{index}
use Rattle.folding.specs.Lines.{lines}
use Rattle.text.specs.ReadText.{lines_verdict}
use Rattle.edition.specs.declared.Edition.{Edition}
use Rattle.refusals.specs.Fault.{refusal_of}
use Rattle.refusals.specs.declared.Fault.{Fault}

abbrev pub verdict_of : ℕ → List ℕ → Result ⊤ Fault → Verdict
verdict_of m s (Ok u) = fine
verdict_of m s (Err f) = refuse (refusal_of f.refusal) (index m s f.place)

-- the place of a refusal is within n bytes, or at their end
abbrev pub PlaceIn : ℕ → Result ⊤ Fault → Type 0
PlaceIn n (Ok u) = Unit {0}
PlaceIn n (Err f) = f.place ≤ n

module _ (ed : Edition) where
  pub record Checks (m : ℕ) (s : List ℕ) (r : Result ⊤ Fault) : Type 0 where
    pub is : lines_verdict ed (length (rest m s 0)) (lines (rest m s 0)) ≡ verdict_of m s r
    pub place : PlaceIn (length s) r
