-- The verdict on a text as it is lent, in the edition that is named by its number, and what code answers of it.
--     whole_verdict   LENGTH, WORK and EDITION in this order, then the verdict on the text in the edition
--     Refuses         a fault is the refusal that a verdict gives, at its place
--     Judges          the contract of the check of kept bytes
--     Reads           the contract of reading a text as it is lent, unfolded into a work room
--     ReadsFolded     the contract of reading it with its folds in place
use Rattle.std.specs.Prelude.{◌≡◌, List, ℕ, ◌≤◌, leb, length, take, Option, None, Some, Result, Ok, Err}
use Rattle.octets.specs.Pick.{pick}
use Rattle.calendar.specs.Refusal.{LENGTH, WORK, EDITION, Verdict, fine, refuse, limit}
use Rattle.folding.specs.Unfold.{unfolded}
use Rattle.edition.specs.Edition.{edition_of}
use Rattle.edition.specs.declared.Edition.{Edition}
use Rattle.text.specs.ReadText.{placed, text_verdict}
use Rattle.refusals.specs.Fault.{refusal_of}
use Rattle.refusals.specs.declared.Fault.{Fault}
use Rattle.read_text_whole.specs.declared.Kept.{Kept}

unfoldable pub whole_verdict : Option Edition → List ℕ → ℕ → Verdict
whole_verdict (Some ed) s room = text_verdict ed s room
whole_verdict None s room = pick (leb (length s) limit) (pick (leb (length s) room) (refuse EDITION 0) (refuse WORK 0)) (refuse LENGTH 0)

abbrev pub Refuses : Verdict → Fault → Type 0
Refuses v f = v ≡ refuse (refusal_of f.refusal) f.place

-- the text s in an edition; v has places among its kept bytes, which are read from size bytes
abbrev pub Judges : Edition → List ℕ → ℕ → Verdict → Result Kept Fault → Type 0
Judges ed s size v (Ok k) = (v ≡ fine) × (k.edition ≡ ed) × (k.size ≡ size)
Judges ed s size v (Err f) = Refuses (placed s v) f

-- the text s is fine, and the n bytes of it that are kept stand at the front of the work room w', which was w
pub record Keeps (s w w' : List ℕ) (edition : ℕ) (ed : Edition) (n : ℕ) : Type 0 where
  pub named : Some ed ≡ edition_of edition
  pub good : text_verdict ed s (length w) ≡ fine
  pub front : take n w' ≡ unfolded s
  pub inside : n ≤ length w'
  pub short : length (take n w') ≤ limit

abbrev pub Reads : List ℕ → List ℕ → List ℕ → ℕ → Result Kept Fault → Type 0
Reads s w w' edition (Ok k) = Keeps s w w' edition k.edition k.size
Reads s w w' edition (Err f) = Refuses (whole_verdict (edition_of edition) s (length w)) f

-- the text s is fine
pub record KeepsFolded (s : List ℕ) (edition : ℕ) (ed : Edition) : Type 0 where
  pub named : Some ed ≡ edition_of edition
  pub good : text_verdict ed s (length s) ≡ fine
  pub short : length s ≤ limit

-- where no work room is lent, WORK is never given
abbrev pub ReadsFolded : List ℕ → ℕ → Result Kept Fault → Type 0
ReadsFolded s edition (Ok k) = KeepsFolded s edition k.edition
ReadsFolded s edition (Err f) = Refuses (whole_verdict (edition_of edition) s (length s)) f
