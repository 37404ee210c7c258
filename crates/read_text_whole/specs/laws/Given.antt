-- What the calls from text give, by the writer of a format, where the text was read as specs/Whole.antt says.
--     given           what a call gives: `to_xml` is given write_document
--     refused_done    a text that is refused
--     kept_done       a text that is fine: what is written of its kept bytes;   folded_done: of the text with its folds in place
use Rattle.std.specs.Prelude.{refl, Bool, List, [], ℕ, leb, length, take, Option, None, Some}
use Rattle.std.proofs.Math.Bool.{true, false}
use Rattle.octets.specs.Pick.{pick}
use Rattle.calendar.specs.Calendar.{Calendar, no_more}
use Rattle.calendar.specs.Refusal.{Refusal, LENGTH, WORK, EDITION, Verdict, fine, refuse, answer, limit}
use Rattle.source.specs.Source.{rest}
use Rattle.folding.specs.Unfold.{unfolded}
use Rattle.folding.specs.Lines.{lines}
use Rattle.edition.specs.Edition.{edition_of}
use Rattle.edition.specs.declared.Edition.{Edition}
use Rattle.text.specs.Tree.{calendar_of}
use Rattle.text.specs.ReadText.{text_verdict, read_calendar}
use Rattle.calls.specs.Conversion.{Converted, fault, converted}
use Rattle.calls.specs.Answered.{answer_of, Done}
use Rattle.calls.specs.laws.Answered.{done_fault}
use Rattle.calls.specs.declared.Answer.{Answer}
use Rattle.refusals.specs.declared.Fault.{Fault}
use Rattle.read_text_whole.specs.Whole.{whole_verdict, Refuses, Keeps, KeepsFolded}

-- a number that names no edition is refused after LENGTH and WORK
abbrev pub given : (Calendar → List ℕ) → Option Edition → List ℕ → ℕ → Converted
given write (Some ed) s room = converted write (read_calendar ed s room)
given write None s room = pick (leb (length s) limit) (pick (leb (length s) room) (fault EDITION 0) (fault WORK 0)) (fault LENGTH 0)

-- a verdict that refuses
by_verdict : (write : Calendar → List ℕ) (d : List ℕ) (v : Verdict) (c : Calendar) {f : Fault} → Refuses v f → Done (converted write (answer v c)) d d (answer_of f)
by_verdict write d v c h = rw h (done_fault d refl)

refuse_done : (d : List ℕ) (r : Refusal) (p : ℕ) {f : Fault} → Refuses (refuse r p) f → Done (fault r p) d d (answer_of f)
refuse_done d r p h = by_verdict (λ c. []) d (refuse r p) no_more h

module _ (write : Calendar → List ℕ) (s w d : List ℕ) where
  pub refused_done : (o : Option Edition) (f : Fault) → Refuses (whole_verdict o s (length w)) f → Done (given write o s (length w)) d d (answer_of f)
  unfolding whole_verdict read_calendar pick
  refused_done (Some ed) f h = by_verdict write d (text_verdict ed s (length w)) (calendar_of ed (lines (unfolded s))) h
  refused_done None f h = go (leb (length s) limit) (leb (length s) (length w)) h
    where
      go : (x y : Bool) → Refuses (pick x (pick y (refuse EDITION 0) (refuse WORK 0)) (refuse LENGTH 0)) f → Done (pick x (pick y (fault EDITION 0) (fault WORK 0)) (fault LENGTH 0)) d d (answer_of f)
      go true true h = refuse_done d EDITION 0 h
      go true false h = refuse_done d WORK 0 h
      go false y h = refuse_done d LENGTH 0 h

  pub kept_done : {w' e : List ℕ} {edition : ℕ} {ed : Edition} {n : ℕ} {a : Answer} → Keeps s w w' edition ed n →
      Done (converted write (answer fine (calendar_of ed (lines (take n w'))))) d e a → Done (given write (edition_of edition) s (length w)) d e a
  unfolding read_calendar
  kept_done k g = rw (← k.named, k.good, ← k.front) g

pub folded_done : (write : Calendar → List ℕ) {s d e : List ℕ} {edition : ℕ} {ed : Edition} {a : Answer} → KeepsFolded s edition ed →
    Done (converted write (answer fine (calendar_of ed (lines (rest 2 s 0))))) d e a → Done (given write (edition_of edition) s (length s)) d e a
unfolding read_calendar rest pick
folded_done write k g = rw (← k.named, k.good) g
