-- Laws of the steps of `to_jcal`.
use Rattle.std.specs.Prelude.{◌≡◌, refl, List, ℕ, ◌^◌, ◌≤◌, ◌<◌, length, take, Option, None, Some, Ok, Err}
use Rattle.std.proofs.Common.{ap, ◌∙◌, arith}
use Rattle.calendar.specs.Refusal.{fine, answer}
use Rattle.sink.specs.Sink.{Put}
use Rattle.source.specs.Source.{rest}
use Rattle.source.specs.laws.Facts.{rest_plain}
use Rattle.folding.specs.Lines.{lines}
use Rattle.edition.specs.Edition.{edition_of}
use Rattle.edition.specs.declared.Edition.{Edition}
use Rattle.text.specs.Tree.{calendar_of}
use Rattle.jcal.specs.WriteJcal.{write_jcal}
use Rattle.lengths_jcal.specs.laws.Streams.{jcal_short}
use Rattle.calls.specs.Conversion.{Converted, converted, outcome, contents}
use Rattle.calls.specs.Answered.{outcome_of, answer_of, Done}
use Rattle.calls.specs.declared.Answer.{Answer}
use Rattle.calls_jcal.specs.ToJcal.{to_jcal, to_jcal_outcome, to_jcal_output, to_jcal_work}
use Rattle.read_text_whole.specs.Whole.{Reads}
use Rattle.read_text_whole.specs.laws.Given.{given, refused_done, kept_done}
use Rattle.read_text_whole.specs.declared.Kept.{Kept}
use Rattle.refusals.specs.declared.Fault.{Fault}

-- the contract of the call: all that it answers, and leaves in the output and in the work room
abbrev pub Converts : List ℕ → List ℕ → List ℕ → List ℕ → List ℕ → ℕ → Answer → Type 0
Converts s w w' d d' edition r = (outcome_of r ≡ to_jcal_outcome s w d edition) × (d' ≡ to_jcal_output s w d edition) × (w' ≡ to_jcal_work s w edition)

-- the writer reads the unfolded text as bytes as they stand
pub put_kept : (ed : Edition) (u : List ℕ) {d e : List ℕ} {o r : ℕ} → Put d e o r (write_jcal (calendar_of ed (lines (rest 0 u 0)))) → Put d e o r (write_jcal (calendar_of ed (lines u)))
put_kept ed u w = rw (rest_plain u) at w

-- an index of the sink counts the jCal of a text within the limit
pub jcal_counted : (ed : Edition) (u : List ℕ) → length u ≤ 65535 → length (write_jcal (calendar_of ed (lines u))) < 2 ^ 63
jcal_counted ed u h = omega (arith, jcal_short ed u h)

-- ---- the call

as_given : (o : Option Edition) (s : List ℕ) (room : ℕ) → given write_jcal o s room ≡ to_jcal o s room
unfolding to_jcal
as_given (Some ed) s room = refl
as_given None s room = refl

module _ (s w d : List ℕ) (edition : ℕ) {w' : List ℕ} where
  done : {e : List ℕ} {a : Answer} → Done (given write_jcal (edition_of edition) s (length w)) d e a → w' ≡ to_jcal_work s w edition → Converts s w w' d e edition a
  done g k =
      let same = as_given (edition_of edition) s (length w) in
      (g.answer ∙ ap (λ (c : Converted). outcome c (length d)) same, g.left ∙ ap (λ (c : Converted). contents c d) same, k)

  pub whole_refused : (f : Fault) {a : Answer} → Reads s w w' edition (Err f) → a ≡ answer_of f → w' ≡ to_jcal_work s w edition → Converts s w w' d d edition a
  whole_refused f h e k = done (rw e (refused_done write_jcal s w d (edition_of edition) f h)) k

  pub whole_kept : (k : Kept) {e : List ℕ} {a : Answer} → Reads s w w' edition (Ok k) → w' ≡ to_jcal_work s w edition →
      Done (converted write_jcal (answer fine (calendar_of k.edition (lines (take k.size w'))))) d e a → Converts s w w' d e edition a
  whole_kept k h q g = done (kept_done write_jcal s w d h g) q
