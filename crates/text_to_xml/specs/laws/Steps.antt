-- Laws of the steps of `to_xml` and `to_xml_folded`.
use Rattle.std.specs.Prelude.{◌≡◌, refl, true, List, ℕ, zero, suc, ◌+◌, ◌*◌, ◌^◌, ◌≤◌, ◌<◌, length, take, Option, None, Some, Ok, Err}
use Rattle.std.proofs.Common.{ap, ◌∙◌, arith}
use Rattle.std.proofs.lemmas.Bool.{false≢true}
use Rattle.octets.specs.Pick.{pick}
use Rattle.calendar.specs.Refusal.{fine, answer}
use Rattle.source.specs.Source.{rest, cuts}
use Rattle.source.specs.laws.Facts.{rest_plain}
use Rattle.folding.specs.laws.Unfold.{length-unfolded}
use Rattle.folding.specs.Lines.{lines}
use Rattle.edition.specs.Edition.{edition_of}
use Rattle.edition.specs.declared.Edition.{Edition}
use Rattle.text.specs.Tree.{calendar_of}
use Rattle.xcal.specs.WriteXml.{write_document}
use Rattle.lengths_xml.specs.laws.Documents.{xml_short, xml_fits}
use Rattle.calls.specs.Conversion.{Converted, converted, outcome, contents}
use Rattle.calls.specs.ToXml.{to_xml, to_xml_outcome, to_xml_output, to_xml_work}
use Rattle.calls.specs.ToXmlFolded.{to_xml_folded_outcome, to_xml_folded_output}
use Rattle.calls.specs.Answered.{outcome_of, answer_of, Done}
use Rattle.calls.specs.declared.Answer.{Answer}
use Rattle.read_text_whole.specs.Whole.{Reads, KeepsFolded, ReadsFolded}
use Rattle.read_text_whole.specs.laws.Given.{given, refused_done, kept_done, folded_done}
use Rattle.read_text_whole.specs.declared.Kept.{Kept}
use Rattle.refusals.specs.declared.Fault.{Fault}

-- the contracts of the calls: all that each answers, and leaves in the output and in the work room
abbrev pub Converts : List ℕ → List ℕ → List ℕ → List ℕ → List ℕ → ℕ → Answer → Type 0
Converts s w w' d d' edition r = (outcome_of r ≡ to_xml_outcome s w d edition) × (d' ≡ to_xml_output s w d edition) × (w' ≡ to_xml_work s w edition)

abbrev pub ConvertsFolded : List ℕ → List ℕ → List ℕ → ℕ → Answer → Type 0
ConvertsFolded s d d' edition r = (outcome_of r ≡ to_xml_folded_outcome s d edition) × (d' ≡ to_xml_folded_output s d edition)

-- no more bytes are read than there are
pub rest_short : (m : ℕ) (s : List ℕ) → cuts m ≡ true → length (rest m s 0) ≤ length s
unfolding rest pick
rest_short zero s y = omega arith
rest_short (suc zero) s y = absurd (false≢true y)
rest_short (suc (suc zero)) s y = length-unfolded s
rest_short (suc (suc (suc m))) s y = absurd (false≢true y)

module _ (ed : Edition) (m : ℕ) (s : List ℕ) (y : cuts m ≡ true) where
  -- an index of the sink counts the XML of a text within the limit
  pub xml_counted : length s ≤ 65535 → length (write_document (calendar_of ed (lines (rest m s 0)))) < 2 ^ 63
  xml_counted h = let k : length (rest m s 0) ≤ 65535 = omega (arith, rest_short m s y) in omega (arith, xml_short ed (rest m s 0) k)

  pub xml_roomy : {n : ℕ} → 19 * length s + 109 ≤ n → length (write_document (calendar_of ed (lines (rest m s 0)))) ≤ n
  xml_roomy {n} h = xml_fits ed (rest m s 0) n (omega (arith, rest_short m s y))

-- ---- the call

as_given : (o : Option Edition) (s : List ℕ) (room : ℕ) → given write_document o s room ≡ to_xml o s room
unfolding to_xml
as_given (Some ed) s room = refl
as_given None s room = refl

module _ (s w d : List ℕ) (edition : ℕ) {w' : List ℕ} where
  done : {e : List ℕ} {a : Answer} → Done (given write_document (edition_of edition) s (length w)) d e a → w' ≡ to_xml_work s w edition → Converts s w w' d e edition a
  done g k =
      let same = as_given (edition_of edition) s (length w) in
      (g.answer ∙ ap (λ (c : Converted). outcome c (length d)) same, g.left ∙ ap (λ (c : Converted). contents c d) same, k)

  pub whole_refused : (f : Fault) {a : Answer} → Reads s w w' edition (Err f) → a ≡ answer_of f → w' ≡ to_xml_work s w edition → Converts s w w' d d edition a
  whole_refused f h e k = done (rw e (refused_done write_document s w d (edition_of edition) f h)) k

  pub whole_kept : (k : Kept) {e : List ℕ} {a : Answer} → Reads s w w' edition (Ok k) → w' ≡ to_xml_work s w edition →
      Done (converted write_document (answer fine (calendar_of k.edition (lines (rest 0 (take k.size w') 0))))) d e a → Converts s w w' d e edition a
  whole_kept k h q g = done (kept_done write_document s w d h (rw (rest_plain (take k.size w')) at g)) q

-- ---- the call that reads the folds in place

module _ (s d : List ℕ) (edition : ℕ) where
  done_folded : {e : List ℕ} {a : Answer} → Done (given write_document (edition_of edition) s (length s)) d e a → ConvertsFolded s d e edition a
  done_folded g =
      let same = as_given (edition_of edition) s (length s) in
      (g.answer ∙ ap (λ (c : Converted). outcome c (length d)) same, g.left ∙ ap (λ (c : Converted). contents c d) same)

  pub folded_refused : (f : Fault) {a : Answer} → ReadsFolded s edition (Err f) → a ≡ answer_of f → ConvertsFolded s d d edition a
  folded_refused f h e = done_folded (rw e (refused_done write_document s s d (edition_of edition) f h))

  pub folded_kept : {ed : Edition} {e : List ℕ} {a : Answer} → KeepsFolded s edition ed →
      Done (converted write_document (answer fine (calendar_of ed (lines (rest 2 s 0))))) d e a → ConvertsFolded s d e edition a
  folded_kept h g = done_folded (folded_done write_document h g)
