-- From text to XML, back to text, and to XML again.
--     there_and_back    of an accepted call whose XML is within the input limit: a call to text with this XML and room enough is accepted and gives the
--                       canonical text of the same calendar; where that text is within the limit, a call to XML with it, a work room no shorter and
--                       room enough is accepted and gives the same XML, byte for byte
use Rattle.std.specs.Prelude.{◌≡◌, true, ℕ, ◌≤◌, length, Some}
use Rattle.std.proofs.Common.{sym, ◌∙◌, arith}
use Rattle.std.proofs.Math.Path.{ap}
use mathlib.Core.List.{List}
use Rattle.calendar.specs.Refusal.{limit}
use Rattle.calendar.specs.Calendar.{Calendar}
use Rattle.text.specs.ReadText.{read_calendar}
use Rattle.text.specs.WriteText.{write_calendar}
use Rattle.text.proofs.laws.AcceptedText.{accepted_valid, accepted_back}
use Rattle.xcal.specs.WriteXml.{write_document}
use Rattle.xcal.specs.ReadDocument.{read_document}
use Rattle.xcal.proofs.laws.DocumentBack.{document_back}
use Rattle.calls.specs.Conversion.{result, converted}
use Rattle.calls.specs.ToXml.{to_xml}
use Rattle.calls.specs.ToText.{to_text}
use Rattle.edition.specs.declared.Edition.{Edition}
use Rattle.theorems.specs.Calls.{Call, is_accepted, xml_of, States, TextCall, is_text_accepted, text_of}
use Rattle.theorems.proofs.laws.Calls.{result_given, given, states_one}

-- lists that are the same are as long
pub within_too : (a b : List ℕ) (n : ℕ) → a ≡ b → length a ≤ n → length b ≤ n
within_too a b n e h = let q : length a ≡ length b = ap length e in omega arith

module _ (ed : Edition) where
  -- the XML of a call is the document of the calendar that it states
  xml_is : (k : Call) (c : Calendar) → is_accepted ed k ≡ true → States ed k c → xml_of ed k ≡ write_document c
  xml_is k c h s = let g = given ed k h in g.xml ∙ ap write_document (states_one ed k g.calendar c g.states s)

  document_text : (k : Call) (c : Calendar) (s : List ℕ) → States ed k c → s ≡ write_document c → length s ≤ limit → to_text (Some ed) s ≡ result (write_calendar ed c)
  unfolding to_text
  document_text k c s t e l =
      ap (λ (x : List ℕ). converted (write_calendar ed) (read_document ed x)) e
      ∙ ap (converted (write_calendar ed)) (document_back ed c (accepted_valid ed k.input (length k.work) c t) (within_too s (write_document c) limit e l))

  text_document : (k : Call) (c : Calendar) (s : List ℕ) (room : ℕ) → States ed k c → s ≡ write_calendar ed c → length s ≤ limit → length s ≤ room → to_xml (Some ed) s room ≡ result (write_document c)
  unfolding to_xml
  text_document k c s room t e l r =
      ap (λ (x : List ℕ). converted write_document (read_calendar ed x room)) e
      ∙ ap (converted write_document) (accepted_back ed k.input (length k.work) c t room (within_too s (write_calendar ed c) limit e l) (within_too s (write_calendar ed c) room e r))

  pub there_and_back : (k : Call) (c : Calendar) → is_accepted ed k ≡ true → States ed k c → length (xml_of ed k) ≤ limit →
      (t : TextCall) → t.input ≡ xml_of ed k → length (write_calendar ed c) ≤ length t.output →
      (is_text_accepted ed t ≡ true)
      × (text_of ed t ≡ write_calendar ed c)
      × ((again : Call) → again.input ≡ text_of ed t → length (text_of ed t) ≤ limit → length (text_of ed t) ≤ length again.work → length (xml_of ed k) ≤ length again.output →
      (is_accepted ed again ≡ true) × (xml_of ed again ≡ xml_of ed k))
  there_and_back k c h s l t i r =
      let x : xml_of ed k ≡ write_document c = xml_is k c h s in
      let a = result_given (to_text (Some ed) t.input) (write_calendar ed c) t.output (document_text k c t.input s (i ∙ x) (within_too (xml_of ed k) t.input limit (sym i) l)) r in (
        a.0,
        a.1,
        λ again j m w o.
            let b = result_given (to_xml (Some ed) again.input (length again.work)) (write_document c) again.output
            (text_document k c again.input (length again.work) s (j ∙ a.1)
            (within_too (text_of ed t) again.input limit (sym j) m) (within_too (text_of ed t) again.input (length again.work) (sym j) w))
            (within_too (xml_of ed k) (write_document c) (length again.output) x o) in
            (b.0, b.1 ∙ sym x),
      )
