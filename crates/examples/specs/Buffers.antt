-- Whole calls, with what is in the lent buffers afterwards. A dot is the byte 46, which fills them before.
--     xml_call, text_call  the number and value of a call's answer, what the output holds then, and what the work room holds
use Rattle.std.specs.Prelude.{◌≡◌, refl, List, [], ◌++◌, ℕ, replicate}
use Rattle.octets.specs.Ascii.{ascii}
use Rattle.calls.specs.Conversion.{numbers}
use Rattle.calls.specs.ToXml.{to_xml_outcome, to_xml_output, to_xml_work}
use Rattle.calls.specs.ToText.{to_text_outcome, to_text_output}
use Rattle.calls.specs.Computing.{conversions_compute}
use Rattle.examples.specs.Notation.{in_event, event_xml}
use Rattle.examples.specs.Rota.{rota, rota_xml}

abbrev pub dots : ℕ → List ℕ
dots n = replicate n 46

pub record Called : Type 0 where
  pub answer : ℕ × ℕ
  pub output : List ℕ
  pub work : List ℕ

abbrev pub called : ℕ → ℕ → List ℕ → List ℕ → Called
called n v out work = record { answer = (n, v); output = out; work = work }

-- to XML: the text, the work room, the output
abbrev pub xml_call : List ℕ → List ℕ → List ℕ → Called
xml_call s work out = record { answer = numbers (to_xml_outcome s work out 0); output = to_xml_output s work out 0; work = to_xml_work s work 0 }

-- to text: the document, the output; there is no work room
abbrev pub text_call : List ℕ → List ℕ → Called
text_call s out = record { answer = numbers (to_text_outcome s out 0); output = to_text_output s out 0; work = [] }

-- ---- the rota: 208 bytes of text, 578 of XML

-- with room to spare: the result stands at the start, the rest stays
rota_written : xml_call rota (dots 210) (dots 600) ≡ called 0 578 (rota_xml ++ dots 22) (rota ++ dots 2)
unfolding conversions_compute
rota_written = refl

-- with exact room
rota_exact : xml_call rota (dots 208) (dots 578) ≡ called 0 578 rota_xml rota
unfolding conversions_compute
rota_exact = refl

-- an output one byte short: 10 needs 578; the output is untouched, the work room begins with the text
rota_short : xml_call rota (dots 210) (dots 577) ≡ called 10 578 (dots 577) (rota ++ dots 2)
unfolding conversions_compute
rota_short = refl

-- a work room one byte short: 2 at 0, both are untouched
rota_work_short : xml_call rota (dots 207) (dots 600) ≡ called 2 0 (dots 600) (dots 207)
unfolding conversions_compute
rota_work_short = refl

rota_back : text_call rota_xml (dots 210) ≡ called 0 208 (rota ++ dots 2) []
unfolding conversions_compute
rota_back = refl

rota_back_short : text_call rota_xml (dots 207) ≡ called 10 208 (dots 207) []
unfolding conversions_compute
rota_back_short = refl

-- ---- folds: the work room begins with the unfolded text, after a success and after a refusal

folded_written : xml_call (in_event (ascii "SUM\r\n MARY:a\r\n\tb\r\n")) (dots 160) (dots 500)
    ≡ called 0 471 (event_xml (ascii "<summary><text>ab</text></summary>") ++ dots 29) (in_event (ascii "SUMMARY:ab\r\n") ++ dots 9)
unfolding conversions_compute
folded_written = refl

folded_refused : xml_call (in_event (ascii "SUM\r\n MARY:a\r\n\t,b\r\n")) (dots 160) (dots 500)
    ≡ called 8 123 (dots 500) (in_event (ascii "SUMMARY:a,b\r\n") ++ dots 8)
unfolding conversions_compute
folded_refused = refl

-- ---- over the input limit: 1 at 0, both are untouched, though the work room is short too

too_long : xml_call (replicate 65536 65) (dots 5) (dots 5) ≡ called 1 0 (dots 5) (dots 5)
unfolding conversions_compute
too_long = refl

too_long_back : text_call (replicate 65536 60) (dots 5) ≡ called 1 0 (dots 5) []
unfolding conversions_compute
too_long_back = refl
