-- Two rotas that are joined: the first ends with a fold, the second begins with one. To jCal: theorems_jcal/specs/Examples.antt.
--     folded_call   a call of the engine that is lent no work room
use Rattle.std.specs.Prelude.{◌≡◌, refl, List, [], ◌∷◌, ◌++◌, map, ℕ, ◌-◌, length}
use Rattle.octets.specs.Ascii.{ascii}
use Rattle.calendar.specs.Refusal.{LINE}
use Rattle.calls.specs.Conversion.{result, fault, numbers}
use Rattle.calls.specs.ToXmlFolded.{to_xml_folded_outcome, to_xml_folded_output}
use Rattle.calls.specs.Computing.{conversions_compute}
use Rattle.examples.specs.Notation.{canonical, given, in_event}
use Rattle.examples.specs.Buffers.{dots, Called, called}

-- rotas of one event, and what stands between the root's tags in their XML
abbrev pub glass : List ℕ
glass = in_event (ascii "SUMMARY:Read glass\r\n") ++ ascii "\r\n "

abbrev pub boats : List ℕ
boats = ascii "\r\n " ++ in_event (ascii "SUMMARY:Count boats\r\n")

abbrev rota_xml : List ℕ → List ℕ
rota_xml s =
    ascii "<vcalendar><properties><prodid><text>p</text></prodid><version><text>2.0</text></version></properties><components><vevent><properties>"
    ++ ascii "<uid><text>u</text></uid><dtstamp><date-time>2024-05-01T06:00:00Z</date-time></dtstamp><dtstart><date-time>2024-05-04T08:00:00</date-time></dtstart>"
    ++ ascii "<summary><text>" ++ s ++ ascii "</text></summary></properties></vevent></components></vcalendar>"

abbrev glass_xml : List ℕ
glass_xml = rota_xml (ascii "Read glass")

abbrev boats_xml : List ℕ
boats_xml = rota_xml (ascii "Count boats")

-- each alone, both in either order, three
rotas_joined : map given (glass ∷ boats ∷ (glass ++ boats) ∷ (boats ++ glass) ∷ (boats ++ boats ++ glass) ∷ [])
    ≡ map (λ (s : List ℕ). result (canonical s)) (glass_xml ∷ boats_xml ∷ (glass_xml ++ boats_xml) ∷ (boats_xml ++ glass_xml) ∷ (boats_xml ++ boats_xml ++ glass_xml) ∷ [])
unfolding conversions_compute
rotas_joined = refl

-- a text that begins with a blank is not accepted by itself: behind another it would go on with a fold
blank_refused : given (ascii " " ++ boats) ≡ fault LINE 0
unfolding conversions_compute
blank_refused = refl

-- ---- without a work room

abbrev folded_call : List ℕ → List ℕ → Called
folded_call s out = record { answer = numbers (to_xml_folded_outcome s out 0); output = to_xml_folded_output s out 0; work = [] }

-- with exact room for this XML
abbrev fits : List ℕ → List ℕ → Called
fits s x = folded_call s (dots (length x))

-- each alone, both in either order
rotas_folded : fits glass (canonical glass_xml) ∷ fits boats (canonical boats_xml) ∷ fits (glass ++ boats) (canonical (glass_xml ++ boats_xml)) ∷ fits (boats ++ glass) (canonical (boats_xml ++ glass_xml)) ∷ []
    ≡ map (λ (s : List ℕ). called 0 (length (canonical s)) (canonical s) []) (glass_xml ∷ boats_xml ∷ (glass_xml ++ boats_xml) ∷ (boats_xml ++ glass_xml) ∷ [])
unfolding conversions_compute
rotas_folded = refl

-- an output one byte short
rotas_short : folded_call (glass ++ boats) (dots (length (canonical (glass_xml ++ boats_xml)) - 1))
    ≡ called 10 (length (canonical (glass_xml ++ boats_xml))) (dots (length (canonical (glass_xml ++ boats_xml)) - 1)) []
unfolding conversions_compute
rotas_short = refl
