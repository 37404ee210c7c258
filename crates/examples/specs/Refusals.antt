-- Each refusal, with its place. ROOM and WORK, which speak of the lent buffers, are among the calls in Buffers.
--     text_table       texts: a line of an event stands at place 112
--     document_table   documents: a property of an event stands at place 377
use Rattle.std.specs.Prelude.{◌≡◌, refl, List, [], ◌∷◌, ◌++◌, map, ℕ, replicate, Some}
use Rattle.octets.specs.Ascii.{ascii}
use Rattle.calendar.specs.Refusal.{number_of}
use Rattle.edition.specs.declared.Edition.TheVariants.{Rfc5545}
use Rattle.calls.specs.Conversion.{Converted, result, fault}
use Rattle.calls.specs.ToText.{to_text}
use Rattle.calls.specs.Computing.{conversions_compute}
use Rattle.examples.specs.Notation.{text_lines, event_xml}
use Rattle.examples.specs.Readings.{whole_text, line, Told, refused◌at◌, octets, Row, ◌gives◌, asked, answered, answer_of}

-- ---- texts

abbrev pub text_table : List Row
text_table =
    -- 1 LENGTH
    whole_text (replicate 65536 65) gives refused 1 at 0 ∷
    -- 3 CHARACTER: ill-formed UTF-8, a control; over the whole input, before the line that is faulty first
    line (ascii "SUMMARY:a" ++ (0xC3 ∷ 40 ∷ [])) gives refused 3 at 121 ∷
    line (ascii "SUMMARY\r\nDESCRIPTION:" ++ (7 ∷ [])) gives refused 3 at 133 ∷
    -- 4 LINE: no colon; empty; a bare LF; folds deleted once, so that a line begins with a space, at the byte that was kept; not ended by CRLF
    line (ascii "SUMMARY") gives refused 4 at 112 ∷
    line [] gives refused 4 at 112 ∷
    line (ascii "SUMMARY:a\nb") gives refused 4 at 112 ∷
    line (ascii "SUMMARY:a\r\n\r\n  b") gives refused 4 at 126 ∷
    whole_text (text_lines ("BEGIN:VCALENDAR" ∷ []) ++ ascii "END:V") gives refused 4 at 17 ∷
    -- 5 NAME: of a property, a parameter, a component
    line (ascii "xmlns:a") gives refused 5 at 112 ∷
    line (ascii "SUMMARY;1A=b:c") gives refused 5 at 112 ∷
    line (ascii "BEGIN:X A") gives refused 5 at 112 ∷
    line (ascii "BEGIN:XMLA") gives refused 5 at 112 ∷
    -- 6 FRAME: a known property outside its components' lists; a component where it may not stand; a ninth level; another END; something open at the end of the input
    line (ascii "DUE:20240504T090000") gives refused 6 at 112 ∷
    line (ascii "BEGIN:VEVENT") gives refused 6 at 112 ∷
    line (ascii "BEGIN:X-A") gives refused 6 at 112 ∷
    whole_text (text_lines ("BEGIN:VCALENDAR" ∷ replicate 9 "BEGIN:X-A")) gives refused 6 at 105 ∷
    line (ascii "END:VCALENDAR") gives refused 6 at 112 ∷
    whole_text (text_lines ("BEGIN:VCALENDAR" ∷ [])) gives refused 6 at 17 ∷
    -- 7 PARAMETER, at its name: not permitted; repeated, where it comes again; not quoted; a type that is none; on BEGIN the first
    line (ascii "SUMMARY;TZID=Lake:a") gives refused 7 at 120 ∷
    line (ascii "SUMMARY;X-A=1;x-a=2:a") gives refused 7 at 126 ∷
    line (ascii "SUMMARY;ALTREP=cid:a") gives refused 7 at 120 ∷
    line (ascii "X-A;VALUE=X-B:1") gives refused 7 at 116 ∷
    line (ascii "BEGIN;X-A=1;X-B=2:VALARM") gives refused 7 at 118 ∷
    -- of several the leftmost; the name begins behind a fold
    line (ascii "SUMMARY;X-A=1;TZID=Lake;RSVP=TRUE:a,b") gives refused 7 at 126 ∷
    line (ascii "SUMMARY;\r\n T\r\n ZID=Lake:a") gives refused 7 at 123 ∷
    -- BINARY: without ENCODING at the value; with one that is not BASE64 at its name
    line (ascii "ATTACH;VALUE=BINARY:TWFs") gives refused 7 at 132 ∷
    line (ascii "ATTACH;ENCODING=8BIT;VALUE=BINARY;ENCODING=BASE64:TWFs") gives refused 7 at 119 ∷
    -- RELATED is judged by the type that the value has: where VALUE names none, only VALUE is at fault
    line (ascii "BEGIN:VALARM\r\nTRIGGER;RELATED=START;VALUE=X-A:PT1H") gives refused 7 at 148 ∷
    line (ascii "BEGIN:VALARM\r\nTRIGGER;RELATED=START;VALUE=DATE:PT1H") gives refused 7 at 134 ∷
    -- 8 VALUE, behind the colon: a type that is not permitted; not of the type; behind a fold; empty, at the line's end
    line (ascii "SUMMARY;VALUE=URI:cid:a") gives refused 8 at 130 ∷
    line (ascii "GEO:37") gives refused 8 at 116 ∷
    line (ascii "SUMMARY:\r\n a,b") gives refused 8 at 123 ∷
    line (ascii "URL:\r\n \r\n ") gives refused 8 at 122 ∷
    -- 9 COUNT, at the END line: too often; a pair excluded
    line (ascii "SUMMARY:a\r\nSUMMARY:b") gives refused 9 at 134 ∷
    line (ascii "DTEND:20240504T090000\r\nDURATION:PT1H") gives refused 9 at 150 ∷
    []

texts_refused : map (λ (r : Row). answer_of (asked r)) text_table ≡ map answered text_table
unfolding conversions_compute
texts_refused = refl

-- ---- documents

infix 68 ◌is_told◌
pub data DocumentRow : Type 0 where
  ◌is_told◌ : List ℕ → Told → DocumentRow

abbrev pub told_text : Converted → Told
told_text (result t) = octets t
told_text (fault r p) = refused number_of r at p

abbrev pub of_document : DocumentRow → Told
of_document (x is_told a) = told_text (to_text (Some Rfc5545) x)

abbrev pub document_answer : DocumentRow → Told
document_answer (x is_told a) = a

-- so many elements, each in the one before
abbrev pub nested : ℕ → List ℕ
nested n = deep (replicate n 97)
  where
    deep : List ℕ → List ℕ
    deep [] = []
    deep (b ∷ s) = ascii "<a>" ++ deep s ++ ascii "</a>"

abbrev pub document_table : List DocumentRow
document_table =
    -- 1 LENGTH
    replicate 65536 60 is_told refused 1 at 0 ∷
    -- 3 CHARACTER
    event_xml (ascii "<summary><text>a" ++ (0xFF ∷ []) ++ ascii "</text></summary>") is_told refused 3 at 393 ∷
    -- 5 NAME: capitals; an element that would begin a component in the text; a parameter VALUE
    event_xml (ascii "<Summary><text>a</text></Summary>") is_told refused 5 at 377 ∷
    event_xml (ascii "<begin><unknown>VALARM</unknown></begin>") is_told refused 5 at 377 ∷
    event_xml (ascii "<x-a><parameters><value><unknown>URI</unknown></value></parameters><unknown>1</unknown></x-a>")
    is_told refused 5 at 394 ∷
    -- 6 FRAME: a missing child, at the end tag; a surplus one; `count` after `until`; text where children belong
    event_xml (ascii "<summary></summary>") is_told refused 6 at 386 ∷
    event_xml (ascii "<x-a><text>1</text><text>2</text></x-a>") is_told refused 6 at 396 ∷
    event_xml (ascii "<rrule><recur><freq>DAILY</freq><until>2024-12-31</until><count>2</count></recur></rrule>")
    is_told refused 6 at 434 ∷
    event_xml (ascii "<summary> a<text>b</text></summary>") is_told refused 6 at 387 ∷
    -- 7 PARAMETER: not permitted; a double quote in its value; BINARY without ENCODING, at the property
    event_xml (ascii "<summary><parameters><tzid><text>Lake</text></tzid></parameters><text>a</text></summary>")
    is_told refused 7 at 398 ∷
    event_xml (ascii "<summary><parameters><language><text>&quot;</text></language></parameters><text>a</text></summary>")
    is_told refused 7 at 398 ∷
    event_xml (ascii "<attach><binary>TWFs</binary></attach>") is_told refused 7 at 377 ∷
    -- 8 VALUE, at the innermost bad element
    event_xml (ascii "<priority><integer> 1</integer></priority>") is_told refused 8 at 387 ∷
    event_xml (ascii "<rdate><period><start>2024-05-05T08:00:00</start><duration>1H</duration></period></rdate>")
    is_told refused 8 at 426 ∷
    -- 9 COUNT, at the component's end tag
    event_xml (ascii "<summary><text>a</text></summary><summary><text>b</text></summary>") is_told refused 9 at 456 ∷
    -- 11 XML: an entity that is none; CR by reference; an attribute; the 33rd open element; still open at the end; no root
    event_xml (ascii "<summary><text>&nbsp;</text></summary>") is_told refused 11 at 392 ∷
    event_xml (ascii "<summary><text>a&#13;</text></summary>") is_told refused 11 at 393 ∷
    event_xml (ascii "<summary><text a=\"b\">a</text></summary>") is_told refused 11 at 386 ∷
    event_xml (nested 28) is_told refused 11 at 458 ∷
    ascii "<icalendar xmlns=\"urn:ietf:params:xml:ns:icalendar-2.0\"><vcalendar>" is_told refused 11 at 67 ∷
    [] is_told refused 11 at 0 ∷
    []

documents_refused : map of_document document_table ≡ map document_answer document_table
unfolding conversions_compute
documents_refused = refl
