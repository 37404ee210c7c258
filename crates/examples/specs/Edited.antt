-- A small edit: the line of one property is another, and the XML and the jCal are the same before it and after it.
--     three_events, time_zone, fleet  texts with such a line: last in the second event of three; in a VTIMEZONE behind a subcomponent; alone in an unrecognised component
--     summary_line, summary_stated    two of them as `small_edit` of crate theorems takes them
use Rattle.std.specs.Prelude.{◌≡◌, refl, false, List, [], ◌∷◌, ◌++◌, map, ℕ, length, Some}
use Rattle.octets.specs.Ascii.{ascii}
use Rattle.calendar.specs.Calendar.{text}
use Rattle.edition.specs.declared.Edition.TheVariants.{Rfc5545, Rfc6868}
use Rattle.jcal.specs.Notation.{json}
use Rattle.calls.specs.Conversion.{Converted, result}
use Rattle.calls.specs.Computing.{conversions_compute}
use Rattle.calls.specs.ToXml.{to_xml}
use Rattle.calls_jcal.specs.ToJcal.{to_jcal}
use Rattle.calls_jcal.specs.Computing.{jcal_calls_compute}
use Rattle.theorems.specs.OneLine.{line_is, open_behind, innermost, OneLine, stated_first, stated_second}
use Rattle.examples.specs.Notation.{text_lines, canonical, given}

-- to jCal, with a work room as long as the text
abbrev jcal_given : List ℕ → Converted
jcal_given s = to_jcal (Some Rfc5545) s (length s)

-- what stands before the property, after it, and around all
abbrev around : (List ℕ → List ℕ) → List ℕ → List ℕ → List ℕ → Converted
around whole before after s = result (whole (before ++ s ++ after))

abbrev alone : List ℕ → List ℕ
alone s = s

-- ---- three events; f stands in lines before the line and behind it: nothing, or a fold

abbrev three_events : List ℕ → List ℕ → List ℕ
three_events f s =
    text_lines ("BEGIN:VCALENDAR" ∷ "PRODID:p" ∷ "VERSION:2.0" ∷ "BEGIN:VEVENT" ∷ "UID:1" ∷ "DTSTAMP:20240501T060000Z" ∷ "DTSTART:20240504T080000" ∷ [])
    ++ ascii "SUMMARY:Read " ++ f ++ ascii "glass\r\n"
    ++ text_lines ("END:VEVENT" ∷ "BEGIN:VEVENT" ∷ "UID:2" ∷ "DTSTAMP:20240501T060000Z" ∷ "DTSTART:20240504T120000" ∷ [])
    ++ s
    ++ ascii "E" ++ f ++ ascii "ND:VEVENT\r\n"
    ++ text_lines ("BEGIN:VEVENT" ∷ "UID:3" ∷ "DTSTAMP:20240501T060000Z" ∷ "DTSTART:20240504T160000" ∷ "SUMMARY:Phone office" ∷ "END:VEVENT" ∷ "END:VCALENDAR" ∷ [])

-- SUMMARY, the same mended and with other folds, another property in its place
abbrev summaries : List (List ℕ)
summaries =
    three_events [] (ascii "SUMMARY:Cuont boats\r\n") ∷
    three_events (ascii "\r\n ") (ascii "SUM\r\n\tMARY;LANGUAGE=en:Count <boats>\r\n") ∷
    three_events [] (ascii "PRIORITY:1\r\n") ∷ []

abbrev before : List ℕ
before =
    ascii "<vcalendar><properties><prodid><text>p</text></prodid><version><text>2.0</text></version></properties><components><vevent><properties><uid><text>1</text></uid>"
    ++ ascii "<dtstamp><date-time>2024-05-01T06:00:00Z</date-time></dtstamp><dtstart><date-time>2024-05-04T08:00:00</date-time></dtstart><summary><text>Read glass</text></summary>"
    ++ ascii "</properties></vevent><vevent><properties><uid><text>2</text></uid><dtstamp><date-time>2024-05-01T06:00:00Z</date-time></dtstamp><dtstart><date-time>2024-05-04T12:00:00</date-time></dtstart>"

abbrev after : List ℕ
after =
    ascii "</properties></vevent><vevent><properties><uid><text>3</text></uid><dtstamp><date-time>2024-05-01T06:00:00Z</date-time></dtstamp><dtstart><date-time>2024-05-04T16:00:00</date-time></dtstart>"
    ++ ascii "<summary><text>Phone office</text></summary></properties></vevent></components></vcalendar>"

summary_mended : map given summaries ≡ map (around canonical before after) (
    ascii "<summary><text>Cuont boats</text></summary>" ∷
    ascii "<summary><parameters><language><text>en</text></language></parameters><text>Count &lt;boats&gt;</text></summary>" ∷
    ascii "<priority><integer>1</integer></priority>" ∷ [])
unfolding conversions_compute
summary_mended = refl

summary_mended_jcal : map jcal_given summaries ≡ map (around alone
    (json "['vcalendar',[['prodid',{},'text','p'],['version',{},'text','2.0']],["
    ++ json "['vevent',[['uid',{},'text','1'],['dtstamp',{},'date-time','2024-05-01T06:00:00Z'],['dtstart',{},'date-time','2024-05-04T08:00:00'],['summary',{},'text','Read glass']],[]],"
    ++ json "['vevent',[['uid',{},'text','2'],['dtstamp',{},'date-time','2024-05-01T06:00:00Z'],['dtstart',{},'date-time','2024-05-04T12:00:00'],")
    (json "],[]],"
    ++ json "['vevent',[['uid',{},'text','3'],['dtstamp',{},'date-time','2024-05-01T06:00:00Z'],['dtstart',{},'date-time','2024-05-04T16:00:00'],['summary',{},'text','Phone office']],[]]]]"))
    (json "['summary',{},'text','Cuont boats']" ∷ json "['summary',{'language':'en'},'text','Count <boats>']" ∷ json "['priority',{},'integer',1]" ∷ [])
unfolding jcal_calls_compute
summary_mended_jcal = refl

-- ---- in a VTIMEZONE, behind a subcomponent: its properties are written in front of that

abbrev time_zone : List ℕ → List ℕ
time_zone s =
    text_lines (
    "BEGIN:VCALENDAR" ∷
    "PRODID:p" ∷
    "VERSION:2.0" ∷
    "BEGIN:VTIMEZONE" ∷
    "TZID:Lake" ∷
    "BEGIN:STANDARD" ∷
    "DTSTART:19701025T030000" ∷
    "TZOFFSETFROM:+0200" ∷
    "TZOFFSETTO:+0100" ∷
    "END:STANDARD" ∷ [])
    ++ s
    ++ text_lines ("X-A:1" ∷ "END:VTIMEZONE" ∷ "END:VCALENDAR" ∷ [])

abbrev zones : List (List ℕ)
zones = time_zone (ascii "TZURL:http://b.c/lkae\r\n") ∷ time_zone (ascii "TZURL:http://b.c/\r\n lake\r\n") ∷ time_zone (ascii "X-B:2\r\n") ∷ []

abbrev before_zone : List ℕ
before_zone = ascii "<vcalendar><properties><prodid><text>p</text></prodid><version><text>2.0</text></version></properties><components><vtimezone><properties><tzid><text>Lake</text></tzid>"

abbrev after_zone : List ℕ
after_zone =
    ascii "<x-a><unknown>1</unknown></x-a></properties><components><standard><properties><dtstart><date-time>1970-10-25T03:00:00</date-time></dtstart>"
    ++ ascii "<tzoffsetfrom><utc-offset>+02:00</utc-offset></tzoffsetfrom><tzoffsetto><utc-offset>+01:00</utc-offset></tzoffsetto></properties></standard></components></vtimezone></components></vcalendar>"

zone_mended : map given zones ≡ map (around canonical before_zone after_zone)
    (ascii "<tzurl><uri>http://b.c/lkae</uri></tzurl>" ∷ ascii "<tzurl><uri>http://b.c/lake</uri></tzurl>" ∷ ascii "<x-b><unknown>2</unknown></x-b>" ∷ [])
unfolding conversions_compute
zone_mended = refl

zone_mended_jcal : map jcal_given zones ≡ map (around alone
    (json "['vcalendar',[['prodid',{},'text','p'],['version',{},'text','2.0']],[['vtimezone',[['tzid',{},'text','Lake'],")
    (json ",['x-a',{},'unknown','1']],[['standard',[['dtstart',{},'date-time','1970-10-25T03:00:00'],['tzoffsetfrom',{},'utc-offset','+02:00'],['tzoffsetto',{},'utc-offset','+01:00']],[]]]]]]"))
    (json "['tzurl',{},'uri','http://b.c/lkae']" ∷ json "['tzurl',{},'uri','http://b.c/lake']" ∷ json "['x-b',{},'unknown','2']" ∷ [])
unfolding jcal_calls_compute
zone_mended_jcal = refl

-- ---- in an unrecognised component, its only property; in the edition of RFC 6868

abbrev fleet : List ℕ → List ℕ
fleet s =
    text_lines ("BEGIN:VCALENDAR" ∷ "PRODID:p" ∷ "VERSION:2.0" ∷ "BEGIN:X-FLEET" ∷ "BEGIN:X-DIVISION" ∷ "END:X-DIVISION" ∷ "BEGIN:X-DIVISION" ∷ [])
    ++ s
    ++ text_lines ("BEGIN:VALARM" ∷ "ACTION:AUDIO" ∷ "TRIGGER:PT0S" ∷ "END:VALARM" ∷ "END:X-DIVISION" ∷ "END:X-FLEET" ∷ "END:VCALENDAR" ∷ [])

abbrev fleets : List (List ℕ)
fleets = fleet (ascii "SUMMARY:Glod\r\n") ∷ fleet (ascii "sum\r\n mary;x-b=^'a^':Gold\r\n") ∷ fleet (ascii "X-CLASS:Optimist\r\n") ∷ []

fleet_mended : map (λ (s : List ℕ). to_xml (Some Rfc6868) s (length s)) fleets ≡ map (around canonical
    (ascii "<vcalendar><properties><prodid><text>p</text></prodid><version><text>2.0</text></version></properties><components>"
    ++ ascii "<x-fleet><properties></properties><components><x-division><properties></properties></x-division><x-division><properties>")
    (ascii "</properties><components><valarm><properties><action><text>AUDIO</text></action><trigger><duration>PT0S</duration></trigger></properties></valarm></components></x-division>"
    ++ ascii "</components></x-fleet></components></vcalendar>"))
    (ascii "<summary><text>Glod</text></summary>" ∷ ascii "<summary><parameters><x-b><unknown>\"a\"</unknown></x-b></parameters><text>Gold</text></summary>" ∷ ascii "<x-class><unknown>Optimist</unknown></x-class>" ∷ [])
unfolding conversions_compute
fleet_mended = refl

fleet_mended_jcal : map (λ (s : List ℕ). to_jcal (Some Rfc6868) s (length s)) fleets ≡ map (around alone
    (json "['vcalendar',[['prodid',{},'text','p'],['version',{},'text','2.0']],[['x-fleet',[],[['x-division',[],[]],['x-division',[")
    (json "],[['valarm',[['action',{},'text','AUDIO'],['trigger',{},'duration','PT0S']],[]]]]]]]]"))
    (json "['summary',{},'text','Glod']" ∷ json "['summary',{'x-b':'\\'a\\''},'text','Gold']" ∷ json "['x-class',{},'unknown','Optimist']" ∷ [])
unfolding jcal_calls_compute
fleet_mended_jcal = refl

-- ---- the premise of `small_edit`

-- the first two texts of three events
unfoldable summary_line : OneLine Rfc5545 (three_events [] (ascii "SUMMARY:Cuont boats\r\n")) (three_events (ascii "\r\n ") (ascii "SUM\r\n\tMARY;LANGUAGE=en:Count <boats>\r\n"))
unfolding conversions_compute
summary_line = record {
  front = map ascii (
      "BEGIN:VCALENDAR" ∷ "PRODID:p" ∷ "VERSION:2.0" ∷ "BEGIN:VEVENT" ∷ "UID:1" ∷ "DTSTAMP:20240501T060000Z" ∷ "DTSTART:20240504T080000" ∷ "SUMMARY:Read glass" ∷ "END:VEVENT" ∷
      "BEGIN:VEVENT" ∷ "UID:2" ∷ "DTSTAMP:20240501T060000Z" ∷ "DTSTART:20240504T120000" ∷ []);
  first = ascii "SUMMARY:Cuont boats";
  second = ascii "SUMMARY;LANGUAGE=en:Count <boats>";
  back = map ascii ("END:VEVENT" ∷ "BEGIN:VEVENT" ∷ "UID:3" ∷ "DTSTAMP:20240501T060000Z" ∷ "DTSTART:20240504T160000" ∷ "SUMMARY:Phone office" ∷ "END:VEVENT" ∷ "END:VCALENDAR" ∷ []);
  lines_first = refl;
  lines_second = refl;
  content_first = record { name = ascii "SUMMARY"; parameters = []; value = ascii "Cuont boats" };
  content_second = record { name = ascii "SUMMARY"; parameters = record { name = ascii "LANGUAGE"; values = record { quoted = false; chars = ascii "en" } ∷ [] } ∷ []; value = ascii "Count <boats>" };
  is_first = refl;
  is_second = refl;
}

-- the properties that it states in each
summary_stated : (stated_first Rfc5545 summary_line ≡ record { name = ascii "SUMMARY"; parameters = []; values = text (ascii "Cuont boats") ∷ [] })
    × (stated_second Rfc5545 summary_line ≡ record { name = ascii "SUMMARY"; parameters = record { name = ascii "LANGUAGE"; values = text (ascii "en") ∷ [] } ∷ []; values = text (ascii "Count <boats>") ∷ [] })
unfolding conversions_compute open_behind summary_line
summary_stated = (refl, refl)

-- the component in which a line stands behind these: the second event; VTIMEZONE, behind a subcomponent; an unrecognised one in another, behind one of the same name
stands_in : map (λ (ls : List (List ℕ)). innermost (open_behind (map (line_is Rfc5545) ls) [])) (
    map ascii ("BEGIN:VCALENDAR" ∷ "BEGIN:VEVENT" ∷ "UID:1" ∷ "END:VEVENT" ∷ "begin:vevent" ∷ "UID:2" ∷ []) ∷
    map ascii ("BEGIN:VCALENDAR" ∷ "BEGIN:VTIMEZONE" ∷ "TZID:Lake" ∷ "BEGIN:STANDARD" ∷ "TZOFFSETTO:+0100" ∷ "END:STANDARD" ∷ []) ∷
    map ascii ("BEGIN:VCALENDAR" ∷ "BEGIN:X-FLEET" ∷ "BEGIN:X-DIVISION" ∷ "END:X-DIVISION" ∷ "BEGIN:X-DIVISION" ∷ []) ∷ [])
    ≡ ascii "VEVENT" ∷ ascii "VTIMEZONE" ∷ ascii "X-DIVISION" ∷ []
unfolding conversions_compute open_behind
stands_in = refl
