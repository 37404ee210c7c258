-- Worked examples of both conversions.
--     line_table     content lines of an event: the property in canonical XML, and its canonical line
--     element_table  properties of an event in XML: their canonical lines
-- and whole texts: a time zone, alarms, busy time, two calendars.
use Rattle.std.specs.Prelude.{◌≡◌, refl, List, [], ◌∷◌, ◌++◌, map, ℕ, Some}
use Prim.Native.String.{String}
use Rattle.octets.specs.Ascii.{ascii}
use Rattle.folding.specs.Unfold.{crlf}
use Rattle.edition.specs.declared.Edition.TheVariants.{Rfc5545}
use Rattle.calls.specs.Conversion.{result}
use Rattle.calls.specs.ToText.{to_text}
use Rattle.calls.specs.Computing.{conversions_compute}
use Rattle.examples.specs.Notation.{text_lines, canonical, in_event, event_xml}
use Rattle.examples.specs.Readings.{Row, line, both_ways, ◌gives◌, is, as_property, summary_xml, asked, answered, answer_of, of_text}

-- ---- lines of an event

-- GRINNING FACE, of four octets, and the same with a fold between any two of its octets
abbrev pub face : List ℕ
face = 0xF0 ∷ 0x9F ∷ 0x98 ∷ 0x80 ∷ []

abbrev pub folded_face : List ℕ
folded_face = 0xF0 ∷ 13 ∷ 10 ∷ 9 ∷ 0x9F ∷ 13 ∷ 10 ∷ 32 ∷ 0x98 ∷ 13 ∷ 10 ∷ 9 ∷ 0x80 ∷ []

abbrev pub line_table : List Row
line_table =
    -- names and words of closed sets in any letter case
    line (ascii "Class:Public")
    gives is "<class><text>PUBLIC</text></class>" "CLASS:PUBLIC" ∷
    -- RECUR: parts in another order, in any letter case; numbers by value; lists keep their order
    line (ascii "RRULE:byday=-1su,+2MO,FR;WKST=SU;COUNT=0010;interval=02;Freq=monthly")
    gives is "<rrule><recur><freq>MONTHLY</freq><count>10</count><interval>2</interval><byday>-1SU</byday><byday>2MO</byday><byday>FR</byday><wkst>SU</wkst></recur></rrule>"
    "RRULE:FREQ=MONTHLY;COUNT=10;INTERVAL=2;BYDAY=-1SU,2MO,FR;WKST=SU" ∷
    line (ascii "RRULE:BYMONTH=12,6;UNTIL=20301231;FREQ=YEARLY;BYSETPOS=-1")
    gives is "<rrule><recur><freq>YEARLY</freq><until>2030-12-31</until><bymonth>12</bymonth><bymonth>6</bymonth><bysetpos>-1</bysetpos></recur></rrule>"
    "RRULE:FREQ=YEARLY;UNTIL=20301231;BYMONTH=12,6;BYSETPOS=-1" ∷
    -- folds inside a name and inside a letter of four octets
    line (ascii "SUM\r\n MARY:" ++ folded_face)
    gives as_property (summary_xml face) (ascii "SUMMARY:" ++ face) ∷
    -- quoted parameters: MEMBER always, others exactly where the value holds a colon, a semicolon or a comma
    line (ascii "ATTENDEE;MEMBER=\"mailto:a@b.c\",\"mailto:d@e.f\";CN=\"Jo: Lake\";ROLE=\"chair\":mailto:jo@b.c")
    gives is "<attendee><parameters><member><cal-address>mailto:a@b.c</cal-address><cal-address>mailto:d@e.f</cal-address></member><cn><text>Jo: Lake</text></cn><role><text>CHAIR</text></role></parameters><cal-address>mailto:jo@b.c</cal-address></attendee>"
    "ATTENDEE;MEMBER=\"mailto:a@b.c\",\"mailto:d@e.f\";CN=\"Jo: Lake\";ROLE=CHAIR:mail\r\n to:jo@b.c" ∷
    -- an unrecognised property without VALUE is raw; with VALUE it has one value of that type; an unrecognised parameter has one value for each that is listed
    line (ascii "X-GLASS;X-P=a,\"b;c\":1\\,2;3,4")
    gives is "<x-glass><parameters><x-p><unknown>a</unknown><unknown>b;c</unknown></x-p></parameters><unknown>1\\,2;3,4</unknown></x-glass>"
    "X-GLASS;X-P=a,\"b;c\":1\\,2;3,4" ∷
    line (ascii "X-GLASS;X-P=a;value=text:1\\,2\\;3")
    gives is "<x-glass><parameters><x-p><unknown>a</unknown></x-p></parameters><text>1,2;3</text></x-glass>" "X-GLASS;VALUE=TEXT;X-P=a:1\\,2\\;3" ∷
    line (ascii "X-GLASS;VALUE=BOOLEAN:True")
    gives is "<x-glass><boolean>true</boolean></x-glass>" "X-GLASS;VALUE=BOOLEAN:TRUE" ∷
    -- VALUE of a known property is written for another type than the default alone
    line (ascii "DTEND;VALUE=DATE-TIME;TZID=Lake:20240504t160000")
    gives is "<dtend><parameters><tzid><text>Lake</text></tzid></parameters><date-time>2024-05-04T16:00:00</date-time></dtend>" "DTEND;TZID=Lake:20240504T160000" ∷
    -- GEO
    line (ascii "GEO:+037.3860;-122.0")
    gives is "<geo><latitude>37.386</latitude><longitude>-122</longitude></geo>" "GEO:37.386;-122" ∷
    -- REQUEST-STATUS with empty data, and with none
    line (ascii "REQUEST-STATUS:2.0;Done\\; all;")
    gives is "<request-status><code>2.0</code><description>Done; all</description><data></data></request-status>" "REQUEST-STATUS:2.0;Done\\; all;" ∷
    line (ascii "REQUEST-STATUS;LANGUAGE=en:2.0;Done")
    gives is "<request-status><parameters><language><text>en</text></language></parameters><code>2.0</code><description>Done</description></request-status>"
    "REQUEST-STATUS;LANGUAGE=en:2.0;Done" ∷
    -- lists: one element a value
    line (ascii "CATEGORIES:a\\,b,c,")
    gives is "<categories><text>a,b</text><text>c</text><text></text></categories>" "CATEGORIES:a\\,b,c," ∷
    line (ascii "RDATE;VALUE=PERIOD:20240505T080000Z/pt1h,20240506T080000Z/20240506T090000Z")
    gives is "<rdate><period><start>2024-05-05T08:00:00Z</start><duration>PT1H</duration></period><period><start>2024-05-06T08:00:00Z</start><end>2024-05-06T09:00:00Z</end></period></rdate>"
    "RDATE;VALUE=PERIOD:20240505T080000Z/PT1H,20240506T080000Z/20240506T090000Z" ∷
    -- BINARY
    line (ascii "ATTACH;ENCODING=base64;VALUE=BINARY:TWFsbGV0dA==")
    gives is "<attach><parameters><encoding><text>BASE64</text></encoding></parameters><binary>TWFsbGV0dA==</binary></attach>" "ATTACH;VALUE=BINARY;ENCODING=BASE64:TWFsbGV0dA==" ∷
    []

lines_converted : map (λ (r : Row). answer_of (asked r)) line_table ≡ map answered line_table
unfolding conversions_compute
lines_converted = refl

-- ---- properties of an event in XML

infix 68 ◌reads◌
pub data ElementRow : Type 0 where
  ◌reads◌ : String → List ℕ → ElementRow

abbrev pub element_in : ElementRow → List ℕ
element_in (x reads l) = ascii x

abbrev pub line_in : ElementRow → List ℕ
line_in (x reads l) = l

abbrev pub element_table : List ElementRow
element_table =
    -- white space of a BINARY is dropped, literal and by reference
    "<attach><parameters><encoding><text>BASE64</text></encoding></parameters><binary>\n  TWFs&#32;\tbGV0\r\n  dA==&#xA;</binary></attach>"
    reads ascii "ATTACH;VALUE=BINARY;ENCODING=BASE64:TWFsbGV0dA==" ∷
    -- no other value is trimmed
    "<summary><text> a\t</text></summary>"
    reads ascii "SUMMARY: a\t" ∷
    -- entities, character references, CR LF and CR: EM DASH has three octets
    "<summary><text>A &amp; B &lt;&gt;&quot;&apos;&#x2014;&#233;\r\nC\rD&#10;]]</text></summary>"
    reads (ascii "SUMMARY:A & B <>\"'" ++ (0xE2 ∷ 0x80 ∷ 0x94 ∷ 0xC3 ∷ 0xA9 ∷ []) ++ ascii "\\nC\\nD\\n]]") ∷
    -- empty tags, white space between elements and inside tags
    "\r\n<summary >\t<parameters/> <text/> </summary\n>\r\n"
    reads ascii "SUMMARY:" ∷
    -- BOOLEAN, INTEGER
    "<attendee><parameters><rsvp><boolean>1</boolean></rsvp></parameters><cal-address>mailto:jo@b.c</cal-address></attendee>"
    reads ascii "ATTENDEE;RSVP=TRUE:mailto:jo@b.c" ∷
    "<sequence><integer>+03</integer></sequence>"
    reads ascii "SEQUENCE:3" ∷
    -- the type of an unrecognised property is that of its element; `unknown` needs no VALUE
    "<x-depth><float>2.50</float></x-depth>"
    reads ascii "X-DEPTH;VALUE=FLOAT:2.5" ∷
    "<x-depth><unknown>a,b</unknown></x-depth>"
    reads ascii "X-DEPTH:a,b" ∷
    []

elements_converted : map (λ (r : ElementRow). to_text (Some Rfc5545) (event_xml (element_in r))) element_table ≡ map (λ (r : ElementRow). result (in_event (line_in r ++ crlf))) element_table
unfolding conversions_compute
elements_converted = refl

-- ---- whole texts

-- a calendar of these components
abbrev pub calendar_text : List String → List ℕ
calendar_text ls = text_lines ("BEGIN:VCALENDAR" ∷ "PRODID:p" ∷ "VERSION:2.0" ∷ ls ++ ("END:VCALENDAR" ∷ []))

abbrev pub calendar_xml : List ℕ → List ℕ
calendar_xml s =
    ascii "<vcalendar><properties><prodid><text>p</text></prodid><version><text>2.0</text></version></properties><components>" ++ s ++ ascii "</components></vcalendar>"

-- a time zone whose properties and subcomponents mix: in XML, and then in text, the properties come first, each group in its order
abbrev standard_time : List String
standard_time = "BEGIN:STANDARD" ∷ "DTSTART:19701025T030000" ∷ "TZOFFSETFROM:+0200" ∷ "TZOFFSETTO:+0100" ∷ "TZNAME:CET" ∷ "END:STANDARD" ∷ []

abbrev daylight_time : List String
daylight_time = "BEGIN:DAYLIGHT" ∷ "DTSTART:19700329T020000" ∷ "TZOFFSETFROM:+0100" ∷ "TZOFFSETTO:+0200" ∷ "END:DAYLIGHT" ∷ []

time_zone_lem : of_text (calendar_text ("BEGIN:VTIMEZONE" ∷ standard_time ++ ("TZID:Lake" ∷ daylight_time) ++ ("X-A:1" ∷ "TZURL:http://b.c/lake" ∷ "END:VTIMEZONE" ∷ [])))
    ≡ both_ways
    (canonical (calendar_xml (
    ascii "<vtimezone><properties><tzid><text>Lake</text></tzid><x-a><unknown>1</unknown></x-a><tzurl><uri>http://b.c/lake</uri></tzurl></properties><components>"
    ++ ascii "<standard><properties><dtstart><date-time>1970-10-25T03:00:00</date-time></dtstart><tzoffsetfrom><utc-offset>+02:00</utc-offset></tzoffsetfrom>"
    ++ ascii "<tzoffsetto><utc-offset>+01:00</utc-offset></tzoffsetto><tzname><text>CET</text></tzname></properties></standard>"
    ++ ascii "<daylight><properties><dtstart><date-time>1970-03-29T02:00:00</date-time></dtstart><tzoffsetfrom><utc-offset>+01:00</utc-offset></tzoffsetfrom>"
    ++ ascii "<tzoffsetto><utc-offset>+02:00</utc-offset></tzoffsetto></properties></daylight></components></vtimezone>")))
    (calendar_text ("BEGIN:VTIMEZONE" ∷ "TZID:Lake" ∷ "X-A:1" ∷ "TZURL:http://b.c/lake" ∷ standard_time ++ daylight_time ++ ("END:VTIMEZONE" ∷ [])))
unfolding conversions_compute
time_zone_lem = refl

-- an alarm of each ACTION, in a to-do
abbrev alarms : List ℕ
alarms = calendar_text (
    "BEGIN:VTODO" ∷
    "UID:u" ∷
    "DTSTAMP:20240501T060000Z" ∷
    "BEGIN:VALARM" ∷
    "ACTION:AUDIO" ∷
    "TRIGGER;RELATED=END:-PT15M" ∷
    "DURATION:PT5M" ∷
    "REPEAT:3" ∷
    "ATTACH;FMTTYPE=audio/basic:http://b.c/bell" ∷
    "END:VALARM" ∷
    "BEGIN:VALARM" ∷
    "ACTION:DISPLAY" ∷
    "DESCRIPTION:Read glass" ∷
    "TRIGGER;VALUE=DATE-TIME:20240504T060000Z" ∷
    "END:VALARM" ∷
    "BEGIN:VALARM" ∷
    "ACTION:EMAIL" ∷
    "DESCRIPTION:Read glass\\nand phone" ∷
    "TRIGGER:-P1D" ∷
    "SUMMARY:Rota" ∷
    "ATTENDEE:mailto:a@b.c" ∷
    "ATTENDEE:mailto:d@e.f" ∷
    "END:VALARM" ∷
    "END:VTODO" ∷ [])

alarms_converted : of_text alarms ≡ both_ways
    (canonical (calendar_xml (
    ascii "<vtodo><properties><uid><text>u</text></uid><dtstamp><date-time>2024-05-01T06:00:00Z</date-time></dtstamp></properties><components>"
    ++ ascii "<valarm><properties><action><text>AUDIO</text></action><trigger><parameters><related><text>END</text></related></parameters><duration>-PT15M</duration></trigger>"
    ++ ascii "<duration><duration>PT5M</duration></duration><repeat><integer>3</integer></repeat>"
    ++ ascii "<attach><parameters><fmttype><text>audio/basic</text></fmttype></parameters><uri>http://b.c/bell</uri></attach></properties></valarm>"
    ++ ascii "<valarm><properties><action><text>DISPLAY</text></action><description><text>Read glass</text></description>"
    ++ ascii "<trigger><date-time>2024-05-04T06:00:00Z</date-time></trigger></properties></valarm>"
    ++ ascii "<valarm><properties><action><text>EMAIL</text></action><description><text>Read glass\nand phone</text></description>"
    ++ ascii "<trigger><duration>-P1D</duration></trigger><summary><text>Rota</text></summary><attendee><cal-address>mailto:a@b.c</cal-address></attendee>"
    ++ ascii "<attendee><cal-address>mailto:d@e.f</cal-address></attendee></properties></valarm></components></vtodo>")))
    alarms
unfolding conversions_compute
alarms_converted = refl

-- busy time, a list of periods; and a journal entry: the calendar's components in their order
busy_and_journal : of_text (calendar_text (
    "begin:vfreebusy" ∷
    "UID:u" ∷
    "DTSTAMP:20240501T060000Z" ∷
    "FREEBUSY;FBTYPE=busy:20240504T080000Z/PT3H,20240504T120000Z/20240504T130000Z" ∷
    "End:VFreeBusy" ∷
    "BEGIN:VJOURNAL" ∷
    "UID:v" ∷
    "DTSTAMP:20240501T060000Z" ∷
    "STATUS:final" ∷
    "END:VJOURNAL" ∷ []))
    ≡ both_ways
    (canonical (calendar_xml (
    ascii "<vfreebusy><properties><uid><text>u</text></uid><dtstamp><date-time>2024-05-01T06:00:00Z</date-time></dtstamp>"
    ++ ascii "<freebusy><parameters><fbtype><text>BUSY</text></fbtype></parameters><period><start>2024-05-04T08:00:00Z</start><duration>PT3H</duration></period>"
    ++ ascii "<period><start>2024-05-04T12:00:00Z</start><end>2024-05-04T13:00:00Z</end></period></freebusy></properties></vfreebusy>"
    ++ ascii "<vjournal><properties><uid><text>v</text></uid><dtstamp><date-time>2024-05-01T06:00:00Z</date-time></dtstamp><status><text>FINAL</text></status></properties></vjournal>")))
    (calendar_text (
    "BEGIN:VFREEBUSY" ∷
    "UID:u" ∷
    "DTSTAMP:20240501T060000Z" ∷
    "FREEBUSY;FBTYPE=BUSY:20240504T080000Z/PT3H,20240504T120000Z/20240504T130000" ∷
    " Z" ∷
    "END:VFREEBUSY" ∷
    "BEGIN:VJOURNAL" ∷
    "UID:v" ∷
    "DTSTAMP:20240501T060000Z" ∷
    "STATUS:FINAL" ∷
    "END:VJOURNAL" ∷ []))
unfolding conversions_compute
busy_and_journal = refl

-- two calendars in one stream stay two: the first has no component
two_calendars : of_text (calendar_text [] ++ calendar_text ("BEGIN:VJOURNAL" ∷ "UID:v" ∷ "DTSTAMP:20240501T060000Z" ∷ "END:VJOURNAL" ∷ []))
    ≡ both_ways
    (canonical (
    calendar_xml []
    ++ calendar_xml (ascii "<vjournal><properties><uid><text>v</text></uid><dtstamp><date-time>2024-05-01T06:00:00Z</date-time></dtstamp></properties></vjournal>")))
    (calendar_text [] ++ calendar_text ("BEGIN:VJOURNAL" ∷ "UID:v" ∷ "DTSTAMP:20240501T060000Z" ∷ "END:VJOURNAL" ∷ []))
unfolding conversions_compute
two_calendars = refl
