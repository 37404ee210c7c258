-- The two examples of RFC 6321, appendix B, with its verified errata: the iCalendar data to canonical XML, and the XML, with its white space, to canonical text.
-- Three lines that the errata mend are refused by the rules; each is shown beside its mended form.
-- The rules accept the rest as it stands. What differs from the RFC's other column is only the form: properties keep their order, VALUE comes first, lines are
-- folded at 75 octets, and the line ends inside B.2.2's description are part of its text, as no value but BINARY is trimmed.
--     planning, planning_page    B.1.1 and B.1.2
--     meetings, meetings_page    B.2.1 and B.2.2; the page is in a file of its own
use Rattle.std.specs.Prelude.{◌≡◌, refl, List, [], ◌∷◌, ◌++◌, ℕ, Some}
use Prim.Native.String.{String}
use Rattle.octets.specs.Ascii.{ascii}
use Rattle.calendar.specs.Refusal.{FRAME, VALUE}
use Rattle.edition.specs.declared.Edition.TheVariants.{Rfc5545}
use Rattle.calls.specs.Conversion.{result, fault}
use Rattle.calls.specs.ToText.{to_text}
use Rattle.calls.specs.Computing.{conversions_compute}
use Rattle.examples.specs.Notation.{given, text_lines, xml_lines, canonical}
use Rattle.examples.specs.MeetingsPage.{meetings_page}

-- ---- B.1

-- B.1.1, where the line of DTSTART is handed in
abbrev pub planning : String → List ℕ
planning dtstart = text_lines (
    "BEGIN:VCALENDAR" ∷
    "CALSCALE:GREGORIAN" ∷
    "PRODID:-//Example Inc.//Example Calendar//EN" ∷
    "VERSION:2.0" ∷
    "BEGIN:VEVENT" ∷
    "DTSTAMP:20080205T191224Z" ∷
    dtstart ∷
    "SUMMARY:Planning meeting" ∷
    "UID:4088E990AD89CB3DBB484909" ∷
    "END:VEVENT" ∷
    "END:VCALENDAR" ∷ [])

-- B.1.2
abbrev pub planning_page : List ℕ
planning_page = xml_lines (
    "<?xml version=\"1.0\" encoding=\"utf-8\"?>" ∷
    "<icalendar xmlns=\"urn:ietf:params:xml:ns:icalendar-2.0\">" ∷
    "  <vcalendar>" ∷
    "    <properties>" ∷
    "      <calscale>" ∷
    "        <text>GREGORIAN</text>" ∷
    "      </calscale>" ∷
    "      <prodid>" ∷
    "        <text>-//Example Inc.//Example Calendar//EN</text>" ∷
    "      </prodid>" ∷
    "      <version>" ∷
    "        <text>2.0</text>" ∷
    "      </version>" ∷
    "    </properties>" ∷
    "    <components>" ∷
    "      <vevent>" ∷
    "        <properties>" ∷
    "          <dtstamp>" ∷
    "            <date-time>2008-02-05T19:12:24Z</date-time>" ∷
    "          </dtstamp>" ∷
    "          <dtstart>" ∷
    "            <date>2008-10-06</date>" ∷
    "          </dtstart>" ∷
    "          <summary>" ∷
    "            <text>Planning meeting</text>" ∷
    "          </summary>" ∷
    "          <uid>" ∷
    "            <text>4088E990AD89CB3DBB484909</text>" ∷
    "          </uid>" ∷
    "        </properties>" ∷
    "      </vevent>" ∷
    "    </components>" ∷
    "  </vcalendar>" ∷
    "</icalendar>" ∷ [])

abbrev pub planning_xml : List ℕ
planning_xml = canonical (
    ascii "<vcalendar><properties><calscale><text>GREGORIAN</text></calscale><prodid><text>-//Example Inc.//Example Calendar//EN</text></prodid>"
    ++ ascii "<version><text>2.0</text></version></properties><components><vevent><properties><dtstamp><date-time>2008-02-05T19:12:24Z</date-time></dtstamp>"
    ++ ascii "<dtstart><date>2008-10-06</date></dtstart><summary><text>Planning meeting</text></summary><uid><text>4088E990AD89CB3DBB484909</text></uid>"
    ++ ascii "</properties></vevent></components></vcalendar>")

planning_to_xml : given (planning "DTSTART;VALUE=DATE:20081006") ≡ result planning_xml
unfolding conversions_compute
planning_to_xml = refl

-- before erratum 3892: a DATE is no value of DTSTART's default type
planning_before : given (planning "DTSTART:20081006") ≡ fault VALUE 144
unfolding conversions_compute
planning_before = refl

planning_page_to_text : to_text (Some Rfc5545) planning_page ≡ result (planning "DTSTART;VALUE=DATE:20081006")
unfolding conversions_compute
planning_page_to_text = refl

-- ---- B.2

-- B.2.1, where its first lines, the line of RDATE and the lines of DESCRIPTION are handed in
abbrev pub meetings : List String → String → List String → List ℕ
meetings first rdate description = text_lines (first ++ (
    "BEGIN:VTIMEZONE" ∷
    "LAST-MODIFIED:20040110T032845Z" ∷
    "TZID:US/Eastern" ∷
    "BEGIN:DAYLIGHT" ∷
    "DTSTART:20000404T020000" ∷
    "RRULE:FREQ=YEARLY;BYDAY=1SU;BYMONTH=4" ∷
    "TZNAME:EDT" ∷
    "TZOFFSETFROM:-0500" ∷
    "TZOFFSETTO:-0400" ∷
    "END:DAYLIGHT" ∷
    "BEGIN:STANDARD" ∷
    "DTSTART:20001026T020000" ∷
    "RRULE:FREQ=YEARLY;BYDAY=-1SU;BYMONTH=10" ∷
    "TZNAME:EST" ∷
    "TZOFFSETFROM:-0400" ∷
    "TZOFFSETTO:-0500" ∷
    "END:STANDARD" ∷
    "END:VTIMEZONE" ∷
    "BEGIN:VEVENT" ∷
    "DTSTAMP:20060206T001121Z" ∷
    "DTSTART;TZID=US/Eastern:20060102T120000" ∷
    "DURATION:PT1H" ∷
    "RRULE:FREQ=DAILY;COUNT=5" ∷
    rdate ∷
    "SUMMARY:Event #2" ∷
    description ++ (
    "UID:00959BC664CA650E933C892C@example.com" ∷
    "END:VEVENT" ∷
    "BEGIN:VEVENT" ∷
    "DTSTAMP:20060206T001121Z" ∷
    "DTSTART;TZID=US/Eastern:20060104T140000" ∷
    "DURATION:PT1H" ∷
    "RECURRENCE-ID;TZID=US/Eastern:20060104T120000" ∷
    "SUMMARY:Event #2 bis" ∷
    "UID:00959BC664CA650E933C892C@example.com" ∷
    "END:VEVENT" ∷
    "END:VCALENDAR" ∷ [])))

-- folded as the RFC prints it
abbrev printed_description : List String
printed_description =
    "DESCRIPTION:We are having a meeting all this week at 12 pm fo" ∷
    " r one hour\\, with an additional meeting on the first day 2 h" ∷
    " ours long.\\nPlease bring your own lunch for the 12 pm meetin" ∷
    " gs." ∷ []

abbrev pub printed_meetings : List ℕ
printed_meetings = meetings ("BEGIN:VCALENDAR" ∷ "VERSION:2.0" ∷ "PRODID:-//Example Inc.//Example Client//EN" ∷ []) "RDATE;TZID=US/Eastern;VALUE=PERIOD:20060102T150000/PT2H" printed_description

abbrev pub meetings_xml : List ℕ
meetings_xml = canonical (
    ascii "<vcalendar><properties><version><text>2.0</text></version><prodid><text>-//Example Inc.//Example Client//EN</text></prodid></properties><components>"
    ++ ascii "<vtimezone><properties><last-modified><date-time>2004-01-10T03:28:45Z</date-time></last-modified><tzid><text>US/Eastern</text></tzid></properties>"
    ++ ascii "<components><daylight><properties><dtstart><date-time>2000-04-04T02:00:00</date-time></dtstart>"
    ++ ascii "<rrule><recur><freq>YEARLY</freq><byday>1SU</byday><bymonth>4</bymonth></recur></rrule><tzname><text>EDT</text></tzname>"
    ++ ascii "<tzoffsetfrom><utc-offset>-05:00</utc-offset></tzoffsetfrom><tzoffsetto><utc-offset>-04:00</utc-offset></tzoffsetto></properties></daylight>"
    ++ ascii "<standard><properties><dtstart><date-time>2000-10-26T02:00:00</date-time></dtstart>"
    ++ ascii "<rrule><recur><freq>YEARLY</freq><byday>-1SU</byday><bymonth>10</bymonth></recur></rrule><tzname><text>EST</text></tzname>"
    ++ ascii "<tzoffsetfrom><utc-offset>-04:00</utc-offset></tzoffsetfrom><tzoffsetto><utc-offset>-05:00</utc-offset></tzoffsetto></properties></standard>"
    ++ ascii "</components></vtimezone>"
    ++ ascii "<vevent><properties><dtstamp><date-time>2006-02-06T00:11:21Z</date-time></dtstamp>"
    ++ ascii "<dtstart><parameters><tzid><text>US/Eastern</text></tzid></parameters><date-time>2006-01-02T12:00:00</date-time></dtstart>"
    ++ ascii "<duration><duration>PT1H</duration></duration><rrule><recur><freq>DAILY</freq><count>5</count></recur></rrule>"
    ++ ascii "<rdate><parameters><tzid><text>US/Eastern</text></tzid></parameters><period><start>2006-01-02T15:00:00</start><duration>PT2H</duration></period></rdate>"
    ++ ascii "<summary><text>Event #2</text></summary>"
    ++ ascii "<description><text>We are having a meeting all this week at 12 pm for one hour, with an additional meeting on the first day 2 hours long.\n"
    ++ ascii "Please bring your own lunch for the 12 pm meetings.</text></description>"
    ++ ascii "<uid><text>00959BC664CA650E933C892C@example.com</text></uid></properties></vevent>"
    ++ ascii "<vevent><properties><dtstamp><date-time>2006-02-06T00:11:21Z</date-time></dtstamp>"
    ++ ascii "<dtstart><parameters><tzid><text>US/Eastern</text></tzid></parameters><date-time>2006-01-04T14:00:00</date-time></dtstart>"
    ++ ascii "<duration><duration>PT1H</duration></duration>"
    ++ ascii "<recurrence-id><parameters><tzid><text>US/Eastern</text></tzid></parameters><date-time>2006-01-04T12:00:00</date-time></recurrence-id>"
    ++ ascii "<summary><text>Event #2 bis</text></summary><uid><text>00959BC664CA650E933C892C@example.com</text></uid></properties></vevent>"
    ++ ascii "</components></vcalendar>")

meetings_to_xml : given printed_meetings ≡ result meetings_xml
unfolding conversions_compute
meetings_to_xml = refl

-- before erratum 2929: no calendar is open
meetings_before : given (meetings ("VERSION:2.0" ∷ "PRODID:-//Example Corp.//Example Client//EN" ∷ []) "RDATE;TZID=US/Eastern;VALUE=PERIOD:20060102T150000/PT2H" printed_description) ≡ fault FRAME 0
unfolding conversions_compute
meetings_before = refl

-- the canonical text of B.2.2 with these lines of DESCRIPTION: PRODID before VERSION, VALUE first
abbrev pub meetings_text : List String → List ℕ
meetings_text description = meetings ("BEGIN:VCALENDAR" ∷ "PRODID:-//Example Inc.//Example Client//EN" ∷ "VERSION:2.0" ∷ []) "RDATE;VALUE=PERIOD;TZID=US/Eastern:20060102T150000/PT2H" description

-- B.2.2 as it is printed: the description's text has four line ends, three of them from the page
meetings_page_to_text : to_text (Some Rfc5545) (meetings_page "          <tzid><text>US/Eastern</text></tzid>" (
    "            <text>We are having a meeting all this week at 12" ∷
    "pm for one hour, with an additional meeting on the first day" ∷
    "2 hours long.&#x0a;Please bring your own lunch for the 12 pm" ∷
    "meetings.</text>" ∷ []))
    ≡ result (meetings_text (
    "DESCRIPTION:We are having a meeting all this week at 12\\npm for one hour\\, " ∷
    " with an additional meeting on the first day\\n2 hours long.\\nPlease bring y" ∷
    " our own lunch for the 12 pm\\nmeetings." ∷ []))
unfolding conversions_compute
meetings_page_to_text = refl

-- the description in one line, as it is folded at 75 octets
abbrev folded_description : List String
folded_description =
    "DESCRIPTION:We are having a meeting all this week at 12 pm for one hour\\, w" ∷
    " ith an additional meeting on the first day 2 hours long.\\nPlease bring you" ∷
    " r own lunch for the 12 pm meetings." ∷ []

-- B.2.2 with the description in one line: it is then B.2.1's
meetings_joined_to_text : to_text (Some Rfc5545) (meetings_page "          <tzid><text>US/Eastern</text></tzid>" (
    "            <text>We are having a meeting all this week at 12 pm for one hour, with an additional meeting on the first day 2 hours long.&#x0a;Please bring your own lunch for the 12 pm meetings.</text>" ∷ []))
    ≡ result (meetings_text folded_description)
unfolding conversions_compute
meetings_joined_to_text = refl

-- and back from the canonical XML of B.2.1: VERSION before PRODID
meetings_xml_to_text : to_text (Some Rfc5545) meetings_xml ≡ result (meetings ("BEGIN:VCALENDAR" ∷ "VERSION:2.0" ∷ "PRODID:-//Example Inc.//Example Client//EN" ∷ []) "RDATE;VALUE=PERIOD;TZID=US/Eastern:20060102T150000/PT2H" folded_description)
unfolding conversions_compute
meetings_xml_to_text = refl

-- before erratum 3679: text where the property's value belongs, at its first byte
meetings_page_before : to_text (Some Rfc5545) (meetings_page "          <tzid>US/Eastern</tzid>" ("            <text>We are having a meeting.</text>" ∷ [])) ≡ fault FRAME 473
unfolding conversions_compute
meetings_page_before = refl
