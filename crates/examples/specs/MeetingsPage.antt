-- The XML of RFC 6321, appendix B.2.2, in the lines of the RFC, indented by two columns a level. The line of the time zone's identifier and the lines of the
-- description are handed in: see Appendix.
--     meetings_page   the document
use Rattle.std.specs.Prelude.{List, [], ◌∷◌, ◌++◌, ℕ}
use Prim.Native.String.{String}
use Rattle.examples.specs.Notation.{xml_lines}

abbrev pub meetings_page : String → List String → List ℕ
meetings_page tzid description = xml_lines (
    "<?xml version=\"1.0\" encoding=\"utf-8\" ?>" ∷
    "<icalendar xmlns=\"urn:ietf:params:xml:ns:icalendar-2.0\">" ∷
    "  <vcalendar>" ∷
    "    <properties>" ∷
    "      <prodid>" ∷
    "        <text>-//Example Inc.//Example Client//EN</text>" ∷
    "      </prodid>" ∷
    "      <version>" ∷
    "        <text>2.0</text>" ∷
    "      </version>" ∷
    "    </properties>" ∷
    "    <components>" ∷
    "      <vtimezone>" ∷
    "        <properties>" ∷
    "          <last-modified>" ∷
    "            <date-time>2004-01-10T03:28:45Z</date-time>" ∷
    "          </last-modified>" ∷
    tzid ∷
    "        </properties>" ∷
    "        <components>" ∷
    "          <daylight>" ∷
    "            <properties>" ∷
    "              <dtstart>" ∷
    "                <date-time>2000-04-04T02:00:00</date-time>" ∷
    "              </dtstart>" ∷
    "              <rrule>" ∷
    "                <recur>" ∷
    "                  <freq>YEARLY</freq>" ∷
    "                  <byday>1SU</byday>" ∷
    "                  <bymonth>4</bymonth>" ∷
    "                </recur>" ∷
    "              </rrule>" ∷
    "              <tzname>" ∷
    "                <text>EDT</text>" ∷
    "              </tzname>" ∷
    "              <tzoffsetfrom>" ∷
    "                <utc-offset>-05:00</utc-offset>" ∷
    "              </tzoffsetfrom>" ∷
    "              <tzoffsetto>" ∷
    "                <utc-offset>-04:00</utc-offset>" ∷
    "              </tzoffsetto>" ∷
    "            </properties>" ∷
    "          </daylight>" ∷
    "          <standard>" ∷
    "            <properties>" ∷
    "              <dtstart>" ∷
    "                <date-time>2000-10-26T02:00:00</date-time>" ∷
    "              </dtstart>" ∷
    "              <rrule>" ∷
    "                <recur>" ∷
    "                  <freq>YEARLY</freq>" ∷
    "                  <byday>-1SU</byday>" ∷
    "                  <bymonth>10</bymonth>" ∷
    "                </recur>" ∷
    "              </rrule>" ∷
    "              <tzname>" ∷
    "                <text>EST</text>" ∷
    "              </tzname>" ∷
    "              <tzoffsetfrom>" ∷
    "                <utc-offset>-04:00</utc-offset>" ∷
    "              </tzoffsetfrom>" ∷
    "              <tzoffsetto>" ∷
    "                <utc-offset>-05:00</utc-offset>" ∷
    "              </tzoffsetto>" ∷
    "            </properties>" ∷
    "          </standard>" ∷
    "        </components>" ∷
    "      </vtimezone>" ∷
    "      <vevent>" ∷
    "        <properties>" ∷
    "          <dtstamp>" ∷
    "            <date-time>2006-02-06T00:11:21Z</date-time>" ∷
    "          </dtstamp>" ∷
    "          <dtstart>" ∷
    "            <parameters>" ∷
    "              <tzid><text>US/Eastern</text></tzid>" ∷
    "            </parameters>" ∷
    "            <date-time>2006-01-02T12:00:00</date-time>" ∷
    "          </dtstart>" ∷
    "          <duration>" ∷
    "            <duration>PT1H</duration>" ∷
    "          </duration>" ∷
    "          <rrule>" ∷
    "            <recur>" ∷
    "              <freq>DAILY</freq>" ∷
    "              <count>5</count>" ∷
    "            </recur>" ∷
    "          </rrule>" ∷
    "          <rdate>" ∷
    "            <parameters>" ∷
    "              <tzid><text>US/Eastern</text></tzid>" ∷
    "            </parameters>" ∷
    "            <period>" ∷
    "              <start>2006-01-02T15:00:00</start>" ∷
    "              <duration>PT2H</duration>" ∷
    "            </period>" ∷
    "          </rdate>" ∷
    "          <summary>" ∷
    "            <text>Event #2</text>" ∷
    "          </summary>" ∷
    "          <description>" ∷
    description ++ (
    "          </description>" ∷
    "          <uid>" ∷
    "            <text>00959BC664CA650E933C892C@example.com</text>" ∷
    "          </uid>" ∷
    "        </properties>" ∷
    "      </vevent>" ∷
    "      <vevent>" ∷
    "        <properties>" ∷
    "          <dtstamp>" ∷
    "            <date-time>2006-02-06T00:11:21Z</date-time>" ∷
    "          </dtstamp>" ∷
    "          <dtstart>" ∷
    "            <parameters>" ∷
    "              <tzid><text>US/Eastern</text></tzid>" ∷
    "            </parameters>" ∷
    "            <date-time>2006-01-04T14:00:00</date-time>" ∷
    "          </dtstart>" ∷
    "          <duration>" ∷
    "            <duration>PT1H</duration>" ∷
    "          </duration>" ∷
    "          <recurrence-id>" ∷
    "            <parameters>" ∷
    "              <tzid><text>US/Eastern</text></tzid>" ∷
    "            </parameters>" ∷
    "            <date-time>2006-01-04T12:00:00</date-time>" ∷
    "          </recurrence-id>" ∷
    "          <summary>" ∷
    "            <text>Event #2 bis</text>" ∷
    "          </summary>" ∷
    "          <uid>" ∷
    "            <text>00959BC664CA650E933C892C@example.com</text>" ∷
    "          </uid>" ∷
    "        </properties>" ∷
    "      </vevent>" ∷
    "    </components>" ∷
    "  </vcalendar>" ∷
    "</icalendar>" ∷ []))
