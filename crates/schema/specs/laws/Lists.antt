-- The lists of properties in the schema's own order, section by section, from which the one table was made: types and parameters by property, and how often a property stands component by component.
-- Only specs/laws/Table.antt uses them, to show that the table answers what they answer.
--     listed_rows       properties: types, parameters, whether listed;   row_listed: of a name
--     calprops .. emailprop     how often each property stands
--     component_lists   the properties that may stand in a component;   stands_listed: a property in a component
--     occurrence_lists  the lists in the order of the table's columns;   list_listed: of a number
use Rattle.std.specs.Prelude.{Bool, true, false, List, [], ◌∷◌, map, ℕ, get_or, None, Some}
use Rattle.octets.specs.Ascii.{ascii}
use Rattle.octets.specs.Append.{◌⊕◌}
use Rattle.octets.specs.Words.{is_one_of, row_of}
use Rattle.octets.specs.Reading.{read_or}
use Rattle.calendar.specs.Calendar.{ValueType, BINARY, CAL-ADDRESS, DATE, DATE-TIME, DURATION, FLOAT, INTEGER, PERIOD, RECUR, TEXT, URI, UTC-OFFSET, UNKNOWN}
use Rattle.schema.specs.Types.{value_types}
use Rattle.schema.specs.Components.{Occurrence}

-- ---- types and parameters

pub record ListedRow : Type 0 where
  pub name : List ℕ
  pub default : ValueType
  pub others : List ValueType
  pub parameters : List (List ℕ)
  pub listed : Bool

abbrev takes_one : List ℕ → ValueType → List ValueType → List (List ℕ) → ListedRow
takes_one n t ts ps = record { name = n; default = t; others = ts; parameters = ps; listed = false }

abbrev takes_many : List ℕ → ValueType → List ValueType → List (List ℕ) → ListedRow
takes_many n t ts ps = record { name = n; default = t; others = ts; parameters = ps; listed = true }

-- element parameters { altrepparam? & languageparam? }
abbrev altrep_language : List (List ℕ)
altrep_language = ascii "ALTREP" ∷ ascii "LANGUAGE" ∷ []

abbrev language : List (List ℕ)
language = ascii "LANGUAGE" ∷ []

abbrev tzid : List (List ℕ)
tzid = ascii "TZID" ∷ []

-- lines 979 to 989
abbrev attendee_parameters : List (List ℕ)
attendee_parameters =
    ascii "CUTYPE" ∷ ascii "MEMBER" ∷ ascii "ROLE" ∷ ascii "PARTSTAT" ∷ ascii "RSVP" ∷ ascii "DELEGATED-TO" ∷ ascii "DELEGATED-FROM" ∷
    ascii "SENT-BY" ∷ ascii "CN" ∷ ascii "DIR" ∷ ascii "LANGUAGE" ∷ []

-- lines 1012 to 1015
abbrev organizer_parameters : List (List ℕ)
organizer_parameters = ascii "CN" ∷ ascii "DIR" ∷ ascii "SENT-BY" ∷ ascii "LANGUAGE" ∷ []

-- Where the schema has its own children, the type is the one that RFC 5545 gives: GEO's FLOAT, REQUEST-STATUS's TEXT.
abbrev pub listed_rows : List ListedRow
listed_rows =
    -- 3.7 Calendar Properties
    takes_one (ascii "CALSCALE") TEXT [] [] ∷  -- 3.7.1, line 644
    takes_one (ascii "METHOD") TEXT [] [] ∷  -- 3.7.2, line 653
    takes_one (ascii "PRODID") TEXT [] [] ∷  -- 3.7.3, line 662
    takes_one (ascii "VERSION") TEXT [] [] ∷  -- 3.7.4, line 671
    -- 3.8.1 Descriptive Component Properties
    takes_one (ascii "ATTACH") URI (BINARY ∷ []) (ascii "FMTTYPE" ∷ ascii "ENCODING" ∷ []) ∷  -- 3.8.1.1, line 684
    takes_many (ascii "CATEGORIES") TEXT [] language ∷  -- 3.8.1.2, line 696
    takes_one (ascii "CLASS") TEXT [] [] ∷  -- 3.8.1.3, line 707
    takes_one (ascii "COMMENT") TEXT [] altrep_language ∷  -- 3.8.1.4, line 720
    takes_one (ascii "DESCRIPTION") TEXT [] altrep_language ∷  -- 3.8.1.5, line 732
    takes_one (ascii "GEO") FLOAT [] [] ∷  -- 3.8.1.6, line 744: latitude and longitude
    takes_one (ascii "LOCATION") TEXT [] altrep_language ∷  -- 3.8.1.7, line 754
    takes_one (ascii "PERCENT-COMPLETE") INTEGER [] [] ∷  -- 3.8.1.8, line 767
    takes_one (ascii "PRIORITY") INTEGER [] [] ∷  -- 3.8.1.9, line 776
    takes_many (ascii "RESOURCES") TEXT [] altrep_language ∷  -- 3.8.1.10, line 785
    takes_one (ascii "STATUS") TEXT [] [] ∷  -- 3.8.1.11, lines 797, 808, 820
    takes_one (ascii "SUMMARY") TEXT [] altrep_language ∷  -- 3.8.1.12, line 833
    -- 3.8.2 Date and Time Component Properties
    takes_one (ascii "COMPLETED") DATE-TIME [] [] ∷  -- 3.8.2.1, line 847
    takes_one (ascii "DTEND") DATE-TIME (DATE ∷ []) tzid ∷  -- 3.8.2.2, line 856
    takes_one (ascii "DUE") DATE-TIME (DATE ∷ []) tzid ∷  -- 3.8.2.3, line 868: stands in no component
    takes_one (ascii "DTSTART") DATE-TIME (DATE ∷ []) tzid ∷  -- 3.8.2.4, line 880
    takes_one (ascii "DURATION") DURATION [] [] ∷  -- 3.8.2.5, line 892
    takes_many (ascii "FREEBUSY") PERIOD [] (ascii "FBTYPE" ∷ []) ∷  -- 3.8.2.6, line 901
    takes_one (ascii "TRANSP") TEXT [] [] ∷  -- 3.8.2.7, line 913
    -- 3.8.3 Time Zone Component Properties
    takes_one (ascii "TZID") TEXT [] [] ∷  -- 3.8.3.1, line 927
    takes_one (ascii "TZNAME") TEXT [] language ∷  -- 3.8.3.2, line 936
    takes_one (ascii "TZOFFSETFROM") UTC-OFFSET [] [] ∷  -- 3.8.3.3, line 947
    takes_one (ascii "TZOFFSETTO") UTC-OFFSET [] [] ∷  -- 3.8.3.4, line 956
    takes_one (ascii "TZURL") URI [] [] ∷  -- 3.8.3.5, line 965
    -- 3.8.4 Relationship Component Properties
    takes_one (ascii "ATTENDEE") CAL-ADDRESS [] attendee_parameters ∷  -- 3.8.4.1, line 976
    takes_one (ascii "CONTACT") TEXT [] altrep_language ∷  -- 3.8.4.2, line 997
    takes_one (ascii "ORGANIZER") CAL-ADDRESS [] organizer_parameters ∷  -- 3.8.4.3, line 1009
    takes_one (ascii "RECURRENCE-ID") DATE-TIME (DATE ∷ []) (ascii "TZID" ∷ ascii "RANGE" ∷ []) ∷  -- 3.8.4.4, line 1023
    takes_one (ascii "RELATED-TO") TEXT [] (ascii "RELTYPE" ∷ []) ∷  -- 3.8.4.5, line 1036
    takes_one (ascii "URL") URI [] [] ∷  -- 3.8.4.6, line 1047
    takes_one (ascii "UID") TEXT [] [] ∷  -- 3.8.4.7, line 1056
    -- 3.8.5 Recurrence Component Properties
    takes_many (ascii "EXDATE") DATE-TIME (DATE ∷ []) tzid ∷  -- 3.8.5.1, line 1067
    takes_many (ascii "RDATE") DATE-TIME (DATE ∷ PERIOD ∷ []) tzid ∷  -- 3.8.5.2, line 1079
    takes_one (ascii "RRULE") RECUR [] [] ∷  -- 3.8.5.3, line 1092
    -- 3.8.6 Alarm Component Properties
    takes_one (ascii "ACTION") TEXT [] [] ∷  -- 3.8.6.1, line 1103
    takes_one (ascii "REPEAT") INTEGER [] [] ∷  -- 3.8.6.2, line 1116
    takes_one (ascii "TRIGGER") DURATION (DATE-TIME ∷ []) (ascii "RELATED" ∷ []) ∷  -- 3.8.6.3, line 1125
    -- 3.8.7 Change Management Component Properties
    takes_one (ascii "CREATED") DATE-TIME [] [] ∷  -- 3.8.7.1, line 1145
    takes_one (ascii "DTSTAMP") DATE-TIME [] [] ∷  -- 3.8.7.2, line 1154
    takes_one (ascii "LAST-MODIFIED") DATE-TIME [] [] ∷  -- 3.8.7.3, line 1163
    takes_one (ascii "SEQUENCE") INTEGER [] [] ∷  -- 3.8.7.4, line 1172
    -- 3.8.8 Miscellaneous Component Properties
    takes_one (ascii "REQUEST-STATUS") TEXT [] language ∷  -- 3.8.8.3, line 1183: code, description, data
    []

abbrev pub unlisted : ListedRow
unlisted = takes_one [] UNKNOWN value_types []

abbrev pub names_listed : List (List ℕ)
names_listed = map (λ r. r.name) listed_rows

unfoldable pub row_listed : List ℕ → ListedRow
row_listed w = read_or unlisted (row_of (λ r. r.name) w listed_rows)

-- ---- how often

-- property-x
abbrev once : List ℕ → Occurrence
once p = record { property = p; least = 1; most = Some 1 }

-- property-x?
abbrev optional : List ℕ → Occurrence
optional p = record { property = p; least = 0; most = Some 1 }

-- property-x*
abbrev any_times : List ℕ → Occurrence
any_times p = record { property = p; least = 0; most = None }

-- property-x+
abbrev some⁺ : List ℕ → Occurrence
some⁺ p = record { property = p; least = 1; most = None }

-- type-calprops, line 399
abbrev calprops : List Occurrence
calprops =
    once (ascii "PRODID") ∷
    once (ascii "VERSION") ∷
    optional (ascii "CALSCALE") ∷
    optional (ascii "METHOD") ∷
    []

-- 3.6.1 type-eventprop, line 425
abbrev eventprop : List Occurrence
eventprop =
    once (ascii "DTSTAMP") ∷
    optional (ascii "DTSTART") ∷  -- RFC 5545, 3.6.1: may be missing where the calendar has METHOD; schema: property-dtstart
    once (ascii "UID") ∷
    optional (ascii "CLASS") ∷  -- line 430
    optional (ascii "CREATED") ∷
    optional (ascii "DESCRIPTION") ∷
    optional (ascii "GEO") ∷
    optional (ascii "LAST-MODIFIED") ∷  -- property-last-mod
    optional (ascii "LOCATION") ∷
    optional (ascii "ORGANIZER") ∷
    optional (ascii "PRIORITY") ∷
    optional (ascii "SEQUENCE") ∷  -- property-seq
    optional (ascii "STATUS") ∷  -- property-status-event
    optional (ascii "SUMMARY") ∷
    optional (ascii "TRANSP") ∷
    optional (ascii "URL") ∷
    optional (ascii "RECURRENCE-ID") ∷  -- property-recurid
    optional (ascii "RRULE") ∷  -- line 445
    optional (ascii "DTEND") ∷  -- line 447: (property-dtend | property-duration)?
    optional (ascii "DURATION") ∷
    any_times (ascii "ATTACH") ∷  -- line 449
    any_times (ascii "ATTENDEE") ∷
    any_times (ascii "CATEGORIES") ∷
    any_times (ascii "COMMENT") ∷
    any_times (ascii "CONTACT") ∷
    any_times (ascii "EXDATE") ∷
    any_times (ascii "REQUEST-STATUS") ∷  -- property-rstatus
    any_times (ascii "RELATED-TO") ∷  -- property-related
    any_times (ascii "RESOURCES") ∷
    any_times (ascii "RDATE") ∷
    []

-- 3.6.2 type-todoprop, line 470
abbrev todoprop : List Occurrence
todoprop =
    once (ascii "DTSTAMP") ∷
    once (ascii "UID") ∷
    optional (ascii "CLASS") ∷  -- line 474
    optional (ascii "COMPLETED") ∷
    optional (ascii "CREATED") ∷
    optional (ascii "DESCRIPTION") ∷
    optional (ascii "GEO") ∷
    optional (ascii "LAST-MODIFIED") ∷
    optional (ascii "LOCATION") ∷
    optional (ascii "ORGANIZER") ∷
    optional (ascii "PERCENT-COMPLETE") ∷  -- property-percent
    optional (ascii "PRIORITY") ∷
    optional (ascii "RECURRENCE-ID") ∷
    optional (ascii "SEQUENCE") ∷
    optional (ascii "STATUS") ∷  -- property-status-todo
    optional (ascii "SUMMARY") ∷
    optional (ascii "URL") ∷
    optional (ascii "RRULE") ∷  -- line 490
    optional (ascii "DTSTART") ∷  -- line 492: ((property-dtstart?, property-dtend?) | (property-dtstart, property-duration)?)
    optional (ascii "DUE") ∷  -- RFC 5545, 3.6.2: due / duration; schema: property-dtend
    optional (ascii "DURATION") ∷
    any_times (ascii "ATTACH") ∷  -- line 497
    any_times (ascii "ATTENDEE") ∷
    any_times (ascii "CATEGORIES") ∷
    any_times (ascii "COMMENT") ∷
    any_times (ascii "CONTACT") ∷
    any_times (ascii "EXDATE") ∷
    any_times (ascii "REQUEST-STATUS") ∷
    any_times (ascii "RELATED-TO") ∷
    any_times (ascii "RESOURCES") ∷
    any_times (ascii "RDATE") ∷
    []

-- 3.6.3 type-jourprop, line 515. DESCRIPTION at most once: the schema decides how often
abbrev jourprop : List Occurrence
jourprop =
    once (ascii "DTSTAMP") ∷
    once (ascii "UID") ∷
    optional (ascii "CLASS") ∷  -- line 519
    optional (ascii "CREATED") ∷
    optional (ascii "DTSTART") ∷
    optional (ascii "LAST-MODIFIED") ∷
    optional (ascii "ORGANIZER") ∷
    optional (ascii "RECURRENCE-ID") ∷
    optional (ascii "SEQUENCE") ∷
    optional (ascii "STATUS") ∷  -- property-status-jour
    optional (ascii "SUMMARY") ∷
    optional (ascii "URL") ∷
    optional (ascii "RRULE") ∷  -- line 530
    any_times (ascii "ATTACH") ∷  -- line 532
    any_times (ascii "ATTENDEE") ∷
    any_times (ascii "CATEGORIES") ∷
    any_times (ascii "COMMENT") ∷
    any_times (ascii "CONTACT") ∷
    optional (ascii "DESCRIPTION") ∷  -- line 537
    any_times (ascii "EXDATE") ∷
    any_times (ascii "RELATED-TO") ∷
    any_times (ascii "RDATE") ∷
    any_times (ascii "REQUEST-STATUS") ∷
    []

-- 3.6.4 type-fbprop, line 550. DTEND and DURATION may stand together
abbrev fbprop : List Occurrence
fbprop =
    once (ascii "DTSTAMP") ∷
    once (ascii "UID") ∷
    optional (ascii "CONTACT") ∷  -- line 554
    optional (ascii "DTSTART") ∷
    optional (ascii "DTEND") ∷
    optional (ascii "DURATION") ∷
    optional (ascii "ORGANIZER") ∷
    optional (ascii "URL") ∷
    any_times (ascii "ATTENDEE") ∷  -- line 561
    any_times (ascii "COMMENT") ∷
    any_times (ascii "FREEBUSY") ∷
    any_times (ascii "REQUEST-STATUS") ∷
    []

-- 3.6.5 component-vtimezone, line 570; the rules: TZURL is read for the misspelt name of RFC 6321's copy
abbrev timezoneprop : List Occurrence
timezoneprop =
    once (ascii "TZID") ∷
    optional (ascii "LAST-MODIFIED") ∷  -- line 573
    optional (ascii "TZURL") ∷
    []

-- type-tzprop, line 591, of STANDARD and of DAYLIGHT
abbrev tzprop : List Occurrence
tzprop =
    once (ascii "DTSTART") ∷
    once (ascii "TZOFFSETTO") ∷
    once (ascii "TZOFFSETFROM") ∷
    optional (ascii "RRULE") ∷  -- line 596
    any_times (ascii "COMMENT") ∷  -- line 598
    any_times (ascii "RDATE") ∷
    any_times (ascii "TZNAME") ∷
    []

-- 3.6.6 type-audioprop, line 609
abbrev audioprop : List Occurrence
audioprop =
    once (ascii "ACTION") ∷
    once (ascii "TRIGGER") ∷  -- line 612
    optional (ascii "DURATION") ∷  -- line 614: (property-duration, property-repeat)?
    optional (ascii "REPEAT") ∷
    optional (ascii "ATTACH") ∷  -- line 616
    []

-- type-emailprop, line 619
abbrev emailprop : List Occurrence
emailprop =
    once (ascii "ACTION") ∷
    once (ascii "DESCRIPTION") ∷
    once (ascii "TRIGGER") ∷
    once (ascii "SUMMARY") ∷
    some⁺ (ascii "ATTENDEE") ∷  -- line 625
    optional (ascii "DURATION") ∷  -- line 627: (property-duration, property-repeat)?
    optional (ascii "REPEAT") ∷
    any_times (ascii "ATTACH") ∷  -- line 629
    []

-- type-dispprop, line 632
abbrev dispprop : List Occurrence
dispprop =
    once (ascii "ACTION") ∷
    once (ascii "DESCRIPTION") ∷
    once (ascii "TRIGGER") ∷
    optional (ascii "DURATION") ∷  -- line 637: (property-duration, property-repeat)?
    optional (ascii "REPEAT") ∷
    []

-- ---- by component, and by the number of a list

pub record ListRow : Type 0 where
  pub name : List ℕ
  pub occurrences : List Occurrence

abbrev pub component_lists : List ListRow
component_lists =
    record { name = ascii "VCALENDAR"; occurrences = calprops } ∷
    record { name = ascii "VEVENT"; occurrences = eventprop } ∷
    record { name = ascii "VTODO"; occurrences = todoprop } ∷
    record { name = ascii "VJOURNAL"; occurrences = jourprop } ∷
    record { name = ascii "VFREEBUSY"; occurrences = fbprop } ∷
    record { name = ascii "VTIMEZONE"; occurrences = timezoneprop } ∷
    record { name = ascii "STANDARD"; occurrences = tzprop } ∷
    record { name = ascii "DAYLIGHT"; occurrences = tzprop } ∷
    record { name = ascii "VALARM"; occurrences = audioprop ⊕ dispprop ⊕ emailprop } ∷
    []

-- an unrecognised component: every listed property, any number of times
abbrev pub free_list : ListRow
free_list = record { name = []; occurrences = map (λ w. record { property = w; least = 0; most = None }) names_listed }

unfoldable pub stands_listed : List ℕ → List ℕ → Bool
stands_listed c w = is_one_of w (map (λ o. o.property) (read_or free_list (row_of (λ r. r.name) c component_lists)).occurrences)

abbrev pub occurrence_lists : List (List Occurrence)
occurrence_lists = calprops ∷ eventprop ∷ todoprop ∷ jourprop ∷ fbprop ∷ timezoneprop ∷ tzprop ∷ tzprop ∷ audioprop ∷ dispprop ∷ emailprop ∷ []

abbrev pub list_listed : ℕ → List Occurrence
list_listed l = get_or occurrence_lists l []
