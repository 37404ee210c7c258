-- The tables computed: each agrees with the others, and what they answer.
use Rattle.std.specs.Prelude.{◌≡◌, refl, Bool, true, false, not, List, [], ◌∷◌, map, ℕ, length, None, Some}
use Rattle.octets.specs.Ascii.{ascii}
use Rattle.octets.specs.Pick.{pick}
use Rattle.octets.specs.Append.{joined}
use Rattle.octets.specs.Words.{is_one_of}
use Rattle.octets.specs.Lists.{distinct, every}
use Rattle.calendar.specs.Calendar.{BOOLEAN, CAL-ADDRESS, DATE, DATE-TIME, DURATION, FLOAT, PERIOD, TEXT, URI, UTC-OFFSET, UNKNOWN, text, Property}
use Rattle.schema.specs.Types.{type_name, value_types, type_named}
use Rattle.schema.specs.Parameters.{parameter_names, parameter_type, is_listed_parameter, is_quoted_parameter, parameter_words}
use Rattle.schema.specs.Components.{alarm_table, component_names, subcomponents_of, may_contain, standing_in, may_stand}
use Rattle.schema.specs.Properties.{property_table, property_names, is_known_property, default_type, permitted_types, is_listed_property, permits_parameter, status_words, property_words}
use Rattle.schema.specs.Counts.{Around, method_for, complete}
use Rattle.names.specs.Table.{place_of}
use Rattle.schema.specs.Numbers.{property_at}
use Rattle.schema.specs.Coded.{columns, coded}
use Rattle.schema.specs.Property as property
use Rattle.schema.specs.Computing.{schema_compute}

-- ---- the tables agree

-- the words of a list that a test passes, and the others
passing : (List ℕ → Bool) → List (List ℕ) → List (List ℕ)
unfolding schema_compute
passing f [] = []
passing f (w ∷ ws) = pick (f w) (w ∷ passing f ws) (passing f ws)

failing : (List ℕ → Bool) → List (List ℕ) → List (List ℕ)
failing f ws = passing (λ w. not (f w)) ws

sizes : map length (component_names ∷ property_names ∷ parameter_names ∷ map type_name value_types ∷ []) ≡ 9 ∷ 46 ∷ 19 ∷ 14 ∷ []
sizes = refl

names_distinct : map distinct (component_names ∷ property_names ∷ parameter_names ∷ map type_name (UNKNOWN ∷ value_types) ∷ []) ≡ true ∷ true ∷ true ∷ true ∷ []
unfolding schema_compute
names_distinct = refl

-- no list has a property twice; what a VALARM may have is three lists
lists_distinct : failing (λ c. distinct (standing_in c)) component_names ≡ ascii "VALARM" ∷ []
unfolding schema_compute passing failing
lists_distinct = refl

alarm_lists_distinct : map (λ r. distinct (map (λ o. o.property) r.occurrences)) alarm_table ≡ true ∷ true ∷ true ∷ []
unfolding schema_compute
alarm_lists_distinct = refl

-- ACTION's words are those that name a list
alarm_actions : property_words (ascii "VALARM") (ascii "ACTION") ≡ Some (map (λ r. r.action) alarm_table)
unfolding schema_compute
alarm_actions = refl

-- every property of a list is a row, and every row stands in a list
lists_known : failing is_known_property (joined (map standing_in component_names)) ≡ []
unfolding schema_compute passing failing
lists_known = refl

rows_stand : failing (λ p. is_one_of p (joined (map standing_in component_names))) property_names ≡ []
unfolding schema_compute passing failing
rows_stand = refl

-- every parameter of a row is a parameter's row; every one of those is permitted somewhere
parameters_known : failing (λ q. is_one_of q parameter_names) (joined (map (λ r. r.parameters) property_table)) ≡ []
unfolding schema_compute passing failing
parameters_known = refl

parameters_used : failing (λ q. is_one_of q (joined (map (λ r. r.parameters) property_table))) parameter_names ≡ []
unfolding schema_compute passing failing
parameters_used = refl

subcomponents_known : every (λ k. is_one_of k component_names) (joined (map subcomponents_of component_names)) ≡ true
unfolding schema_compute
subcomponents_known = refl

-- ---- what they answer

types_named : map type_named (ascii "DATE" ∷ ascii "UTC-OFFSET" ∷ ascii "UNKNOWN" ∷ ascii "date" ∷ []) ≡ Some DATE ∷ Some UTC-OFFSET ∷ None ∷ None ∷ []
unfolding schema_compute
types_named = refl

default_types : map default_type (ascii "ATTACH" ∷ ascii "DTSTART" ∷ ascii "RDATE" ∷ ascii "TRIGGER" ∷ ascii "GEO" ∷ ascii "REQUEST-STATUS" ∷ ascii "TZUURL" ∷ []) ≡
    URI ∷ DATE-TIME ∷ DATE-TIME ∷ DURATION ∷ FLOAT ∷ TEXT ∷ UNKNOWN ∷ []
unfolding schema_compute
default_types = refl

permitted : map permitted_types (ascii "RDATE" ∷ ascii "TRIGGER" ∷ ascii "X-A" ∷ []) ≡
    (DATE-TIME ∷ DATE ∷ PERIOD ∷ []) ∷ (DURATION ∷ DATE-TIME ∷ []) ∷ (UNKNOWN ∷ value_types) ∷ []
unfolding schema_compute
permitted = refl

listed_properties : passing (λ p. is_listed_property p) property_names ≡
    ascii "CATEGORIES" ∷ ascii "EXDATE" ∷ ascii "FREEBUSY" ∷ ascii "RDATE" ∷ ascii "RESOURCES" ∷ []
unfolding schema_compute passing
listed_properties = refl

listed_parameters : passing (λ q. is_listed_parameter q) (ascii "X-A" ∷ parameter_names) ≡
    ascii "X-A" ∷ ascii "DELEGATED-FROM" ∷ ascii "DELEGATED-TO" ∷ ascii "MEMBER" ∷ []
unfolding schema_compute passing
listed_parameters = refl

quoted_parameters : passing (λ q. is_quoted_parameter q) (ascii "X-A" ∷ parameter_names) ≡
    ascii "ALTREP" ∷ ascii "DELEGATED-FROM" ∷ ascii "DELEGATED-TO" ∷ ascii "DIR" ∷ ascii "MEMBER" ∷ ascii "SENT-BY" ∷ []
unfolding schema_compute passing
quoted_parameters = refl

parameter_types_lem : map parameter_type (ascii "ALTREP" ∷ ascii "MEMBER" ∷ ascii "RSVP" ∷ ascii "ROLE" ∷ ascii "VALUE" ∷ ascii "X-A" ∷ []) ≡
    URI ∷ CAL-ADDRESS ∷ BOOLEAN ∷ TEXT ∷ UNKNOWN ∷ UNKNOWN ∷ []
unfolding schema_compute
parameter_types_lem = refl

parameter_words_lem : map parameter_words (ascii "RELATED" ∷ ascii "LANGUAGE" ∷ ascii "X-A" ∷ []) ≡ Some (ascii "START" ∷ ascii "END" ∷ []) ∷ None ∷ None ∷ []
unfolding schema_compute
parameter_words_lem = refl

-- RELATED on TRIGGER exactly with DURATION; an unrecognised parameter anywhere; an unrecognised property carries any
permits :
    permits_parameter (ascii "TRIGGER") DURATION (ascii "RELATED") ∷ permits_parameter (ascii "TRIGGER") DATE-TIME (ascii "RELATED") ∷
    permits_parameter (ascii "TRIGGER") DATE-TIME (ascii "X-A") ∷ permits_parameter (ascii "X-A") UNKNOWN (ascii "RELATED") ∷
    permits_parameter (ascii "DTSTART") DATE (ascii "TZID") ∷ permits_parameter (ascii "UID") TEXT (ascii "TZID") ∷ [] ≡
    true ∷ false ∷ true ∷ true ∷ true ∷ false ∷ []
unfolding schema_compute
permits = refl

status_words_lem : map (λ c. property_words c (ascii "STATUS")) (ascii "VEVENT" ∷ ascii "VJOURNAL" ∷ ascii "X-FLEET" ∷ []) ≡
    Some (ascii "TENTATIVE" ∷ ascii "CONFIRMED" ∷ ascii "CANCELLED" ∷ []) ∷ Some (ascii "DRAFT" ∷ ascii "FINAL" ∷ ascii "CANCELLED" ∷ []) ∷ Some status_words ∷ []
unfolding schema_compute
status_words_lem = refl

property_words_lem : map (property_words (ascii "VCALENDAR")) (ascii "VERSION" ∷ ascii "METHOD" ∷ []) ≡ Some (ascii "2.0" ∷ []) ∷ None ∷ []
unfolding schema_compute
property_words_lem = refl

-- ---- what stands where

subcomponents : map subcomponents_of (ascii "VTIMEZONE" ∷ ascii "VTODO" ∷ ascii "VJOURNAL" ∷ ascii "VALARM" ∷ []) ≡
    (ascii "STANDARD" ∷ ascii "DAYLIGHT" ∷ []) ∷ (ascii "VALARM" ∷ []) ∷ [] ∷ [] ∷ []
unfolding schema_compute
subcomponents = refl

-- in an unrecognised component every other but VCALENDAR, and it stands in VCALENDAR and in its like
in_fleet : passing (may_contain (ascii "X-FLEET")) (ascii "X-BOAT" ∷ component_names) ≡
    ascii "X-BOAT" ∷ ascii "VEVENT" ∷ ascii "VTODO" ∷ ascii "VJOURNAL" ∷ ascii "VFREEBUSY" ∷ ascii "VTIMEZONE" ∷ ascii "STANDARD" ∷ ascii "DAYLIGHT" ∷ ascii "VALARM" ∷ []
unfolding schema_compute passing
in_fleet = refl

fleet_in : passing (λ c. may_contain c (ascii "X-FLEET")) (ascii "X-BOAT" ∷ component_names) ≡ ascii "X-BOAT" ∷ ascii "VCALENDAR" ∷ []
unfolding schema_compute passing
fleet_in = refl

-- every property stands there
fleet_properties : passing (λ p. may_stand (ascii "X-FLEET") p) property_names ≡ property_names
unfolding schema_compute passing
fleet_properties = refl

in_valarm : passing (λ p. may_stand (ascii "VALARM") p) property_names ≡
    ascii "ACTION" ∷ ascii "ATTACH" ∷ ascii "ATTENDEE" ∷ ascii "DESCRIPTION" ∷ ascii "DURATION" ∷ ascii "REPEAT" ∷ ascii "SUMMARY" ∷ ascii "TRIGGER" ∷ []
unfolding schema_compute passing
in_valarm = refl

-- a VTODO is due and does not end
due_stands : passing (λ c. may_stand c (ascii "DUE")) component_names ≡ ascii "VTODO" ∷ []
unfolding schema_compute passing
due_stands = refl

end_stands : passing (λ c. may_stand c (ascii "DTEND")) component_names ≡ ascii "VEVENT" ∷ ascii "VFREEBUSY" ∷ []
unfolding schema_compute passing
end_stands = refl

-- ---- how often

-- properties of these names, each with an empty text
named : List (List ℕ) → List Property
unfolding schema_compute
named [] = []
named (w ∷ ws) = record { name = w; parameters = []; values = text [] ∷ [] } ∷ named ws

-- and an ACTION
acting : List ℕ → List (List ℕ) → List Property
unfolding schema_compute
acting a ws = record { name = ascii "ACTION"; parameters = []; values = text a ∷ [] } ∷ named ws

-- no subcomponent, and no METHOD in the calendar
bare : Around
bare = record { inner = false; method = false }

-- none, what is needed, an unrecognised one besides, METHOD twice
calendars : map (λ ws. complete (ascii "VCALENDAR") (named ws) bare)
    ([] ∷
    (ascii "VERSION" ∷ ascii "PRODID" ∷ []) ∷
    (ascii "X-A" ∷ ascii "VERSION" ∷ ascii "X-A" ∷ ascii "PRODID" ∷ []) ∷
    (ascii "METHOD" ∷ ascii "VERSION" ∷ ascii "PRODID" ∷ ascii "METHOD" ∷ []) ∷ []) ≡
    false ∷ true ∷ true ∷ false ∷ []
unfolding schema_compute named bare
calendars = refl

-- VEVENT: DTEND, DURATION, both, twice one; two COMMENTs; two SUMMARYs; no UID
events : map (λ ws. complete (ascii "VEVENT") (named (ascii "DTSTAMP" ∷ ascii "DTSTART" ∷ ws)) bare)
    ((ascii "UID" ∷ ascii "DTEND" ∷ []) ∷
    (ascii "DURATION" ∷ ascii "UID" ∷ []) ∷
    (ascii "DURATION" ∷ ascii "UID" ∷ ascii "DTEND" ∷ []) ∷
    (ascii "UID" ∷ ascii "DTEND" ∷ ascii "DTEND" ∷ []) ∷
    (ascii "UID" ∷ ascii "COMMENT" ∷ ascii "COMMENT" ∷ []) ∷
    (ascii "UID" ∷ ascii "SUMMARY" ∷ ascii "SUMMARY" ∷ []) ∷
    (ascii "SUMMARY" ∷ []) ∷ []) ≡
    true ∷ true ∷ false ∷ false ∷ true ∷ false ∷ false ∷ []
unfolding schema_compute named bare
events = refl

-- a VEVENT without DTSTART, with one, with two, where the calendar has no METHOD and where it has one
starts : map (λ m. map (λ ws. complete (ascii "VEVENT") (named (ascii "DTSTAMP" ∷ ascii "UID" ∷ ws)) (record { inner = false; method = m }))
    ([] ∷ (ascii "DTSTART" ∷ []) ∷ (ascii "DTSTART" ∷ ascii "DTSTART" ∷ []) ∷ [])) (false ∷ true ∷ []) ≡
    (false ∷ true ∷ false ∷ []) ∷ (true ∷ true ∷ false ∷ []) ∷ []
unfolding schema_compute named
starts = refl

-- METHOD counts for what is inside a calendar; of another component the calendar round it decides
methods : map (λ m. map (λ c. method_for c (named (ascii "METHOD" ∷ [])) m) (ascii "VCALENDAR" ∷ ascii "VEVENT" ∷ [])) (false ∷ true ∷ []) ≡
    (true ∷ false ∷ []) ∷ (true ∷ true ∷ []) ∷ []
unfolding schema_compute named
methods = refl

other_calendars : method_for (ascii "VCALENDAR") (named (ascii "PRODID" ∷ [])) true ≡ false
unfolding schema_compute named
other_calendars = refl

-- VTODO: neither, either or both of DTSTART and DUE; DURATION only with DTSTART and without DUE, in any order; DUE twice; DTEND
todos : map (λ ws. complete (ascii "VTODO") (named (ascii "DTSTAMP" ∷ ascii "UID" ∷ ws)) bare)
    ([] ∷ (ascii "DTSTART" ∷ []) ∷ (ascii "DUE" ∷ []) ∷ (ascii "DUE" ∷ ascii "DTSTART" ∷ []) ∷
    (ascii "DURATION" ∷ ascii "DTSTART" ∷ []) ∷
    (ascii "DURATION" ∷ []) ∷ (ascii "DURATION" ∷ ascii "DTSTART" ∷ ascii "DUE" ∷ []) ∷ (ascii "DTSTART" ∷ ascii "DURATION" ∷ ascii "DURATION" ∷ []) ∷
    (ascii "DURATION" ∷ ascii "DUE" ∷ []) ∷ (ascii "DUE" ∷ ascii "DUE" ∷ []) ∷ (ascii "DTEND" ∷ []) ∷ []) ≡
    true ∷ true ∷ true ∷ true ∷ true ∷ false ∷ false ∷ false ∷ false ∷ false ∷ false ∷ []
unfolding schema_compute named bare
todos = refl

-- VJOURNAL: one DESCRIPTION, not two;  VFREEBUSY: DTEND and DURATION together
journals : map (λ ws. complete (ascii "VJOURNAL") (named (ascii "DTSTAMP" ∷ ascii "UID" ∷ ws)) bare)
    ((ascii "DESCRIPTION" ∷ []) ∷ (ascii "DESCRIPTION" ∷ ascii "DESCRIPTION" ∷ []) ∷ []) ≡ true ∷ false ∷ []
unfolding schema_compute named bare
journals = refl

freebusys : complete (ascii "VFREEBUSY") (named (ascii "DTSTAMP" ∷ ascii "UID" ∷ ascii "DTEND" ∷ ascii "DURATION" ∷ [])) bare ≡ true
unfolding schema_compute named bare
freebusys = refl

-- VTIMEZONE without and with a subcomponent
timezones : map (λ b. complete (ascii "VTIMEZONE") (named (ascii "TZID" ∷ ascii "TZURL" ∷ [])) (record { inner = b; method = false })) (false ∷ true ∷ []) ≡ false ∷ true ∷ []
unfolding schema_compute named
timezones = refl

-- VALARM: AUDIO; with DURATION alone, with REPEAT too; with a DESCRIPTION, which is outside its list; DISPLAY wants it; EMAIL wants ATTENDEE; another word
alarms :
    complete (ascii "VALARM") (acting (ascii "AUDIO") (ascii "TRIGGER" ∷ [])) bare ∷
    complete (ascii "VALARM") (acting (ascii "AUDIO") (ascii "TRIGGER" ∷ ascii "DURATION" ∷ [])) bare ∷
    complete (ascii "VALARM") (acting (ascii "AUDIO") (ascii "REPEAT" ∷ ascii "TRIGGER" ∷ ascii "DURATION" ∷ [])) bare ∷
    complete (ascii "VALARM") (acting (ascii "AUDIO") (ascii "TRIGGER" ∷ ascii "DESCRIPTION" ∷ [])) bare ∷
    complete (ascii "VALARM") (acting (ascii "DISPLAY") (ascii "TRIGGER" ∷ ascii "DESCRIPTION" ∷ [])) bare ∷
    complete (ascii "VALARM") (acting (ascii "EMAIL") (ascii "TRIGGER" ∷ ascii "DESCRIPTION" ∷ ascii "SUMMARY" ∷ [])) bare ∷
    complete (ascii "VALARM") (acting (ascii "EMAIL") (ascii "ATTENDEE" ∷ ascii "TRIGGER" ∷ ascii "DESCRIPTION" ∷ ascii "SUMMARY" ∷ ascii "ATTENDEE" ∷ [])) bare ∷
    complete (ascii "VALARM") (acting (ascii "PROCEDURE") (ascii "TRIGGER" ∷ [])) bare ∷
    complete (ascii "VALARM") (named (ascii "TRIGGER" ∷ [])) bare ∷
    complete (ascii "VALARM") (acting (ascii "AUDIO") (ascii "TRIGGER" ∷ ascii "ACTION" ∷ [])) bare ∷ [] ≡
    true ∷ false ∷ true ∷ false ∷ true ∷ false ∷ true ∷ false ∷ false ∷ false ∷ []
unfolding schema_compute named acting bare
alarms = refl

-- ---- by numbers

numbers : map (λ w. place_of w property_names) (ascii "ACTION" ∷ ascii "UID" ∷ ascii "VERSION" ∷ ascii "X-A" ∷ ascii "uid" ∷ []) ≡ 0 ∷ 43 ∷ 45 ∷ 46 ∷ 46 ∷ []
unfolding schema_compute
numbers = refl

-- ATTENDEE as the code has it: types, components and parameters as masks, and how often it stands by each list; by a VALARM of EMAIL at least once
attendee : map (λ e. e.types ∷ e.parameters ∷ e.components ∷ e.least ∷ e.once ∷ e.many ∷ []) (coded (property_at property.ATTENDEE) ∷ []) ≡
    (0x4 ∷ 0x38e3e ∷ 0x11e ∷ 0x400 ∷ 0 ∷ 0x41e ∷ []) ∷ []
unfolding schema_compute columns
attendee = refl
