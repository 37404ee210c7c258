-- Properties: RFC 5545, sections 3.6 to 3.8; schema 3.6 to 3.8, lines 392 to 1192: the one table of properties, and what it says of a name.
--     PropertyRow         a row: name, the type of its values where no VALUE is given, the other types that are permitted, the parameters that are, whether it takes a list of values, its signs
--     property_table      the table, in order of name: a property is added by one row here
--     property_names, is_known_property  the schema's properties
--     permitted_types     the types that its values may have, RFC 5545's default type first; an unrecognised property's: any, UNKNOWN first
--     default_type        the type of its values where no VALUE is given
--     is_listed_property  whether it takes a list of values
--     permits_parameter   whether a property whose values have a given type permits a parameter
--     property_words      the closed set of words of a property in a component, if it has one
-- A sign says how often the property stands by a list: a component's list of properties; a VALARM has three, and ACTION's word says which. There are eleven lists, in this order:
--     VCALENDAR VEVENT VTODO VJOURNAL VFREEBUSY VTIMEZONE STANDARD DAYLIGHT, VALARM with AUDIO, DISPLAY, EMAIL
--     1 once, ? at most once, * any number of times, + at least once, a point where it may not stand
-- What hangs on METHOD or on a pair stays beside the table: Counts. RELATED hangs on the type of TRIGGER's value: permits_parameter.
-- In two points RFC 5545 decides and not the schema: DTSTART of a VEVENT may be missing (3.6.1), and a VTODO has DUE and no DTEND (3.6.2).
-- In the schema `parameters?, a | b` is read as parameters, and then one of the alternatives.
use Rattle.std.specs.Prelude.{Bool, true, false, List, [], ◌∷◌, map, ℕ, Option, Some}
use Prim.Native.String.{String}
use Rattle.octets.specs.Ascii.{ascii}
use Rattle.octets.specs.Pick.{pick, ◌and◌}
use Rattle.octets.specs.Words.{same, is_one_of, row_of}
use Rattle.octets.specs.Reading.{and_then, read_or}
use Rattle.calendar.specs.Calendar.{ValueType, BINARY, CAL-ADDRESS, DATE, DATE-TIME, DURATION, FLOAT, INTEGER, PERIOD, RECUR, TEXT, URI, UTC-OFFSET, UNKNOWN}
use Rattle.schema.specs.Types.{value_types, same_type}
use Rattle.schema.specs.Parameters.{is_known_parameter}

pub record PropertyRow : Type 0 where
  pub name : List ℕ
  pub default : ValueType
  pub others : List ValueType
  pub parameters : List (List ℕ)
  pub listed : Bool
  pub signs : List ℕ

-- a property of one value, and one of one value or more, all of one type (`value-x+`)
abbrev one : Bool
one = false

abbrev several : Bool
several = true

-- signs, name, one value or several, default type, other types, parameters
abbrev row : String → String → Bool → ValueType → List ValueType → List String → PropertyRow
row s n l t ts qs = record {
  name = ascii n;
  default = t;
  others = ts;
  parameters = map ascii qs;
  listed = l;
  signs = ascii s;
}

-- element parameters { altrepparam? & languageparam? }
abbrev altrep_language : List String
altrep_language = "ALTREP" ∷ "LANGUAGE" ∷ []

abbrev language : List String
language = "LANGUAGE" ∷ []

abbrev tzid : List String
tzid = "TZID" ∷ []

-- lines 979 to 989
abbrev attendee_parameters : List String
attendee_parameters =
    "CUTYPE" ∷ "MEMBER" ∷ "ROLE" ∷ "PARTSTAT" ∷ "RSVP" ∷ "DELEGATED-TO" ∷ "DELEGATED-FROM" ∷ "SENT-BY" ∷ "CN" ∷ "DIR" ∷ "LANGUAGE" ∷ []

-- lines 1012 to 1015
abbrev organizer_parameters : List String
organizer_parameters = "CN" ∷ "DIR" ∷ "SENT-BY" ∷ "LANGUAGE" ∷ []

-- Where the schema has its own children, the type is the one that RFC 5545 gives: GEO's FLOAT, REQUEST-STATUS's TEXT.
abbrev pub property_table : List PropertyRow
property_table =
    row "........111" "ACTION" one TEXT [] [] ∷  -- 3.8.6.1, line 1103
    row ".***....?.*" "ATTACH" one URI (BINARY ∷ []) ("FMTTYPE" ∷ "ENCODING" ∷ []) ∷  -- 3.8.1.1, line 684
    row ".****.....+" "ATTENDEE" one CAL-ADDRESS [] attendee_parameters ∷  -- 3.8.4.1, line 976
    row "?.........." "CALSCALE" one TEXT [] [] ∷  -- 3.7.1, line 644
    row ".***......." "CATEGORIES" several TEXT [] language ∷  -- 3.8.1.2, line 696
    row ".???......." "CLASS" one TEXT [] [] ∷  -- 3.8.1.3, line 707
    row ".****.**..." "COMMENT" one TEXT [] altrep_language ∷  -- 3.8.1.4, line 720
    row "..?........" "COMPLETED" one DATE-TIME [] [] ∷  -- 3.8.2.1, line 847
    row ".***?......" "CONTACT" one TEXT [] altrep_language ∷  -- 3.8.4.2, line 997
    row ".???......." "CREATED" one DATE-TIME [] [] ∷  -- 3.8.7.1, line 1145
    row ".???.....11" "DESCRIPTION" one TEXT [] altrep_language ∷  -- 3.8.1.5, line 732
    row ".?..?......" "DTEND" one DATE-TIME (DATE ∷ []) tzid ∷  -- 3.8.2.2, line 856
    row ".1111......" "DTSTAMP" one DATE-TIME [] [] ∷  -- 3.8.7.2, line 1154
    row ".????.11..." "DTSTART" one DATE-TIME (DATE ∷ []) tzid ∷  -- 3.8.2.4, line 880
    row "..?........" "DUE" one DATE-TIME (DATE ∷ []) tzid ∷  -- 3.8.2.3, line 868
    row ".??.?...???" "DURATION" one DURATION [] [] ∷  -- 3.8.2.5, line 892
    row ".***......." "EXDATE" several DATE-TIME (DATE ∷ []) tzid ∷  -- 3.8.5.1, line 1067
    row "....*......" "FREEBUSY" several PERIOD [] ("FBTYPE" ∷ []) ∷  -- 3.8.2.6, line 901
    row ".??........" "GEO" one FLOAT [] [] ∷  -- 3.8.1.6, line 744
    row ".???.?....." "LAST-MODIFIED" one DATE-TIME [] [] ∷  -- 3.8.7.3, line 1163
    row ".??........" "LOCATION" one TEXT [] altrep_language ∷  -- 3.8.1.7, line 754
    row "?.........." "METHOD" one TEXT [] [] ∷  -- 3.7.2, line 653
    row ".????......" "ORGANIZER" one CAL-ADDRESS [] organizer_parameters ∷  -- 3.8.4.3, line 1009
    row "..?........" "PERCENT-COMPLETE" one INTEGER [] [] ∷  -- 3.8.1.8, line 767
    row ".??........" "PRIORITY" one INTEGER [] [] ∷  -- 3.8.1.9, line 776
    row "1.........." "PRODID" one TEXT [] [] ∷  -- 3.7.3, line 662
    row ".***..**..." "RDATE" several DATE-TIME (DATE ∷ PERIOD ∷ []) tzid ∷  -- 3.8.5.2, line 1079
    row ".???......." "RECURRENCE-ID" one DATE-TIME (DATE ∷ []) ("TZID" ∷ "RANGE" ∷ []) ∷  -- 3.8.4.4, line 1023
    row ".***......." "RELATED-TO" one TEXT [] ("RELTYPE" ∷ []) ∷  -- 3.8.4.5, line 1036
    row "........???" "REPEAT" one INTEGER [] [] ∷  -- 3.8.6.2, line 1116
    row ".****......" "REQUEST-STATUS" one TEXT [] language ∷  -- 3.8.8.3, line 1183
    row ".**........" "RESOURCES" several TEXT [] altrep_language ∷  -- 3.8.1.10, line 785
    row ".???..??..." "RRULE" one RECUR [] [] ∷  -- 3.8.5.3, line 1092
    row ".???......." "SEQUENCE" one INTEGER [] [] ∷  -- 3.8.7.4, line 1172
    row ".???......." "STATUS" one TEXT [] [] ∷  -- 3.8.1.11, lines 797, 808, 820
    row ".???......1" "SUMMARY" one TEXT [] altrep_language ∷  -- 3.8.1.12, line 833
    row ".?........." "TRANSP" one TEXT [] [] ∷  -- 3.8.2.7, line 913
    row "........111" "TRIGGER" one DURATION (DATE-TIME ∷ []) ("RELATED" ∷ []) ∷  -- 3.8.6.3, line 1125
    row ".....1....." "TZID" one TEXT [] [] ∷  -- 3.8.3.1, line 927
    row "......**..." "TZNAME" one TEXT [] language ∷  -- 3.8.3.2, line 936
    row "......11..." "TZOFFSETFROM" one UTC-OFFSET [] [] ∷  -- 3.8.3.3, line 947
    row "......11..." "TZOFFSETTO" one UTC-OFFSET [] [] ∷  -- 3.8.3.4, line 956
    row ".....?....." "TZURL" one URI [] [] ∷  -- 3.8.3.5, line 965
    row ".1111......" "UID" one TEXT [] [] ∷  -- 3.8.4.7, line 1056
    row ".????......" "URL" one URI [] [] ∷  -- 3.8.4.6, line 1047
    row "1.........." "VERSION" one TEXT [] [] ∷  -- 3.7.4, line 671
    []

-- what stands for a property that is no row: one value of any type, `unknown` where no VALUE is given
abbrev pub unrecognised_property : PropertyRow
unrecognised_property = record { name = []; default = UNKNOWN; others = value_types; parameters = []; listed = one; signs = [] }

unfoldable pub property_row : List ℕ → PropertyRow
property_row w = read_or unrecognised_property (row_of (λ r. r.name) w property_table)

abbrev pub property_names : List (List ℕ)
property_names = map (λ r. r.name) property_table

unfoldable pub is_known_property : List ℕ → Bool
is_known_property w = is_one_of w property_names

abbrev pub default_type : List ℕ → ValueType
default_type w = (property_row w).default

abbrev pub permitted_types : List ℕ → List ValueType
permitted_types w = (property_row w).default ∷ (property_row w).others

abbrev pub is_listed_property : List ℕ → Bool
is_listed_property w = (property_row w).listed

-- Unrecognised parameters stand anywhere, an unrecognised property carries any. TRIGGER, line 1127: RELATED exactly with DURATION
unfoldable pub permits_parameter : List ℕ → ValueType → List ℕ → Bool
permits_parameter p t q =
    pick (is_known_parameter q and is_known_property p)
    (is_one_of q (property_row p).parameters and pick (same q (ascii "RELATED")) (same_type t DURATION) true)
    true

-- ---- closed sets

-- a name, and the words that go with it
pub record WordsRow : Type 0 where
  pub name : List ℕ
  pub words : List (List ℕ)

-- by property
abbrev pub words_table : List WordsRow
words_table =
    record { name = ascii "CALSCALE"; words = ascii "GREGORIAN" ∷ [] } ∷  -- line 648
    record { name = ascii "VERSION"; words = ascii "2.0" ∷ [] } ∷  -- line 675
    record { name = ascii "CLASS"; words = ascii "PUBLIC" ∷ ascii "PRIVATE" ∷ ascii "CONFIDENTIAL" ∷ [] } ∷  -- line 711
    record { name = ascii "TRANSP"; words = ascii "OPAQUE" ∷ ascii "TRANSPARENT" ∷ [] } ∷  -- line 917
    record { name = ascii "ACTION"; words = ascii "AUDIO" ∷ ascii "DISPLAY" ∷ ascii "EMAIL" ∷ [] } ∷  -- line 1107
    []

-- of STATUS, by component
abbrev pub status_table : List WordsRow
status_table =
    record { name = ascii "VEVENT"; words = ascii "TENTATIVE" ∷ ascii "CONFIRMED" ∷ ascii "CANCELLED" ∷ [] } ∷  -- line 797
    record { name = ascii "VTODO"; words = ascii "NEEDS-ACTION" ∷ ascii "COMPLETED" ∷ ascii "IN-PROCESS" ∷ ascii "CANCELLED" ∷ [] } ∷  -- line 808
    record { name = ascii "VJOURNAL"; words = ascii "DRAFT" ∷ ascii "FINAL" ∷ ascii "CANCELLED" ∷ [] } ∷  -- line 820
    []

abbrev words_by : List ℕ → List WordsRow → Option (List (List ℕ))
words_by w t = and_then (row_of (λ r. r.name) w t) (λ r. Some r.words)

abbrev pub status_words : List (List ℕ)
status_words =
    ascii "TENTATIVE" ∷ ascii "CONFIRMED" ∷ ascii "CANCELLED" ∷ ascii "NEEDS-ACTION" ∷ ascii "COMPLETED" ∷ ascii "IN-PROCESS" ∷ ascii "DRAFT" ∷ ascii "FINAL" ∷ []

-- what stands for a component that is no row, and so for an unrecognised one: any of these words
abbrev pub elsewhere : WordsRow
elsewhere = record { name = []; words = status_words }

unfoldable pub property_words : List ℕ → List ℕ → Option (List (List ℕ))
property_words c p = pick (same p (ascii "STATUS")) (Some (read_or elsewhere (row_of (λ r. r.name) c status_table)).words) (words_by p words_table)
