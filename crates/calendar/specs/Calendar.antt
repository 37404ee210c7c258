-- The calendar: its components in order, each with its properties in order, each of these with parameters in order and typed values.
-- Two calendars are the same exactly when these values are equal. What a value keeps is said at each constructor:
--   names are kept in capitals; INTEGER and RECUR's numbers by value, FLOAT by its normal form, BOOLEAN by truth, RECUR's parts in the schema's order,
--   TEXT unescaped, the rest by the characters kept, as iCalendar text spells them.
-- Names: RFC 5545, sections 3.2 (parameters), 3.3 (value types), 3.6 (components).
use Rattle.std.specs.Prelude.{Bool, true, false, List, ℕ, Option, None, Some}

-- the value types of RFC 5545, section 3.3, in its order, and `unknown` of RFC 6321, section 5
pub data ValueType : Type 0 where
  BINARY BOOLEAN CAL-ADDRESS DATE DATE-TIME DURATION FLOAT INTEGER PERIOD RECUR TEXT TIME URI UTC-OFFSET UNKNOWN : ValueType

-- where a value is read from or written to: iCalendar text or xCal
pub data Format : Type 0 where
  ical xcal : Format

abbrev pub format_of : Bool → Format
format_of true = xcal
format_of false = ical

-- a whole number: whether it is negative, and its magnitude; zero is not negative
pub record Whole : Type 0 where
  pub negative : Bool
  pub magnitude : ℕ

-- a decimal number in normal form: whether it is negative, its digits before the point without leading zeros, its digits after the point without trailing
-- zeros; zero has no digits and is not negative
pub record Decimal : Type 0 where
  pub minus : Bool
  pub before : List ℕ
  pub after : List ℕ

-- an item of a rule part: UNTIL's date or date-time, a number, a word (FREQ, WKST), a weekday with its ordinal, if it has one (BYDAY)
pub data RuleItem : Type 0 where
  moment : List ℕ → RuleItem
  number : Whole → RuleItem
  word : List ℕ → RuleItem
  weekday : Option Whole → List ℕ → RuleItem

-- a part of a recurrence rule: its name in capitals, and its items in order
pub record RulePart : Type 0 where
  pub part : List ℕ
  pub items : List RuleItem

pub data Value : Type 0 where
  binary : List ℕ → Value  -- base64 characters
  boolean : Bool → Value
  cal_address : List ℕ → Value
  date : List ℕ → Value  -- 20240504
  date_time : List ℕ → Value  -- 20240504T080000, 20240504T080000Z
  duration : List ℕ → Value  -- -PT15M; no plus
  float : Decimal → Value
  integer : Whole → Value
  period_explicit : List ℕ → List ℕ → Value  -- start and end, each a date-time
  period_start : List ℕ → List ℕ → Value  -- start and duration
  recur : List RulePart → Value  -- the parts that are given, in the schema's order
  text : List ℕ → Value  -- unescaped
  time : List ℕ → Value  -- 080000, 080000Z
  uri : List ℕ → Value
  utc_offset : List ℕ → Value  -- +0100, -013000
  unknown : List ℕ → Value  -- raw
  geo : Decimal → Decimal → Value  -- latitude and longitude
  request_status : List ℕ → List ℕ → Option (List ℕ) → Value  -- code, description, data: TEXT each, unescaped

-- the type that a value has: GEO's values are FLOAT, REQUEST-STATUS's TEXT
abbrev pub type_of : Value → ValueType
type_of (binary s) = BINARY
type_of (boolean b) = BOOLEAN
type_of (cal_address s) = CAL-ADDRESS
type_of (date s) = DATE
type_of (date_time s) = DATE-TIME
type_of (duration s) = DURATION
type_of (float d) = FLOAT
type_of (integer w) = INTEGER
type_of (period_explicit s e) = PERIOD
type_of (period_start s d) = PERIOD
type_of (recur ps) = RECUR
type_of (text s) = TEXT
type_of (time s) = TIME
type_of (uri s) = URI
type_of (utc_offset s) = UTC-OFFSET
type_of (unknown s) = UNKNOWN
type_of (geo la lo) = FLOAT
type_of (request_status c d x) = TEXT

-- the characters of a TEXT
abbrev pub text_in : Value → Option (List ℕ)
text_in (binary s) = None
text_in (boolean b) = None
text_in (cal_address s) = None
text_in (date s) = None
text_in (date_time s) = None
text_in (duration s) = None
text_in (float d) = None
text_in (integer w) = None
text_in (period_explicit s e) = None
text_in (period_start s d) = None
text_in (recur ps) = None
text_in (text s) = Some s
text_in (time s) = None
text_in (uri s) = None
text_in (utc_offset s) = None
text_in (unknown s) = None
text_in (geo la lo) = None
text_in (request_status c d x) = None

-- a parameter: its name in capitals, its values in order (text, uri, cal-address, boolean, unknown). VALUE is none: the type stands on the value
pub record Parameter : Type 0 where
  pub name : List ℕ
  pub values : List Value

pub record Property : Type 0 where
  pub name : List ℕ
  pub parameters : List Parameter
  pub values : List Value

-- components in order: the first with its name in capitals, its properties and its subcomponents, and then the others
pub data Components : Type 0 where
  no_more : Components
  component : List ℕ → List Property → Components → Components → Components

-- a calendar is its VCALENDAR components
abbrev pub Calendar : Type 0
Calendar = Components
