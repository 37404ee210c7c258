-- The values of a property in jCal (RFC 7265, section 3.6; section 3.4.1 for GEO and REQUEST-STATUS).
--     read_typed t v         the value of type t that a JSON value states; none where it states none
--     read_values k n t vs   the values of the property n of a component k, of type t; none where the type is not permitted
use Rattle.std.specs.Prelude.{List, [], ◌∷◌, ℕ, Option, None, Some, option_map}
use Rattle.octets.specs.Ascii.{ascii}
use Rattle.octets.specs.Pick.{pick}
use Rattle.octets.specs.Class.{upper, lower}
use Rattle.octets.specs.Words.{same, is_one_of}
use Rattle.octets.specs.Reading.{provided, and_then, read_each}
use Rattle.calendar.specs.Calendar.{ical, xcal, ValueType, BINARY, BOOLEAN, CAL-ADDRESS, DATE, DATE-TIME, DURATION, FLOAT, INTEGER, PERIOD, RECUR, TEXT, TIME, URI, UTC-OFFSET, UNKNOWN, RuleItem, RulePart, Value, integer, period_explicit, period_start, recur, text, geo, request_status}
use Rattle.schema.specs.Types.{is_type_of}
use Rattle.schema.specs.Properties.{permitted_types, property_words}
use Rattle.times.specs.DateTime.{read_date_time}
use Rattle.times.specs.Duration.{read_duration}
use Rattle.numbers.specs.Float.{read_float}
use Rattle.recur.specs.Parts.{ItemForm, word_of, enddate, counting, unsigned, signed, weekdaynum, Part, part_of}
use Rattle.recur.specs.Item.{read_form, or_other}
use Rattle.recur.specs.Rule.{rule_part, is_amount, ruled}
use Rattle.values.specs.ReadValue.{read_value}
use Rattle.json_text.specs.Tree.{Json, Member}
use Rattle.json_text.specs.Kinds.{as_string, as_number, as_literal, as_array, as_object, or_alone}
use Rattle.jcal.specs.Integer.{read_number}

-- a string that spells a value of type t as its XML element does
abbrev pub read_string : ValueType → Json → Option Value
read_string t v = and_then (as_string v) (read_value xcal t)

-- ---- 3.6.9 PERIOD: an array of two strings, the start, and the duration or the end

abbrev pub period_from : List ℕ → List ℕ → Option Value
period_from s e = or_other (option_map (period_start s) (read_duration xcal e)) (option_map (period_explicit s) (read_date_time xcal e))

abbrev pub read_period : List Json → Option Value
read_period [] = None
read_period (s ∷ []) = None
read_period (s ∷ e ∷ []) = and_then (and_then (as_string s) (read_date_time xcal)) (λ m. and_then (as_string e) (period_from m))
read_period (s ∷ e ∷ v ∷ vs) = None

-- ---- 3.6.10 RECUR: an object, a member for each part, in any order

-- a number where the part has numbers, else a string
abbrev pub item_text : ItemForm → Json → Option (List ℕ)
item_text (word_of ws) v = as_string v
item_text enddate v = as_string v
item_text counting v = as_number v
item_text (unsigned d lo hi) v = as_number v
item_text (signed d hi) v = as_number v
item_text weekdaynum v = as_string v

abbrev pub read_item : Part → Json → Option RuleItem
read_item r v = and_then (item_text r.form v) (read_form xcal r.form)

-- one item at least, and one only where the part has no list; one item with or without an array
abbrev pub read_items : Part → List Json → Option RulePart
read_items r vs = and_then (read_each (read_item r) vs) (λ is. provided (is_amount r.listed is) (rule_part r.name is))

-- the names of parts are in small letters
abbrev pub read_part : Member → Option RulePart
read_part m = pick (same m.name (lower m.name)) (and_then (part_of (upper m.name)) (λ r. read_items r (or_alone m.value))) None

abbrev pub read_recur : List Member → Option Value
read_recur ms = option_map recur (and_then (read_each read_part ms) ruled)

-- ---- 3.6 by type

-- white space in BINARY is not dropped
unfoldable pub read_typed : ValueType → Json → Option Value
read_typed BINARY v = and_then (as_string v) (read_value ical BINARY)  -- 3.6.1
read_typed BOOLEAN v = and_then (as_literal v) (read_value xcal BOOLEAN)  -- 3.6.2
read_typed CAL-ADDRESS v = read_string CAL-ADDRESS v
read_typed DATE v = read_string DATE v
read_typed DATE-TIME v = read_string DATE-TIME v
read_typed DURATION v = read_string DURATION v
read_typed FLOAT v = and_then (as_number v) (read_value xcal FLOAT)  -- 3.6.7
read_typed INTEGER v = and_then (as_number v) (λ s. option_map integer (read_number s))  -- 3.6.8
read_typed PERIOD v = and_then (as_array v) read_period
read_typed RECUR v = and_then (as_object v) read_recur
read_typed TEXT v = read_string TEXT v
read_typed TIME v = read_string TIME v
read_typed URI v = read_string URI v
read_typed UTC-OFFSET v = read_string UTC-OFFSET v
read_typed UNKNOWN v = read_string UNKNOWN v  -- section 5

-- a word of a closed set exactly
abbrev pub read_chosen : Option (List (List ℕ)) → ValueType → Json → Option Value
read_chosen None t v = read_typed t v
read_chosen (Some words) t v = and_then (as_string v) (λ s. provided (is_one_of s words) (text s))

-- ---- 3.4.1.1 GEO: an array of two numbers

abbrev pub read_geo : List Json → Option Value
read_geo [] = None
read_geo (la ∷ []) = None
read_geo (la ∷ lo ∷ []) = and_then (and_then (as_number la) read_float) (λ a. and_then (and_then (as_number lo) read_float) (λ o. Some (geo a o)))
read_geo (la ∷ lo ∷ v ∷ vs) = None

-- ---- 3.4.1.2 REQUEST-STATUS: an array of two or three strings

abbrev pub read_status : List (List ℕ) → Option Value
read_status [] = None
read_status (c ∷ []) = None
read_status (c ∷ d ∷ []) = Some (request_status c d None)
read_status (c ∷ d ∷ x ∷ []) = Some (request_status c d (Some x))
read_status (c ∷ d ∷ x ∷ s ∷ ss) = None

-- ---- the values of a property

abbrev pub read_one : List ℕ → List ℕ → ValueType → Json → Option Value
read_one k n t v =
    pick (same n (ascii "GEO")) (and_then (as_array v) read_geo)
    (pick (same n (ascii "REQUEST-STATUS")) (and_then (as_array v) (λ vs. and_then (read_each as_string vs) read_status))
    (read_chosen (property_words k n) t v))

unfoldable pub read_values : List ℕ → List ℕ → ValueType → List Json → Option (List Value)
read_values k n t vs = pick (is_type_of t (permitted_types n)) (read_each (read_one k n t) vs) None
