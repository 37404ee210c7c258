-- The elements of a property's value (RFC 6321, section 3.6; section 3.4.1 for GEO and REQUEST-STATUS): what they state, and where they are refused.
--     value_slots n          the children that are the value of the property n
--     value_verdict          the verdict on one of them
--     read_value_nodes       the values that the children of a property state
use Rattle.std.specs.Prelude.{Bool, true, false, List, [], ◌∷◌, map, ℕ, Option, None, Some}
use Rattle.octets.specs.Ascii.{ascii}
use Rattle.octets.specs.Pick.{pick, ◌and◌}
use Rattle.octets.specs.Class.{upper, lower}
use Rattle.octets.specs.Words.{same, is_one_of}
use Rattle.octets.specs.Reading.{is_read, read_or}
use Rattle.calendar.specs.Calendar.{xcal, ValueType, PERIOD, RECUR, UNKNOWN, Decimal, RuleItem, word, RulePart, Value, text, geo, request_status, period_explicit, period_start, recur}
use Rattle.calendar.specs.Refusal.{VALUE, Verdict, refuse}
use Rattle.schema.specs.Types.{type_name, value_types, type_named, same_type, is_type_of}
use Rattle.schema.specs.Properties.{permitted_types, default_type, is_listed_property, property_words}
use Rattle.times.specs.DateTime.{read_date_time}
use Rattle.times.specs.Duration.{read_duration}
use Rattle.numbers.specs.Float.{read_float}
use Rattle.recur.specs.Parts.{part_names}
use Rattle.recur.specs.Item.{read_item}
use Rattle.values.specs.ReadValue.{read_value}
use Rattle.values.specs.Valid.{has_own_values}
use Rattle.xml.specs.Nodes.{Nodes, no_nodes, element, literal, referred, characters_of}
use Rattle.xcal.specs.Layout.{Slot, sequence, leaf}

-- ---- types as elements

-- the type that an element's name names: one of the fourteen, or `unknown`
unfoldable pub element_type : List ℕ → Option ValueType
element_type n = pick (same n (ascii "unknown")) (Some UNKNOWN) (pick (same n (lower n)) (type_named (upper n)) None)

abbrev pub type_elements : List (List ℕ)
type_elements = ascii "unknown" ∷ map (λ t. lower (type_name t)) value_types

-- ---- which children are the value

-- the elements of GEO's value, and of REQUEST-STATUS's
abbrev pub geo_elements : List (List ℕ)
geo_elements = ascii "latitude" ∷ ascii "longitude" ∷ []

abbrev pub status_elements : List (List ℕ)
status_elements = ascii "code" ∷ ascii "description" ∷ ascii "data" ∷ []

abbrev pub must : List ℕ → Slot
must n = record { names = n ∷ []; several = false; required = true }

abbrev pub may : List ℕ → Slot
may n = record { names = n ∷ []; several = false; required = false }

abbrev pub any : List ℕ → Slot
any n = record { names = n ∷ []; several = true; required = false }

abbrev pub value_slots : List ℕ → List Slot
value_slots n =
    pick (same n (ascii "GEO")) (must (ascii "latitude") ∷ must (ascii "longitude") ∷ [])
    (pick (same n (ascii "REQUEST-STATUS")) (must (ascii "code") ∷ must (ascii "description") ∷ may (ascii "data") ∷ [])
    (record { names = type_elements; several = is_listed_property n; required = true } ∷ []))

-- the type that the first child that is named as a type names, or t
unfoldable pub first_type : ValueType → Nodes → ValueType
first_type t no_nodes = t
first_type t (literal p b more) = first_type t more
first_type t (referred p bs more) = first_type t more
first_type t (element p m x kids more) = read_or (first_type t more) (element_type m)

-- the type of a property's value
unfoldable pub type_of_nodes : List ℕ → Nodes → ValueType
type_of_nodes n kids = pick (has_own_values n) (default_type n) (first_type (default_type n) kids)

-- ---- PERIOD (section 3.6.9) and RECUR (section 3.6.10)

abbrev pub period_slots : List Slot
period_slots = must (ascii "start") ∷ record { names = ascii "end" ∷ ascii "duration" ∷ []; several = false; required = true } ∷ []

unfoldable pub period_inside : ℕ → List ℕ → ℕ → Nodes → Verdict
period_inside p n x kids = leaf (λ s. pick (same n (ascii "duration")) (is_read (read_duration xcal s)) (is_read (read_date_time xcal s))) p kids

-- freq, then until or count, then the others in the schema's order; the BY parts may stand several times
abbrev pub recur_slots : List Slot
recur_slots =
    must (ascii "freq")
    ∷ record { names = ascii "until" ∷ ascii "count" ∷ []; several = false; required = false }
    ∷ may (ascii "interval")
    ∷ any (ascii "bysecond") ∷ any (ascii "byminute") ∷ any (ascii "byhour") ∷ any (ascii "byday")
    ∷ any (ascii "bymonthday") ∷ any (ascii "byyearday") ∷ any (ascii "byweekno") ∷ any (ascii "bymonth") ∷ any (ascii "bysetpos")
    ∷ may (ascii "wkst") ∷ []

unfoldable pub recur_inside : ℕ → List ℕ → ℕ → Nodes → Verdict
recur_inside p n x kids = leaf (λ s. is_read (read_item xcal (upper n) s)) p kids

-- ---- the verdict on a value's element

-- the characters of a value of type t: a word of a closed set exactly
abbrev pub read_word_of : Option (List (List ℕ)) → ValueType → List ℕ → Bool
read_word_of None t s = is_read (read_value xcal t s)
read_word_of (Some words) t s = is_one_of s words

unfoldable pub typed_verdict : List ℕ → List ℕ → ValueType → ℕ → ℕ → Nodes → Verdict
typed_verdict k n t p e kids =
    pick (same_type t PERIOD) (sequence period_slots period_inside kids 0 [] e)
    (pick (same_type t RECUR) (sequence recur_slots recur_inside kids 0 [] e)
    (leaf (read_word_of (property_words k n) t) p kids))

-- an element of the value of the property n in a component k, where t is the type of its first value: a type that is not permitted, or not that one, is refused
abbrev pub as_typed : Option ValueType → List ℕ → List ℕ → ValueType → ℕ → ℕ → Nodes → Verdict
as_typed None k n t p e kids = refuse VALUE p
as_typed (Some u) k n t p e kids = pick (is_type_of u (permitted_types n) and same_type u t) (typed_verdict k n u p e kids) (refuse VALUE p)

unfoldable pub value_verdict : List ℕ → List ℕ → ValueType → ℕ → List ℕ → ℕ → Nodes → Verdict
value_verdict k n t p m e kids =
    pick (same n (ascii "GEO")) (leaf (λ s. is_read (read_float s)) p kids)
    (pick (same n (ascii "REQUEST-STATUS")) (leaf (λ s. true) p kids)
    (as_typed (element_type m) k n t p e kids))

-- ---- what the children state

-- the characters of the first child of a name
unfoldable pub child_named : List ℕ → Nodes → Option (List ℕ)
child_named n no_nodes = None
child_named n (literal p b more) = child_named n more
child_named n (referred p bs more) = child_named n more
child_named n (element p m x kids more) = pick (same n m) (Some (characters_of kids)) (child_named n more)

abbrev pub text_of : List ℕ → Nodes → List ℕ
text_of n kids = read_or [] (child_named n kids)

abbrev pub zero' : Decimal
zero' = record { minus = false; before = []; after = [] }

abbrev pub float_of : List ℕ → Nodes → Decimal
float_of n kids = read_or zero' (read_float (text_of n kids))

abbrev pub moment_of : List ℕ → Nodes → List ℕ
moment_of n kids = read_or [] (read_date_time xcal (text_of n kids))

abbrev pub period_of : Option (List ℕ) → Nodes → Value
period_of None kids = period_explicit (moment_of (ascii "start") kids) (moment_of (ascii "end") kids)
period_of (Some s) kids = period_start (moment_of (ascii "start") kids) (read_or [] (read_duration xcal s))

-- the items of a rule part: its elements in order
unfoldable pub items_of : List ℕ → Nodes → List RuleItem
items_of n no_nodes = []
items_of n (literal p b more) = items_of n more
items_of n (referred p bs more) = items_of n more
items_of n (element p m x kids more) = pick (same m (lower n)) (read_or (word []) (read_item xcal n (characters_of kids)) ∷ items_of n more) (items_of n more)

abbrev pub one_part : List ℕ → List RuleItem → List RulePart → List RulePart
one_part n [] ps = ps
one_part n (i ∷ is) ps = record { part = n; items = i ∷ is } ∷ ps

unfoldable pub parts_of : List (List ℕ) → Nodes → List RulePart
parts_of [] kids = []
parts_of (n ∷ ns) kids = one_part n (items_of n kids) (parts_of ns kids)

unfoldable pub value_of : ValueType → Nodes → Value
value_of t kids =
    pick (same_type t PERIOD) (period_of (child_named (ascii "duration") kids) kids)
    (pick (same_type t RECUR) (recur (parts_of part_names kids))
    (read_or (text []) (read_value xcal t (characters_of kids))))

abbrev pub one_of : Option ValueType → Nodes → List Value → List Value
one_of None kids vs = vs
one_of (Some t) kids vs = value_of t kids ∷ vs

unfoldable pub typed_values : Nodes → List Value
typed_values no_nodes = []
typed_values (literal p b more) = typed_values more
typed_values (referred p bs more) = typed_values more
typed_values (element p m x kids more) = one_of (element_type m) kids (typed_values more)

unfoldable pub read_value_nodes : List ℕ → Nodes → List Value
read_value_nodes n kids =
    pick (same n (ascii "GEO")) (geo (float_of (ascii "latitude") kids) (float_of (ascii "longitude") kids) ∷ [])
    (pick (same n (ascii "REQUEST-STATUS")) (request_status (text_of (ascii "code") kids) (text_of (ascii "description") kids) (child_named (ascii "data") kids) ∷ [])
    (typed_values kids))
