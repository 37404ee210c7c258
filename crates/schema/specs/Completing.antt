-- Whether the tallies of a component are the schema's, from its number, the array of tallies and the action that its ACTION names.
--     often_in          a tally as often as an entry of the table says by the list l
--     half_often, all_often   every property of a half of the table, and of the whole
--     pairs_at, complete_at, method_at  the tests of Counts over the array
--     action_named      the action that a word names;   alarm_action: that of the word of ACTION, if there is one;   list_of: the number of its list
--     alarm_often       the test of all properties by the list of an action
-- A list has the number of its column in the table: a component's number, and from VALARM's on one for each word of ACTION; 11 is no list's number.
use Rattle.std.specs.Prelude.{Bool, true, false, List, map, ℕ, ◌+◌, eqb, leb, ltb, get_or, Option, None, Some}
use Rattle.bits.specs.Masks.{has}
use Rattle.octets.specs.Pick.{pick, ◌and◌, ◌or◌}
use Rattle.octets.specs.Reading.{and_then}
use Rattle.schema.specs.Properties.{unrecognised_property}
use Rattle.schema.specs.Components.{alarm_table}
use Rattle.schema.specs.Counts.{Around}
use Rattle.schema.specs.Numbers.{property_at}
use Rattle.schema.specs.Arrays.{each_from}
use Rattle.schema.specs.Coded.{coded}
use Rattle.schema.specs.Sets.{word_in}
use Rattle.schema.specs.Property as property
use Rattle.schema.specs.declared.table.Entry.{Entry}
use Rattle.schema.specs.declared.Action.{Action}
use Rattle.schema.specs.declared.Action.TheVariants.{Audio, Display, Email}

unfoldable pub often_in : Entry → ℕ → ℕ → Bool
often_in e l n = pick (eqb n 0) (pick (has e.least l) false true) (pick (has e.many l) true (pick (has e.once l) (eqb n 1) false))

-- the entries of a half, the first of them the property `from`
unfoldable pub half_often : List Entry → ℕ → ℕ → List ℕ → Bool
half_often es from l t = each_from 0 23 (λ n. often_in (get_or es n (coded unrecognised_property)) l (get_or t (from + n) 0))

-- every property stands as often as the list l says
unfoldable pub all_often : ℕ → List ℕ → Bool
all_often l t = each_from 0 46 (λ n. often_in (coded (property_at n)) l (get_or t n 0))

abbrev pub list_of : Action → ℕ
list_of Audio = 8
list_of Display = 9
list_of Email = 10

-- a VALARM whose ACTION names no action has no list that it meets
abbrev pub alarm_often : Option Action → List ℕ → Bool
alarm_often None t = false
alarm_often (Some a) t = all_often (list_of a) t

-- 8 is VALARM, whose list its ACTION names; an unrecognised component has no list
abbrev pub often_at : ℕ → List ℕ → Option Action → Bool
often_at k t a = pick (eqb k 8) (alarm_often a t) (pick (ltb k 9) (all_often k t) true)

-- 1 is VEVENT, 2 VTODO, 5 VTIMEZONE
abbrev pub pairs_at : ℕ → List ℕ → Around → Bool
pairs_at k t around =
    pick (eqb k 1) ((around.method or eqb (get_or t property.DTSTART 0) 1) and (eqb (get_or t property.DTEND 0) 0 or eqb (get_or t property.DURATION 0) 0))
    (pick (eqb k 2) (eqb (get_or t property.DURATION 0) 0 or (eqb (get_or t property.DTSTART 0) 1 and eqb (get_or t property.DUE 0) 0))
    (pick (eqb k 5) around.inner
    (pick (eqb k 8) (eqb (get_or t property.DURATION 0) (get_or t property.REPEAT 0))
    true)))

abbrev pub complete_at : ℕ → List ℕ → Option Action → Around → Bool
complete_at k t a around = often_at k t a and pairs_at k t around

-- whether METHOD stands in the calendar of what is inside a component; 0 is VCALENDAR
abbrev pub method_at : ℕ → List ℕ → Bool → Bool
method_at k t m = pick (eqb k 0) (leb 1 (get_or t property.METHOD 0)) m

abbrev pub action_names : List (List ℕ)
action_names = map (λ r. r.action) alarm_table

-- by the place of its word
abbrev pub action_at : ℕ → Action
action_at i = pick (eqb i 0) Audio (pick (eqb i 1) Display Email)

abbrev pub action_named : List ℕ → Option Action
action_named w = and_then (word_in (Some action_names) w) (λ i. Some (action_at i))

abbrev pub alarm_action : Option (List ℕ) → Option Action
alarm_action None = None
alarm_action (Some w) = action_named w
