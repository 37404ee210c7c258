-- The children of PERIOD and RECUR, by the numbers of their names. `rule` is true for RECUR.
--     names_of, slots_of    the names of the children, and their slots
--     after_at              the slot after a child, by its number
use Rattle.std.specs.Prelude.{Bool, true, false, List, [], ◌∷◌, ℕ, ◌+◌, ◌-◌, ltb, Option, None, Some}
use Rattle.octets.specs.Ascii.{ascii}
use Rattle.octets.specs.Pick.{pick, within}
use Rattle.xcal.specs.Layout.{Slot}
use Rattle.xcal.specs.ValueNodes.{period_slots, recur_slots}

abbrev pub recur_names : List (List ℕ)
recur_names =
    ascii "freq" ∷ ascii "until" ∷ ascii "count" ∷ ascii "interval" ∷ ascii "bysecond" ∷ ascii "byminute" ∷ ascii "byhour" ∷ ascii "byday"
    ∷ ascii "bymonthday" ∷ ascii "byyearday" ∷ ascii "byweekno" ∷ ascii "bymonth" ∷ ascii "bysetpos" ∷ ascii "wkst" ∷ []

abbrev pub period_names : List (List ℕ)
period_names = ascii "start" ∷ ascii "end" ∷ ascii "duration" ∷ []

abbrev pub names_of : Bool → List (List ℕ)
names_of true = recur_names
names_of false = period_names

abbrev pub slots_of : Bool → List Slot
slots_of true = recur_slots
slots_of false = period_slots

abbrev pub count_of : Bool → ℕ
count_of true = 14
count_of false = 3

-- ---- the slot of a child

-- until and count have one slot, as end and duration have
abbrev pub slot_number : ℕ → ℕ
slot_number i = pick (ltb i 2) i (i - 1)

abbrev pub after_at : Bool → ℕ → ℕ → Option ℕ
after_at rule i next =
    pick (ltb i (count_of rule))
    (pick (ltb (slot_number i) next) None (pick (within 4 12 i) (Some (slot_number i)) (Some (slot_number i + 1))))
    None
