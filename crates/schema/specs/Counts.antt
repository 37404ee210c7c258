-- How often the properties of a component stand: the rules, refusal 9 (COUNT); schema 3.6, lines 392 to 638; RFC 5545, 3.6.1 and 3.6.2.
--     tally       how often a property stands in a component
--     action_of   the word of a component's first ACTION
--     Around      what stands around a component's properties: a subcomponent, and METHOD in the calendar that it stands in
--     method_for  whether METHOD stands in the calendar of what is inside a component: its own if it is a VCALENDAR, else the calendar round it
--     complete    whether the tallies of a component are as they must be: its name, its properties, what stands around them
-- The tally of every known property is compared with the component's list; one that is not in the list may not stand. Unrecognised properties count for nothing.
-- Pairs are judged by tallies, so that their order is free.
use Rattle.std.specs.Prelude.{Bool, true, false, List, [], ◌∷◌, ℕ, suc, eqb, leb, Option, None, Some}
use Rattle.octets.specs.Ascii.{ascii}
use Rattle.octets.specs.Pick.{pick, ◌and◌, ◌or◌}
use Rattle.octets.specs.Words.{same, row_of}
use Rattle.octets.specs.Reading.{and_then, read_or}
use Rattle.calendar.specs.Calendar.{Value, text_in, Property}
use Rattle.schema.specs.Components.{Occurrence, occurrences_of, alarm_occurrences, is_alarm}
use Rattle.schema.specs.Properties.{property_names}

unfoldable pub tally : List ℕ → List Property → ℕ
tally w [] = 0
tally w (p ∷ ps) = pick (same w p.name) (suc (tally w ps)) (tally w ps)

-- ---- each property by itself

-- a property that is not in the list
abbrev pub absent : List ℕ → Occurrence
absent w = record { property = w; least = 0; most = Some 0 }

abbrev pub occurrence_in : List Occurrence → List ℕ → Occurrence
occurrence_in os w = read_or (absent w) (row_of (λ o. o.property) w os)

-- no more than `most`, where there is one
abbrev pub is_at_most : Option ℕ → ℕ → Bool
is_at_most None n = true
is_at_most (Some m) n = leb n m

abbrev pub is_often : Occurrence → ℕ → Bool
is_often o n = leb o.least n and is_at_most o.most n

-- each of a list of names stands as often as the component's list says
unfoldable pub each_often : List (List ℕ) → List Occurrence → List Property → Bool
each_often [] os ps = true
each_often (w ∷ ws) os ps = is_often (occurrence_in os w) (tally w ps) and each_often ws os ps

-- ---- pairs

-- what stands around the properties of a component: `inner`, it has a subcomponent; `method`, the calendar round it has METHOD
pub record Around : Type 0 where
  pub inner : Bool
  pub method : Bool

abbrev pub has_method : List Property → Bool
has_method ps = leb 1 (tally (ascii "METHOD") ps)

-- for what is inside a component c with the properties ps, where m says whether the calendar round c has METHOD
unfoldable pub method_for : List ℕ → List Property → Bool → Bool
method_for c ps m = pick (same c (ascii "VCALENDAR")) (has_method ps) m

-- VEVENT, line 447: (property-dtend | property-duration)?. RFC 5545, 3.6.1: DTSTART is missing only where the calendar has METHOD
abbrev pub event_pair : List Property → Bool → Bool
event_pair ps method =
    (method or eqb (tally (ascii "DTSTART") ps) 1) and (eqb (tally (ascii "DTEND") ps) 0 or eqb (tally (ascii "DURATION") ps) 0)

-- VTODO. RFC 5545, 3.6.2: DUE or DURATION, not both, and DURATION only with DTSTART
abbrev pub todo_pair : List Property → Bool
todo_pair ps = eqb (tally (ascii "DURATION") ps) 0 or (eqb (tally (ascii "DTSTART") ps) 1 and eqb (tally (ascii "DUE") ps) 0)

-- VALARM, lines 614, 627, 637: (property-duration, property-repeat)?
abbrev pub alarm_pair : List Property → Bool
alarm_pair ps = eqb (tally (ascii "DURATION") ps) (tally (ascii "REPEAT") ps)

-- the pairs of a component; for a VTIMEZONE, line 577, its subcomponents: (component-standard | component-daylight) & ..
abbrev pub pairs_of : List ℕ → List Property → Around → Bool
pairs_of c ps around =
    pick (same c (ascii "VEVENT")) (event_pair ps around.method)
    (pick (same c (ascii "VTODO")) (todo_pair ps)
    (pick (same c (ascii "VTIMEZONE")) around.inner
    (pick (is_alarm c) (alarm_pair ps)
    true)))

-- ---- the list that decides

abbrev pub first_text : List Value → Option (List ℕ)
first_text [] = None
first_text (v ∷ vs) = text_in v

unfoldable pub action_of : List Property → Option (List ℕ)
action_of [] = None
action_of (p ∷ ps) = pick (same (ascii "ACTION") p.name) (first_text p.values) (action_of ps)

-- of a VALARM the list that its ACTION names; none without one
abbrev pub list_for : List ℕ → List Property → Option (List Occurrence)
list_for c ps = pick (is_alarm c) (and_then (action_of ps) alarm_occurrences) (Some (occurrences_of c))

abbrev pub often_for : Option (List Occurrence) → List Property → Bool
often_for None ps = false
often_for (Some os) ps = each_often property_names os ps

unfoldable pub complete : List ℕ → List Property → Around → Bool
complete c ps around = often_for (list_for c ps) ps and pairs_of c ps around
