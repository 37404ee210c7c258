-- The properties of a component with the last first, as an open component keeps them: the schema's counts do not mind the order, for ACTION only matters in a VALARM, where it stands at most once.
--     turned ps seen     the properties ps, the last first, in front of those seen before
--     complete-turned, complete-turned_back    what is complete in one order is complete in the other
--     method_turned      and METHOD stands in both or in none
use Rattle.std.specs.Prelude.{◌≡◌, refl, Bool, true, false, List, [], ◌∷◌, ℕ, suc, ◌+◌, ◌≤◌, Option, None, Some}
use Rattle.std.proofs.Common.{sym, ◌∙◌, arith}
use Rattle.std.proofs.lemmas.Bool.{false≢true}
use Rattle.octets.specs.Ascii.{ascii}
use Rattle.octets.specs.Pick.{pick}
use Rattle.octets.specs.laws.Pick.{and_both}
use Rattle.octets.specs.Words.{same, is_one_of, row_of}
use Rattle.octets.specs.Lists.{every}
use Rattle.octets.specs.laws.Tables.{row_passes}
use Rattle.octets.specs.Reading.{and_then}
use Rattle.octets.specs.laws.Reading.{and_then-some}
use Rattle.octets.specs.Computing.{octets_compute}
use Rattle.calendar.specs.Calendar.{Property}
use Rattle.schema.specs.Components.{Occurrence, standing, alarm_table, alarm_occurrences, is_alarm}
use Rattle.schema.specs.Properties.{property_names, is_known_property}
use Rattle.schema.specs.Counts.{tally, occurrence_in, Around, method_for, first_text, action_of, list_for, often_for, complete}
use Rattle.schema.specs.laws.Tallies.{complete_same, complete_plain, often_at_lem}
use Rattle.schema.specs.laws.Completing.{is_once, once_short}

unfoldable pub turned : List Property → List Property → List Property
turned [] seen = seen
turned (p ∷ ps) seen = turned ps (p ∷ seen)

-- ---- tallies

tally-turned : (w : List ℕ) (ps seen : List Property) → tally w (turned ps seen) ≡ tally w ps + tally w seen
unfolding turned tally pick
tally-turned w [] seen = omega arith
tally-turned w (p ∷ ps) seen = tally-turned w ps (p ∷ seen) ∙ go (same w p.name)
  where
    go : (b : Bool) → tally w ps + pick b (suc (tally w seen)) (tally w seen) ≡ pick b (suc (tally w ps)) (tally w ps) + tally w seen
    go true = omega arith
    go false = refl

-- ---- ACTION stands at most once

abbrev action : List ℕ
action = ascii "ACTION"

abbrev is_once_in : List Occurrence → Bool
is_once_in os = is_once (occurrence_in os action).most

alarm_rows : every (λ r. is_once_in r.occurrences) alarm_table ≡ true
unfolding octets_compute standing
alarm_rows = refl

alarm_once : (a : Option (List ℕ)) (os : List Occurrence) → and_then a alarm_occurrences ≡ Some os → is_once_in os ≡ true
unfolding alarm_occurrences
alarm_once a os e =
    let f = and_then-some a alarm_occurrences os e in
    let g = and_then-some (row_of (λ r. r.action) f.0 alarm_table) (λ r. Some r.occurrences) os f.2 in
    let q : g.0.occurrences ≡ os = cc in
    rw (← q) (row_passes (λ r. r.action) f.0 (λ r. is_once_in r.occurrences) alarm_table g.0 alarm_rows g.1)

listed_once : (c : List ℕ) (ps : List Property) (os : List Occurrence) → is_alarm c ≡ true → list_for c ps ≡ Some os → is_once_in os ≡ true
unfolding pick
listed_once c ps os a h = alarm_once (action_of ps) os (rw a at h)

action_known : is_one_of action property_names ≡ true
unfolding octets_compute
action_known = refl

action_once : (c : List ℕ) (ps : List Property) (sub : Around) → is_alarm c ≡ true → complete c ps sub ≡ true → tally action ps ≤ 1
unfolding complete
action_once c ps sub a h = go (list_for c ps) refl (and_both _ _ h).0
  where
    go : (o : Option (List Occurrence)) → list_for c ps ≡ o → often_for o ps ≡ true → tally action ps ≤ 1
    go None e k = absurd (false≢true k)
    go (Some os) e k = once_short (occurrence_in os action).most (tally action ps) (listed_once c ps os a e) (and_both _ _ (often_at_lem property_names os ps action k action_known)).1

-- ---- the word of ACTION

no_action : (ps : List Property) → tally action ps ≡ 0 → action_of ps ≡ None
unfolding tally action_of pick
no_action [] h = refl
no_action (p ∷ ps) h = go (same action p.name) h (no_action ps)
  where
    go : (b : Bool) → pick b (suc (tally action ps)) (tally action ps) ≡ 0 → (tally action ps ≡ 0 → action_of ps ≡ None) → pick b (first_text p.values) (action_of ps) ≡ None
    go true k ih = absurd (omega arith)
    go false k ih = ih k

action_seen : (ps seen : List Property) → tally action ps ≡ 0 → action_of (turned ps seen) ≡ action_of seen
unfolding tally turned action_of pick
action_seen [] seen h = refl
action_seen (p ∷ ps) seen h = go (same action p.name) refl h (action_seen ps (p ∷ seen))
  where
    go : (b : Bool) → same action p.name ≡ b → pick b (suc (tally action ps)) (tally action ps) ≡ 0 → (tally action ps ≡ 0 → action_of (turned ps (p ∷ seen)) ≡ action_of (p ∷ seen)) →
        action_of (turned ps (p ∷ seen)) ≡ action_of seen
    go true e k ih = absurd (omega arith)
    go false e k ih = ih k ∙ rw e

action-turned : (ps seen : List Property) → tally action ps ≤ 1 → tally action seen ≡ 0 → action_of (turned ps seen) ≡ action_of ps
unfolding tally turned action_of pick
action-turned [] seen h n = no_action seen n
action-turned (p ∷ ps) seen h n = go (same action p.name) refl h (action-turned ps (p ∷ seen))
  where
    go : (b : Bool) → same action p.name ≡ b → pick b (suc (tally action ps)) (tally action ps) ≤ 1 →
        (tally action ps ≤ 1 → tally action (p ∷ seen) ≡ 0 → action_of (turned ps (p ∷ seen)) ≡ action_of ps) →
        action_of (turned ps (p ∷ seen)) ≡ pick b (first_text p.values) (action_of ps)
    go true e k ih = action_seen ps (p ∷ seen) (omega arith) ∙ rw e
    go false e k ih = ih k (rw e n)

all_turned : (ps : List Property) (w : List ℕ) → is_known_property w ≡ true → tally w (turned ps []) ≡ tally w ps
unfolding tally
all_turned ps w k = tally-turned w ps [] ∙ omega arith

same_turned : (c : List ℕ) (ps : List Property) (sub : Around) → (is_alarm c ≡ true → tally action ps ≤ 1) → complete c (turned ps []) sub ≡ complete c ps sub
unfolding tally
same_turned c ps sub n = go (is_alarm c) refl
  where
    go : (b : Bool) → is_alarm c ≡ b → complete c (turned ps []) sub ≡ complete c ps sub
    go true e = complete_same c sub (turned ps []) ps (all_turned ps) (action-turned ps [] (n e) refl)
    go false e = complete_plain c sub (turned ps []) ps e (all_turned ps)

pub complete-turned : (c : List ℕ) (ps : List Property) (sub : Around) → complete c ps sub ≡ true → complete c (turned ps []) sub ≡ true
complete-turned c ps sub h = same_turned c ps sub (λ a. action_once c ps sub a h) ∙ h

pub complete-turned_back : (c : List ℕ) (ps : List Property) (sub : Around) → complete c (turned ps []) sub ≡ true → complete c ps sub ≡ true
unfolding tally
complete-turned_back c ps sub h =
    sym (same_turned c ps sub (λ a. let e = tally-turned action ps [] in let n = action_once c (turned ps []) sub a h in omega arith)) ∙ h

pub method_turned : (c : List ℕ) (ps : List Property) (m : Bool) → method_for c (turned ps []) m ≡ method_for c ps m
unfolding method_for tally
method_turned c ps m =
    let e : tally (ascii "METHOD") (turned ps []) ≡ tally (ascii "METHOD") ps = tally-turned (ascii "METHOD") ps [] ∙ omega arith in
    rw e
