-- Laws of counting: only tallies and the word of ACTION matter, unrecognised properties count for nothing, and what is complete holds only what may stand.
--     complete_same           the tallies of known properties and the word of ACTION decide;   complete_plain: outside a VALARM the tallies alone
--     complete_unrecognised   an unrecognised property changes nothing
--     complete_stands         every known property of a complete component may stand in it
use Rattle.std.specs.Prelude.{◌≡◌, refl, Bool, true, false, List, [], ◌∷◌, map, ℕ, ◌≤◌, Option, None, Some}
use Rattle.std.proofs.Common.{sym, ap, ◌∙◌, arith, leb-true}
use Rattle.std.proofs.lemmas.Bool.{false≢true}
use Rattle.octets.specs.Ascii.{ascii}
use Rattle.octets.specs.Pick.{pick, ◌and◌, ◌or◌}
use Rattle.octets.specs.laws.Pick.{or_left, or_right, and_both}
use Rattle.octets.specs.Append.{◌⊕◌}
use Rattle.octets.specs.Words.{same, is_one_of, row_of}
use Rattle.octets.specs.laws.Words.{same_self, same_true, same_apart}
use Rattle.octets.specs.laws.Tables.{row_none, row_passes}
use Rattle.octets.specs.Lists.{every}
use Rattle.octets.specs.laws.Lists.{word_passes}
use Rattle.octets.specs.Reading.{and_then, read_or}
use Rattle.octets.specs.laws.Reading.{none-some}
use Rattle.octets.specs.Computing.{octets_compute}
use Rattle.calendar.specs.Calendar.{Property}
use Rattle.schema.specs.Components.{Occurrence, AlarmRow, standing, alarm_table, audioprop, dispprop, emailprop, may_stand, is_alarm, alarm_occurrences, occurrences_of}
use Rattle.schema.specs.Properties.{property_names, is_known_property}
use Rattle.schema.specs.Counts.{tally, absent, each_often, occurrence_in, is_often, Around, pairs_of, action_of, list_for, often_for, complete}

-- ---- the tallies decide

each_often_same : (ws : List (List ℕ)) (os : List Occurrence) (ps qs : List Property) →
    ((w : List ℕ) → is_one_of w ws ≡ true → tally w ps ≡ tally w qs) → each_often ws os ps ≡ each_often ws os qs
unfolding each_often is_one_of
each_often_same [] os ps qs h = refl
each_often_same (w ∷ ws) os ps qs h = rw (h w (here w), each_often_same ws os ps qs (λ v k. h v (later v k)))
  where
    here : (v : List ℕ) → (same v v or is_one_of v ws) ≡ true
    here v = or_left _ _ (same_self v)

    later : (v : List ℕ) → is_one_of v ws ≡ true → (same v w or is_one_of v ws) ≡ true
    later v k = or_right (same v w) (is_one_of v ws) k

often_same : (o : Option (List Occurrence)) (ps qs : List Property) → ((w : List ℕ) → is_known_property w ≡ true → tally w ps ≡ tally w qs) → often_for o ps ≡ often_for o qs
unfolding is_known_property
often_same None ps qs h = refl
often_same (Some os) ps qs h = each_often_same property_names os ps qs h

pairs_same : (c : List ℕ) (sub : Around) (ps qs : List Property) → ((w : List ℕ) → is_known_property w ≡ true → tally w ps ≡ tally w qs) → pairs_of c ps sub ≡ pairs_of c qs sub
unfolding octets_compute is_known_property
pairs_same c sub ps qs h = rw (h (ascii "DTSTART") refl, h (ascii "DTEND") refl, h (ascii "DUE") refl, h (ascii "DURATION") refl, h (ascii "REPEAT") refl)

pub complete_same : (c : List ℕ) (sub : Around) (ps qs : List Property) →
    ((w : List ℕ) → is_known_property w ≡ true → tally w ps ≡ tally w qs) → action_of ps ≡ action_of qs → complete c ps sub ≡ complete c qs sub
unfolding complete
complete_same c sub ps qs h a = rw (a, often_same (list_for c qs) ps qs h, pairs_same c sub ps qs h)

-- ACTION only matters in a VALARM
plain_list : (c : List ℕ) (ps : List Property) → is_alarm c ≡ false → list_for c ps ≡ Some (occurrences_of c)
unfolding pick
plain_list c ps a = rw a

pub complete_plain : (c : List ℕ) (sub : Around) (ps qs : List Property) → is_alarm c ≡ false →
    ((w : List ℕ) → is_known_property w ≡ true → tally w ps ≡ tally w qs) → complete c ps sub ≡ complete c qs sub
unfolding complete
complete_plain c sub ps qs a h =
    ap (λ (o : Option (List Occurrence)). often_for o ps and pairs_of c ps sub) (plain_list c ps a)
    ∙ ap (λ (b : Bool). b and pairs_of c ps sub) (often_same (Some (occurrences_of c)) ps qs h)
    ∙ ap (λ (b : Bool). often_for (Some (occurrences_of c)) qs and b) (pairs_same c sub ps qs h)
    ∙ ap (λ (o : Option (List Occurrence)). often_for o qs and pairs_of c qs sub) (sym (plain_list c qs a))

-- ---- unrecognised properties

pub complete_unrecognised : (c : List ℕ) (sub : Around) (p : Property) (ps : List Property) → is_known_property p.name ≡ false → complete c (p ∷ ps) sub ≡ complete c ps sub
unfolding octets_compute is_known_property tally action_of
complete_unrecognised c sub p ps u = complete_same c sub (p ∷ ps) ps
    (λ w k. rw (same_apart is_known_property w p.name k u))
    (rw (same_apart is_known_property (ascii "ACTION") p.name refl u))

-- ---- only what may stand

-- the tally of one of the names
pub often_at_lem : (ws : List (List ℕ)) (os : List Occurrence) (ps : List Property) (w : List ℕ) → each_often ws os ps ≡ true → is_one_of w ws ≡ true →
    is_often (occurrence_in os w) (tally w ps) ≡ true
unfolding each_often is_one_of ◌or◌
often_at_lem [] os ps w a h = absurd (false≢true h)
often_at_lem (v ∷ ws) os ps w a h = go (same w v) refl h (often_at_lem ws os ps w (and_both _ _ a).1)
  where
    go : (b : Bool) → same w v ≡ b → (b or is_one_of w ws) ≡ true → (is_one_of w ws ≡ true → is_often (occurrence_in os w) (tally w ps) ≡ true) →
        is_often (occurrence_in os w) (tally w ps) ≡ true
    go true e k ih = rw (same_true w v e) (and_both _ _ a).0
    go false e k ih = ih k

-- a property that is not in the list
often_absent : (os : List Occurrence) (ps : List Property) (w : List ℕ) → is_one_of w (map (λ o. o.property) os) ≡ false → is_often (occurrence_in os w) (tally w ps) ≡ true → tally w ps ≡ 0
unfolding read_or
often_absent os ps w n h = go (rw (row_none (λ o. o.property) w os n) at h)
  where
    go : is_often (absent w) (tally w ps) ≡ true → tally w ps ≡ 0
    go k = let l : tally w ps ≤ 0 = leb-true _ _ (and_both _ _ k).1 in omega arith

-- what a component's list has may stand in it
abbrev names_in : List Occurrence → List (List ℕ)
names_in os = map (λ o. o.property) os

is_alarm_name : List ℕ → Bool
is_alarm_name w = is_one_of w (names_in (audioprop ⊕ dispprop ⊕ emailprop))

alarm_rows : every (λ r. every is_alarm_name (names_in r.occurrences)) alarm_table ≡ true
unfolding octets_compute standing is_alarm_name
alarm_rows = refl

alarm_names : (a : Option (List ℕ)) (os : List Occurrence) → and_then a alarm_occurrences ≡ Some os → every is_alarm_name (names_in os) ≡ true
unfolding and_then alarm_occurrences
alarm_names None os e = none-some e
alarm_names (Some a) os e = go (row_of (λ r. r.action) a alarm_table) refl e
  where
    go : (o : Option AlarmRow) → row_of (λ r. r.action) a alarm_table ≡ o → and_then o (λ r. Some r.occurrences) ≡ Some os → every is_alarm_name (names_in os) ≡ true
    go None f k = none-some k
    go (Some r) f k =
        let q : r.occurrences ≡ os = cc in
        rw q at (row_passes (λ r. r.action) a (λ r. every is_alarm_name (names_in r.occurrences)) alarm_table r alarm_rows f)

listed_stands : (c : List ℕ) (ps : List Property) (os : List Occurrence) (w : List ℕ) → list_for c ps ≡ Some os → is_one_of w (names_in os) ≡ true → may_stand c w ≡ true
unfolding may_stand pick is_alarm_name
listed_stands c ps os w e h = go (is_alarm c) e
  where
    go : (b : Bool) → pick b (and_then (action_of ps) alarm_occurrences) (Some (occurrences_of c)) ≡ Some os →
        is_one_of w (names_in (pick b (audioprop ⊕ dispprop ⊕ emailprop) (occurrences_of c))) ≡ true
    go true k = word_passes is_alarm_name (names_in os) w (alarm_names (action_of ps) os k) h
    go false k = let q : occurrences_of c ≡ os = cc in rw q h

pub complete_stands : (c : List ℕ) (sub : Around) (ps : List Property) (w : List ℕ) → complete c ps sub ≡ true → is_known_property w ≡ true → may_stand c w ≡ false → tally w ps ≡ 0
unfolding complete is_known_property
complete_stands c sub ps w h k n = go (list_for c ps) refl (and_both _ _ h).0
  where
    none_listed : (os : List Occurrence) → list_for c ps ≡ Some os → (b : Bool) → is_one_of w (names_in os) ≡ b → b ≡ false
    none_listed os e true f = absurd (false≢true (sym n ∙ listed_stands c ps os w e f))
    none_listed os e false f = refl

    go : (o : Option (List Occurrence)) → list_for c ps ≡ o → often_for o ps ≡ true → tally w ps ≡ 0
    go None e a = absurd (false≢true a)
    go (Some os) e a = often_absent os ps w (none_listed os e _ refl) (often_at_lem property_names os ps w a k)
