-- An unrecognised component: every property may stand in it, any number of times.
--     unknown_often     however often they stand
--     unknown_stands    a known property
--     outside_row       a component that is no row;   contains_some: one that may contain another has subcomponents
use Rattle.std.specs.Prelude.{◌≡◌, refl, Bool, true, false, List, [], ◌∷◌, ℕ, eqb, leb, Option, None, Some}
use Rattle.std.proofs.Common.{ap, ◌∙◌, arith, eqb-true, le-leb}
use Rattle.std.proofs.lemmas.Bool.{false≢true, not-true}
use Rattle.octets.specs.Pick.{◌and◌}
use Rattle.octets.specs.laws.Pick.{and_yes, and_both, or_cases}
use Rattle.octets.specs.Words.{same, is_one_of, is_empty}
use Rattle.octets.specs.laws.Words.{same_true}
use Rattle.octets.specs.laws.Tables.{row_none}
use Rattle.octets.specs.Reading.{read_or}
use Rattle.octets.specs.Ascii.{ascii}
use Rattle.octets.specs.Lists.{every}
use Rattle.octets.specs.laws.Lists.{every_both}
use Rattle.octets.specs.Computing.{octets_compute}
use Rattle.calendar.specs.Calendar.{Property}
use Rattle.schema.specs.Components.{Occurrence, ComponentRow, component_table, component_names, component_row, unknown_component, subcomponents_of, is_known_component, holds_unknown, may_contain, may_stand}
use Rattle.schema.specs.Properties.{property_names, is_known_property}
use Rattle.schema.specs.Counts.{tally, occurrence_in, is_at_most, each_often}

-- ---- how often

abbrev free_by : ℕ → Option ℕ → Bool
free_by l None = eqb l 0
free_by l (Some m) = false

abbrev is_free : Occurrence → Bool
is_free o = free_by o.least o.most

free_by_lem : (l : ℕ) (m : Option ℕ) (n : ℕ) → free_by l m ≡ true → (leb l n and is_at_most m n) ≡ true
free_by_lem l None n h = and_yes _ _ (rw (eqb-true l 0 h) (le-leb 0 n (omega arith))) refl
free_by_lem l (Some m) n h = absurd (false≢true h)

free_each : (ws : List (List ℕ)) (os : List Occurrence) (ps : List Property) → every (λ w. is_free (occurrence_in os w)) ws ≡ true → each_often ws os ps ≡ true
unfolding each_often
free_each [] os ps h = refl
free_each (w ∷ ws) os ps h =
    let a = every_both (λ w. is_free (occurrence_in os w)) w ws h in
    and_yes _ _ (free_by_lem (occurrence_in os w).least (occurrence_in os w).most (tally w ps) a.0) (free_each ws os ps a.1)

all_free : every (λ w. is_free (occurrence_in unknown_component.occurrences w)) property_names ≡ true
unfolding octets_compute
all_free = refl

pub unknown_often : (ps : List Property) → each_often property_names unknown_component.occurrences ps ≡ true
unknown_often ps = free_each property_names unknown_component.occurrences ps all_free

-- ---- where

pub unknown_stands : (w : List ℕ) → may_stand [] w ≡ is_known_property w
unfolding octets_compute may_stand component_row is_known_property
unknown_stands w = refl

pub outside_row : (c : List ℕ) → is_one_of c component_names ≡ false → component_row c ≡ unknown_component
unfolding component_row read_or
outside_row c u = rw (row_none (λ r. r.name) c component_table u)

calendar_some : is_empty (subcomponents_of (ascii "VCALENDAR")) ≡ false
unfolding octets_compute component_row
calendar_some = refl

pub contains_some : (k c : List ℕ) → may_contain k c ≡ true → is_empty (subcomponents_of k) ≡ false
unfolding may_contain is_known_component is_one_of
contains_some k c h = or_cases (is_one_of c (subcomponents_of k)) _ h (λ e. some_word (subcomponents_of k) e)
    (λ e. or_cases (same k (ascii "VCALENDAR")) _ (and_both (holds_unknown k) _ e).0 calendar (λ u. ap (λ (r : ComponentRow). is_empty r.subcomponents) (outside_row k (not-true _ u))))
  where
    some_word : (ws : List (List ℕ)) → is_one_of c ws ≡ true → is_empty ws ≡ false
    some_word [] e = absurd (false≢true e)
    some_word (w ∷ ws) e = refl

    calendar : same k (ascii "VCALENDAR") ≡ true → is_empty (subcomponents_of k) ≡ false
    calendar e = ap (λ (w : List ℕ). is_empty (subcomponents_of w)) (same_true k (ascii "VCALENDAR") e) ∙ calendar_some
