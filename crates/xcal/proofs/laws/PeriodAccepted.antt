-- PERIOD (RFC 6321, section 3.6.9): elements that are not refused state a period.
--     period_value       the value that they state is one
--     read_passes, read_some    of a reading that did not fail
use Rattle.std.specs.Prelude.{◌≡◌, Bool, not, ℕ, Option, None, Some}
use Rattle.std.proofs.Math.Path.{refl, sym, ap}
use Rattle.std.proofs.Common.{◌∙◌}
use Rattle.std.proofs.Math.Bool.{true, false}
use Rattle.std.proofs.lemmas.Bool.{false≢true}
use mathlib.Core.List.{List, []}
use Rattle.octets.specs.Ascii.{ascii}
use Rattle.octets.specs.Pick.{pick, ◌and◌, ◌or◌}
use Rattle.octets.specs.laws.Pick.{and_yes, or_cases}
use Rattle.octets.specs.Words.{same, is_one_of}
use Rattle.octets.specs.Lists.{any_one}
use Rattle.octets.specs.Reading.{is_read, read_or}
use Rattle.octets.specs.laws.Reading.{read_some}
use Rattle.octets.specs.Computing.{octets_compute}
use Rattle.calendar.specs.Calendar.{xcal}
use Rattle.calendar.specs.Refusal.{fine}
use Rattle.times.specs.DateTime.{is_date_time, read_date_time}
use Rattle.times.specs.laws.DateTime.{date_time_accepted}
use Rattle.times.specs.Duration.{is_duration, read_duration}
use Rattle.times.specs.laws.Duration.{duration_accepted}
use Rattle.values.specs.ReadBack.{is_value}
use Rattle.xml.specs.Nodes.{Nodes, characters_of}
use Rattle.xcal.specs.Layout.{lacks, sequence}
use Rattle.xcal.specs.ValueNodes.{period_slots, period_inside, child_named, moment_of, period_of}
use Rattle.xcal.proofs.laws.Accepted.{all_children, comes, leaf_accepted, sequence_each, sequence-comes, comes_named, child_good}

-- what was read passes what every reading passes
pub read_passes : {A : Type 0} (d : A) (o : Option A) (good : A → Bool) → is_read o ≡ true → ((a : A) → o ≡ Some a → good a ≡ true) → good (read_or d o) ≡ true
unfolding is_read read_or
read_passes d None good h f = absurd (false≢true h)
read_passes d (Some a) good h f = f a refl

-- a child's characters are a duration, or a date-time
abbrev is_part : List ℕ → Nodes → Bool
is_part n kids = pick (same n (ascii "duration")) (is_read (read_duration xcal (characters_of kids))) (is_read (read_date_time xcal (characters_of kids)))

period_filled : (seen : List (List ℕ)) → lacks period_slots seen ≡ false → (is_one_of (ascii "start") seen ≡ true) × ((is_one_of (ascii "end") seen or is_one_of (ascii "duration") seen) ≡ true)
unfolding lacks any_one ◌and◌ ◌or◌
period_filled seen h = go (is_one_of (ascii "start") seen) (is_one_of (ascii "end") seen) (is_one_of (ascii "duration") seen) h
  where
    go : (s e d : Bool) → (not (s or false) or (not (e or (d or false)) or false)) ≡ false → (s ≡ true) × ((e or d) ≡ true)
    go false e d k = absurd (false≢true (sym k))
    go true true d k = (refl, refl)
    go true false true k = (refl, refl)
    go true false false k = absurd (false≢true (sym k))

module _ (kids : Nodes) (e : ℕ) (h : sequence period_slots period_inside kids 0 [] e ≡ fine) where
  each : all_children is_part kids ≡ true
  unfolding period_inside
  each = sequence_each period_slots period_inside is_part (λ p m x inner k. (leaf_accepted (λ s. pick (same m (ascii "duration")) (is_read (read_duration xcal s)) (is_read (read_date_time xcal s))) p inner k).0) kids 0 [] e h

  has : (is_read (child_named (ascii "start") kids) ≡ true) × ((is_read (child_named (ascii "end") kids) or is_read (child_named (ascii "duration") kids)) ≡ true)
  unfolding is_one_of ◌or◌
  has =
      let f = period_filled (comes kids []) (sequence-comes period_slots period_inside kids 0 [] e h) in (
        sym (comes_named (ascii "start") kids []) ∙ f.0,
        ap (λ (b : Bool). b or is_read (child_named (ascii "duration") kids)) (sym (comes_named (ascii "end") kids []))
            ∙ ap (λ (b : Bool). is_one_of (ascii "end") (comes kids []) or b) (sym (comes_named (ascii "duration") kids [])) ∙ f.1,
      )

  moment_good : (n : List ℕ) → same n (ascii "duration") ≡ false → is_read (child_named n kids) ≡ true → is_date_time (moment_of n kids) ≡ true
  unfolding pick read_or
  moment_good n o k =
      let c = read_some (child_named n kids) k in
      let g = child_good n is_part kids c.0 each c.1 in
      rw c.1 (read_passes [] (read_date_time xcal c.0) is_date_time (ap (λ (s : List ℕ). is_read (read_date_time xcal s)) (sym g.1) ∙ (rw o at g.2)) (λ a z. date_time_accepted xcal c.0 a z))

  pub period_value : is_value (period_of (child_named (ascii "duration") kids) kids) ≡ true
  unfolding octets_compute
  period_value = go (child_named (ascii "duration") kids) refl has.1
    where
      go : (o : Option (List ℕ)) → child_named (ascii "duration") kids ≡ o → (is_read (child_named (ascii "end") kids) or is_read o) ≡ true → is_value (period_of o kids) ≡ true
      go None c k = and_yes _ _ (moment_good (ascii "start") refl has.0) (moment_good (ascii "end") refl (or_cases _ false k (λ x. x) (λ x. absurd (false≢true x))))
      go (Some s) c k =
          let g = child_good (ascii "duration") is_part kids s each c in
          and_yes _ _ (moment_good (ascii "start") refl has.0)
          (read_passes [] (read_duration xcal s) is_duration (ap (λ (t : List ℕ). is_read (read_duration xcal t)) (sym g.1) ∙ g.2) (λ a z. duration_accepted xcal s a z))
