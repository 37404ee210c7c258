-- Laws of what specs/PeriodAt.antt defines.
--     cutting    its rules
use Rattle.std.specs.Prelude.{◌≡◌, refl, Bool, List, [], ◌∷◌, ℕ, eqb, Option, None, Some, is_some}
use Rattle.std.proofs.Math.Path.{sym, ap}
use Rattle.std.proofs.Common.{◌∙◌, arith, rules}
use Rattle.std.proofs.Math.Bool.{true, false}
use Rattle.std.proofs.lemmas.Bool.{false≢true}
use borrow.Author.Tests.{eqb-true, eq-eqb, ne_eqb}
use Rattle.octets.specs.Pick.{pick}
use Rattle.octets.specs.Reading.{and_then, is_read}
use Rattle.octets.specs.laws.Reading.{provided-some}
use Rattle.calendar.specs.Calendar.{ical, period_start}
use Rattle.source.specs.Source.{rest, spell}
use Rattle.source.specs.declared.points.Unit.{Unit}
use Rattle.times.specs.Spelling.{keep}
use Rattle.times.specs.Letters.{cased, Spells}
use Rattle.times.specs.Followed.{walked, Walks}
use Rattle.times.specs.DateTime.{is_date_time, read_date_time}
use Rattle.times.specs.DateTimeAlong.{date_time_pattern, moment_by, date_time_of, moment_of}
use Rattle.times.specs.Duration.{duration_of, read_duration}
use Rattle.times.specs.declared.follow.Walk.{Walk}
use Rattle.times.specs.declared.period.Cut.{Cut}
use Rattle.times.specs.declared.period.Period.{Period}
use Rattle.times.specs.declared.date_time.DateTime.{DateTime}
use Rattle.times.specs.declared.time.Zone.{Zone}
use Rattle.times.specs.declared.time.Zone.TheVariants.{Local, Utc}
use Rattle.times.specs.Period.{read_period}
use Rattle.times.specs.PeriodAlong.{slashed, after_start, period_upper, period_by, cut_period, period_after, cut, uncut}
use Rattle.times.specs.laws.PeriodAlong.{period_along}
use Rattle.times.specs.PeriodAt.{Cuts, Periods}

slashed-spell : (z : Zone) (u : ℕ) (l : List ℕ) → slashed z (spell u l) ≡ pick (eqb u 47) (cut z l) uncut
unfolding slashed spell pick
slashed-spell z u l = go (eqb u 256) refl
  where
    go : (t : Bool) → eqb u 256 ≡ t → slashed z (pick t [] (u ∷ l)) ≡ pick (eqb u 47) (cut z l) uncut
    go true e = rw (eqb-true u 256 e)
    go false e = refl

start_spell : (u : ℕ) (l : List ℕ) → after_start (spell u l) ≡ pick (eqb u 47) (cut Local l) (pick (eqb u 90) (slashed Utc l) uncut)
unfolding after_start spell pick
start_spell u l = go (eqb u 256) refl
  where
    go : (t : Bool) → eqb u 256 ≡ t → after_start (pick t [] (u ∷ l)) ≡ pick (eqb u 47) (cut Local l) (pick (eqb u 90) (slashed Utc l) uncut)
    go true e = rw (eqb-true u 256 e)
    go false e = refl

module _ {m : ℕ} {s : List ℕ} {c : ℕ} {a : Unit} (p : Spells false m s c a) where
  here : after_start (cased false (rest m s c)) ≡ pick (eqb a.u 47) (cut Local (cased false (rest m s a.next))) (pick (eqb a.u 90) (slashed Utc (cased false (rest m s a.next))) uncut)
  here = ap after_start p.is ∙ start_spell a.u _

  pub cut_slash : a.u ≡ 47 → Cuts m s c (Some (record { zone = Local; next = a.next }))
  unfolding pick
  cut_slash h = record { is = here ∙ rw (eq-eqb a.u 47 h) }

  pub cut_other : (a.u ≡ 47 → ⊥) → (a.u ≡ 90 → ⊥) → Cuts m s c None
  unfolding pick
  cut_other h k = record { is = here ∙ rw (ne_eqb a.u 47 h, ne_eqb a.u 90 k) }

  module _ {b : Unit} (q : Spells false m s a.next b) (h : a.u ≡ 90) where
    there : after_start (cased false (rest m s c)) ≡ pick (eqb b.u 47) (cut Utc (cased false (rest m s b.next))) uncut
    unfolding pick
    there = here ∙ rw (ne_eqb a.u 47 (omega arith), eq-eqb a.u 90 h) (ap (slashed Utc) q.is ∙ slashed-spell Utc b.u _)

    pub cut_z : b.u ≡ 47 → Cuts m s c (Some (record { zone = Utc; next = b.next }))
    unfolding pick
    cut_z k = record { is = there ∙ rw (eq-eqb b.u 47 k) }

    pub cut_z_other : (b.u ≡ 47 → ⊥) → Cuts m s c None
    unfolding pick
    cut_z_other k = record { is = there ∙ rw (ne_eqb b.u 47 k) }

pub ruleset cutting = (cut_slash, cut_other, cut_z, cut_z_other, rules)

kept_test : (test : List ℕ → Bool) (l v : List ℕ) → keep test l ≡ Some v → test l ≡ true
unfolding keep
kept_test test l v h = (provided-some (test l) l v h).0

kept_none : (test : List ℕ → Bool) (l : List ℕ) → keep test l ≡ None → test l ≡ false
unfolding keep pick
kept_none test l h = go (test l) h
  where
    go : (t : Bool) → pick t (Some l) None ≡ None → t ≡ false
    go true q = let z : ◌≡◌ {A = ℕ} 0 1 = cc in absurd (omega arith)
    go false q = refl

pub end_read : (l : List ℕ) → read_date_time ical l ≡ keep is_date_time (cased false l)
unfolding read_date_time cased
end_read l = refl

pub duration_read : (l : List ℕ) → read_duration ical l ≡ duration_of (cased false l)
unfolding read_duration cased
duration_read l = refl

module _ (t : DateTime) (m : ℕ) (s : List ℕ) (c : ℕ) where
  abbrev Ends : Option Period → Type 0
  Ends r = Periods (period_upper (date_time_of t) (cased false (rest m s c))) m s r

  pub ends_explicit : (r : Option DateTime) → read_date_time ical (rest m s c) ≡ moment_of r → is_some r ≡ true → Ends (Some (record { start = t; explicit = true; at = c }))
  unfolding period_upper pick is_read
  ends_explicit None h y = absurd (false≢true y)
  ends_explicit (Some u) h y =
      let e = kept_test is_date_time _ (date_time_of u) (sym (end_read (rest m s c)) ∙ h) in
      record { is = simp e; good = simp e }

  module _ (r : Option DateTime) (g : read_date_time ical (rest m s c) ≡ moment_of r) (n : is_some r ≡ false) where
    no_end : (r : Option DateTime) → is_some r ≡ false → moment_of r ≡ None
    no_end None y = refl
    no_end (Some u) y = absurd (false≢true (sym y))

    h : read_date_time ical (rest m s c) ≡ None
    h = g ∙ no_end r n

    no_explicit : period_upper (date_time_of t) (cased false (rest m s c)) ≡ and_then (duration_of (cased false (rest m s c))) (λ d. Some (period_start (date_time_of t) d))
    unfolding period_upper pick
    no_explicit = simp (kept_none is_date_time _ (sym (end_read (rest m s c)) ∙ h))

    pub ends_duration : {v : List ℕ} → read_duration ical (rest m s c) ≡ Some v → Ends (Some (record { start = t; explicit = false; at = c }))
    unfolding pick is_read and_then
    ends_duration {v} e =
        let d = sym (duration_read (rest m s c)) ∙ e in
        record { is = no_explicit; good = rw (no_explicit, d) }

    pub ends_not : read_duration ical (rest m s c) ≡ None → Ends None
    unfolding is_read and_then
    ends_not e =
        let d = sym (duration_read (rest m s c)) ∙ e in
        let z : period_upper (date_time_of t) (cased false (rest m s c)) ≡ None = no_explicit ∙ rw d in
        record { is = z; good = rw z }

module _ {m : ℕ} {s : List ℕ} {c : ℕ} {w : Option Walk} (p : Walks (date_time_pattern ical) false m s c w) where
  followed : read_period (rest m s c) ≡ period_after (walked false m s w)
  unfolding cased
  followed = period_along (rest m s c) ∙ ap period_after p.is

  none_read : read_period (rest m s c) ≡ None → Periods (read_period (rest m s c)) m s None
  unfolding is_read
  none_read h = record { is = h; good = rw h }

  pub period_lost : w ≡ None → Periods (read_period (rest m s c)) m s None
  unfolding period_after
  period_lost h = none_read (followed ∙ rw h)

  module _ {v : Walk} (h : w ≡ Some v) {t : Option Cut} (q : Cuts m s v.next t) where
    pub period_uncut : t ≡ None → Periods (read_period (rest m s c)) m s None
    unfolding period_after cut_period
    period_uncut k = none_read (followed ∙ rw (h, q.is, k))

    module _ {u : Cut} (k : t ≡ Some u) where
      cut_is : read_period (rest m s c) ≡ period_by v.number u.zone (cased false (rest m s u.next))
      unfolding period_after cut_period
      cut_is = followed ∙ rw (h, q.is, k)

      -- the start's digits are no date-time's
      pub period_unstarted : moment_by v.number u.zone ≡ None → Periods (read_period (rest m s c)) m s None
      unfolding period_by and_then
      period_unstarted e = none_read (cut_is ∙ rw e)

      pub period_started : {start : List ℕ} {r : Option Period} → moment_by v.number u.zone ≡ Some start → Periods (period_upper start (cased false (rest m s u.next))) m s r → Periods (read_period (rest m s c)) m s r
      unfolding period_by and_then
      period_started {start} e g =
          let z : read_period (rest m s c) ≡ period_upper start (cased false (rest m s u.next)) = cut_is ∙ rw e in
          record { is = z ∙ g.is; good = ap is_read z ∙ g.good }
