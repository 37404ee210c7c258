-- Laws of what specs/PeriodAlong.antt defines.
--     period_along      a period is what follows the pattern so
use Rattle.std.specs.Prelude.{◌≡◌, refl, Bool, true, false, List, [], ◌∷◌, ◌++◌, ℕ, suc, ◌-◌, eqb, take, drop, Option, None, Some}
use Rattle.std.proofs.Common.{sym, ap, ◌∙◌, append-nil, arith, take-append-drop, eqb-true, ne_eqb, leb-true}
use Rattle.std.proofs.lemmas.Bool.{false≢true}
use Rattle.octets.specs.Pick.{pick, ◌and◌, ◌or◌}
use Rattle.octets.specs.laws.Pick.{and_both}
use Rattle.octets.specs.Scan.{all_of, span_len}
use Rattle.octets.specs.laws.Scan.{all_split, all_cons}
use Rattle.octets.specs.Class.{is_small, upper_byte, upper}
use Rattle.octets.specs.Words.{same}
use Rattle.octets.specs.Reading.{and_then, provided}
use Rattle.calendar.specs.Calendar.{ical}
use Rattle.times.specs.Spelling.{keep, begins}
use Rattle.times.specs.Pattern.{Followed, reached, lost, passes, tally, along}
use Rattle.times.specs.Letters.{cased}
use Rattle.times.specs.TimeAlong.{zone}
use Rattle.times.specs.declared.time.Zone.{Zone}
use Rattle.times.specs.declared.time.Zone.TheVariants.{Utc}
use Rattle.times.specs.Date.{is_date}
use Rattle.times.specs.DateTime.{is_date_time, read_date_time}
use Rattle.times.specs.DateTimeAlong.{date_time_pattern, moment, moment_from, moment_by}
use Rattle.times.specs.laws.DateTimeAlong.{date_time_along, moment_zone, then_none}
use Rattle.times.specs.Duration.{unsigned_duration, is_duration, duration_of, read_duration}
use Rattle.times.specs.Period.{is_no_slash, slash_at, period_from, read_period}
use Rattle.times.specs.PeriodAlong.{cut, uncut, slashed, after_start, period_upper, period_by, cut_period, period_after}

-- ---- what stands before a slash, and what stands from it on

-- nothing, or a slash and more
unfoldable is_cut : List ℕ → Bool
is_cut [] = true
is_cut (b ∷ l) = eqb b 47

clean_front : (l : List ℕ) → all_of is_no_slash (take (slash_at l) l) ≡ true
unfolding all_of span_len pick
clean_front [] = refl
clean_front (b ∷ l) = go (is_no_slash b) refl (clean_front l)
  where
    go : (t : Bool) → is_no_slash b ≡ t → all_of is_no_slash (take (slash_at l) l) ≡ true → all_of is_no_slash (take (pick t (suc (span_len is_no_slash l)) 0) (b ∷ l)) ≡ true
    go true e h = all_cons is_no_slash b (take (slash_at l) l) e h
    go false e h = refl

cut_back : (l : List ℕ) → is_cut (drop (slash_at l) l) ≡ true
unfolding is_cut is_no_slash span_len pick
cut_back [] = refl
cut_back (b ∷ l) = go (eqb b 47) refl (cut_back l)
  where
    go : (t : Bool) → eqb b 47 ≡ t → is_cut (drop (slash_at l) l) ≡ true → is_cut (drop (pick (pick t false true) (suc (span_len is_no_slash l)) 0) (b ∷ l)) ≡ true
    go true e h = e
    go false e h = h

-- a pattern that passes no slash stops there
unfoldable refuses_slash : List ℕ → Bool
refuses_slash [] = true
refuses_slash (c ∷ p) = pick (passes c 47) false (refuses_slash p)

unfoldable extend : Followed → List ℕ → Followed
extend lost d = lost
extend (reached n r) d = reached n (r ++ d)

along-extend : (p : List ℕ) (n : ℕ) (a d : List ℕ) → refuses_slash p ≡ true → is_cut d ≡ true → along p n (a ++ d) ≡ extend (along p n a) d
unfolding along extend refuses_slash is_cut pick
along-extend [] n a d h k = refl
along-extend (c ∷ p) n [] [] h k = refl
along-extend (c ∷ p) n [] (b ∷ d) h k = rw (eqb-true b 47 k) (go (passes c 47) h)
  where
    go : (t : Bool) → pick t false (refuses_slash p) ≡ true → pick t (along p (tally c n 47) d) lost ≡ lost
    go true q = absurd (false≢true q)
    go false q = refl
along-extend (c ∷ p) n (b ∷ a) d h k = go (passes c b) (along-extend p (tally c n b) a d (refused (passes c 47) h) k)
  where
    refused : (t : Bool) → pick t false (refuses_slash p) ≡ true → refuses_slash p ≡ true
    refused true q = absurd (false≢true q)
    refused false q = q

    go : (t : Bool) → along p (tally c n b) (a ++ d) ≡ extend (along p (tally c n b) a) d → pick t (along p (tally c n b) (a ++ d)) lost ≡ extend (pick t (along p (tally c n b) a) lost) d
    go true ih = ih
    go false ih = refl

unfoldable left_clean : Followed → Bool
left_clean lost = true
left_clean (reached n r) = all_of is_no_slash r

left_clean_lem : (p : List ℕ) (n : ℕ) (a : List ℕ) → all_of is_no_slash a ≡ true → left_clean (along p n a) ≡ true
unfolding along left_clean pick
left_clean_lem [] n a h = h
left_clean_lem (c ∷ p) n [] h = refl
left_clean_lem (c ∷ p) n (b ∷ a) h = go (passes c b) (left_clean_lem p (tally c n b) a (all_split is_no_slash b a h).1)
  where
    go : (t : Bool) → left_clean (along p (tally c n b) a) ≡ true → left_clean (pick t (along p (tally c n b) a) lost) ≡ true
    go true ih = ih
    go false ih = refl

-- ---- capitals

upper_both : (a b : List ℕ) → upper (a ++ b) ≡ upper a ++ upper b
unfolding upper
upper_both [] b = refl
upper_both (x ∷ a) b = ap (λ (l : List ℕ). upper_byte x ∷ l) (upper_both a b)

capital_slash : (b : ℕ) → eqb (upper_byte b) 47 ≡ eqb b 47
unfolding pick
capital_slash b = go (is_small b) refl
  where
    go : (t : Bool) → is_small b ≡ t → eqb (pick t (b - 32) b) 47 ≡ eqb b 47
    go true e = let l = leb-true 97 b (and_both _ _ e).0 in ne_eqb (b - 32) 47 (omega arith) ∙ sym (ne_eqb b 47 (omega arith))
    go false e = refl

upper_clean : (a : List ℕ) → all_of is_no_slash a ≡ true → all_of is_no_slash (upper a) ≡ true
unfolding upper is_no_slash
upper_clean [] h = h
upper_clean (b ∷ a) h = all_cons is_no_slash (upper_byte b) (upper a) (rw capital_slash (all_split is_no_slash b a h).0) (upper_clean a (all_split is_no_slash b a h).1)

upper_cut : (d : List ℕ) → is_cut d ≡ true → is_cut (upper d) ≡ true
unfolding upper is_cut
upper_cut [] h = refl
upper_cut (b ∷ d) h = capital_slash b ∙ h

-- ---- after the start's digits

no_slash_here : (b : ℕ) → is_no_slash b ≡ true → eqb b 47 ≡ false
unfolding is_no_slash pick
no_slash_here b h = go (eqb b 47) h
  where
    go : (t : Bool) → pick t false true ≡ true → t ≡ false
    go true q = absurd (false≢true q)
    go false q = refl

-- a slash after what has none
start_cut : (n : ℕ) (r x : List ℕ) → all_of is_no_slash r ≡ true → cut_period n (after_start (r ++ (47 ∷ x))) ≡ and_then (zone r) (λ z. period_by n z x)
unfolding after_start slashed cut_period zone same and_then pick ◌and◌
start_cut n [] x h = refl
start_cut n (b ∷ []) x h = rw (no_slash_here b (all_split is_no_slash b [] h).0) (go (eqb b 90))
  where
    go : (t : Bool) → cut_period n (pick t (cut Utc x) uncut) ≡ and_then (provided (t and true) Utc) (λ z. period_by n z x)
    go true = refl
    go false = refl
start_cut n (b ∷ c ∷ r) x h =
    rw (no_slash_here b (all_split is_no_slash b (c ∷ r) h).0, no_slash_here c (all_split is_no_slash c r (all_split is_no_slash b (c ∷ r) h).1).0) (go (eqb b 90))
  where
    go : (t : Bool) → cut_period n (pick t uncut uncut) ≡ and_then (provided (t and false) Utc) (λ z. period_by n z x)
    go true = refl
    go false = refl

-- no slash at all
start_uncut : (r : List ℕ) → all_of is_no_slash r ≡ true → after_start r ≡ uncut
unfolding after_start slashed pick
start_uncut [] h = refl
start_uncut (b ∷ []) h = rw (no_slash_here b (all_split is_no_slash b [] h).0) (go (eqb b 90))
  where
    go : (t : Bool) → pick t uncut uncut ≡ uncut
    go true = refl
    go false = refl
start_uncut (b ∷ c ∷ r) h =
    rw (no_slash_here b (all_split is_no_slash b (c ∷ r) h).0, no_slash_here c (all_split is_no_slash c r (all_split is_no_slash b (c ∷ r) h).1).0) (go (eqb b 90))
  where
    go : (t : Bool) → pick t uncut uncut ≡ uncut
    go true = refl
    go false = refl

no_end : (start : List ℕ) → period_upper start [] ≡ None
unfolding period_upper duration_of is_date_time is_date is_duration unsigned_duration keep begins and_then pick ◌or◌ ◌and◌
no_end start = refl

nothing_after : (n : ℕ) (o : Option Zone) → and_then o (λ z. period_by n z []) ≡ None
unfolding period_by and_then
nothing_after n None = refl
nothing_after n (Some z) = simp no_end (then_none (moment_by n z))

both_sides : (n : ℕ) (r d : List ℕ) → all_of is_no_slash r ≡ true → is_cut d ≡ true → and_then (zone r) (λ z. period_by n z (drop 1 d)) ≡ cut_period n (after_start (r ++ d))
unfolding is_cut cut_period
both_sides n r [] h k = nothing_after n (zone r) ∙ rw (append-nil, start_uncut r h)
both_sides n r (b ∷ x) h k = rw (eqb-true b 47 k) (sym (start_cut n r x h))

upper_rest : (d : List ℕ) → upper (drop 1 d) ≡ drop 1 (upper d)
unfolding upper
upper_rest [] = refl
upper_rest (b ∷ d) = refl

after_slash : (n : ℕ) (r d : List ℕ) → and_then (moment_from n r) (λ start. period_from start (drop 1 d)) ≡ and_then (zone r) (λ z. period_by n z (drop 1 (upper d)))
unfolding period_from period_upper read_duration period_by and_then
after_slash n r d = rw (moment_zone n r) (go (zone r))
  where
    go : (o : Option Zone) → and_then (and_then o (moment_by n)) (λ start. period_from start (drop 1 d)) ≡ and_then o (λ z. period_by n z (drop 1 (upper d)))
    go None = refl
    go (Some z) = rw (← (upper_rest d))

period_parts : (f : Followed) (d : List ℕ) → left_clean f ≡ true → is_cut (upper d) ≡ true → and_then (moment f) (λ start. period_from start (drop 1 d)) ≡ period_after (extend f (upper d))
unfolding moment left_clean extend period_after and_then
period_parts lost d h k = refl
period_parts (reached n r) d h k = after_slash n r d ∙ both_sides n r (upper d) h k

pattern_refuses : refuses_slash (date_time_pattern ical) ≡ true
unfolding refuses_slash passes pick ◌and◌ ◌or◌
pattern_refuses = refl

upper_split : (s : List ℕ) → upper s ≡ upper (take (slash_at s) s) ++ upper (drop (slash_at s) s)
upper_split s = ap upper (sym (take-append-drop (slash_at s) s)) ∙ upper_both (take (slash_at s) s) (drop (slash_at s) s)

start_read : (t : List ℕ) → read_date_time ical t ≡ moment (along (date_time_pattern ical) 0 (upper t))
unfolding cased
start_read t = date_time_along false t

whole_start : (s : List ℕ) → along (date_time_pattern ical) 0 (upper s) ≡ extend (along (date_time_pattern ical) 0 (upper (take (slash_at s) s))) (upper (drop (slash_at s) s))
whole_start s =
    ap (along (date_time_pattern ical) 0) (upper_split s)
    ∙ along-extend (date_time_pattern ical) 0 (upper (take (slash_at s) s)) (upper (drop (slash_at s) s)) pattern_refuses (upper_cut (drop (slash_at s) s) (cut_back s))

start_parts : (s : List ℕ) → and_then (moment (along (date_time_pattern ical) 0 (upper (take (slash_at s) s)))) (λ start. period_from start (drop 1 (drop (slash_at s) s)))
    ≡ period_after (extend (along (date_time_pattern ical) 0 (upper (take (slash_at s) s))) (upper (drop (slash_at s) s)))
start_parts s =
    period_parts (along (date_time_pattern ical) 0 (upper (take (slash_at s) s))) (drop (slash_at s) s)
    (left_clean_lem (date_time_pattern ical) 0 (upper (take (slash_at s) s)) (upper_clean (take (slash_at s) s) (clean_front s))) (upper_cut (drop (slash_at s) s) (cut_back s))

pub period_along : (s : List ℕ) → read_period s ≡ period_after (along (date_time_pattern ical) 0 (upper s))
unfolding read_period
period_along s = rw (start_read (take (slash_at s) s), whole_start s) (start_parts s)
