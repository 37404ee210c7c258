-- The laws of FLOAT.
--     float_read_back, float_accepted, float_visible
--     Normal                  what is_normal says, part by part;   normal_parts
--     Digits                  a decimal has digits on both sides of its point;   spelled_digits, normal_digits: what is spelled has, and a normal form
--     normal_is_normal        digits have a normal form;   normal_fixed: a normal form is its own
--     float_all               a test that digits, the minus and the point pass
use Rattle.std.specs.Prelude.{◌≡◌, refl, Bool, true, false, not, List, [], ◌∷◌, ℕ, suc, eqb, length, None, Some}
use Rattle.std.proofs.Common.{arith, lt-ltb, ltb-true}
use Rattle.std.proofs.lemmas.Bool.{not-true}
use Rattle.octets.specs.Pick.{pick, ◌and◌}
use Rattle.octets.specs.laws.Pick.{and_both}
use Rattle.octets.specs.Scan.{all_of}
use Rattle.octets.specs.laws.Scan.{all_append, all_split, all_weaker}
use Rattle.octets.specs.Append.{◌⊕◌}
use Rattle.octets.specs.laws.Append.{append_none}
use Rattle.octets.specs.Class.{is_digit, is_visible}
use Rattle.octets.specs.laws.Class.{digit_visible}
use Rattle.octets.specs.Words.{holds, cut_at, none_holds, joined_by, each_after}
use Rattle.octets.specs.laws.Words.{cut_joined, all_without}
use Rattle.octets.specs.Reading.{and_then}
use Rattle.octets.specs.laws.Reading.{and_then-some, provided-some, none-some}
use Rattle.calendar.specs.Calendar.{Decimal}
use Rattle.numbers.specs.Sign.{has_minus, after_sign, is_digits, leads_in_digit}
use Rattle.numbers.specs.laws.Sign.{digits_lead, lead_append, signed_minus, signed_rest, signed_all}
use Rattle.numbers.specs.Float.{decimal, fraction, pointed, spelled, no_leading, kept, no_trailing, normal, read_float, or_zero, after_point, write_float, leads_in_zero, ends_in_zero, is_zero, is_normal}

-- ---- what is written is read back

-- the pieces between points of what is written
pieces : List ℕ → List (List ℕ)
pieces [] = []
pieces (b ∷ s) = (b ∷ s) ∷ []

zero_digits : (s : List ℕ) → all_of is_digit s ≡ true → is_digits (or_zero s) ≡ true
unfolding or_zero ◌and◌ all_of pick
zero_digits [] h = refl
zero_digits (b ∷ s) h = rw (lt-ltb 0 (suc (length s)) (omega arith)) h

no_point : (s : List ℕ) → all_of is_digit s ≡ true → holds 46 s ≡ false
unfolding ◌and◌
no_point s h = all_without is_digit 46 refl s h

cut_written : (b a : List ℕ) → all_of is_digit b ≡ true → all_of is_digit a ≡ true → cut_at 46 (or_zero b ⊕ after_point a) ≡ or_zero b ∷ pieces a
unfolding after_point pieces none_holds joined_by each_after pick
cut_written b [] h k = cut_joined 46 (or_zero b) [] (rw (no_point (or_zero b) (and_both _ _ (zero_digits b h)).1))
cut_written b (x ∷ a) h k =
    rw (append_none (x ∷ a)) at (cut_joined 46 (or_zero b) ((x ∷ a) ∷ []) (rw (no_point (or_zero b) (and_both _ _ (zero_digits b h)).1, no_point (x ∷ a) k)))

fraction_written : (a : List ℕ) → all_of is_digit a ≡ true → fraction (pieces a) ≡ Some a
unfolding fraction pieces pick ◌and◌
fraction_written [] h = refl
fraction_written (x ∷ a) h = rw (lt-ltb 0 (suc (length a)) (omega arith), h)

no_leading_zero : (s : List ℕ) → leads_in_zero s ≡ false → no_leading s ≡ s
unfolding no_leading leads_in_zero pick
no_leading_zero [] h = refl
no_leading_zero (b ∷ s) h = rw h

or_zero_leading : (s : List ℕ) → no_leading (or_zero s) ≡ no_leading s
unfolding no_leading or_zero pick
or_zero_leading [] = refl
or_zero_leading (b ∷ s) = refl

no_trailing_zero : (s : List ℕ) → ends_in_zero s ≡ false → no_trailing s ≡ s
unfolding no_trailing ends_in_zero kept pick
no_trailing_zero [] h = refl
no_trailing_zero (b ∷ []) h = rw h
no_trailing_zero (b ∷ c ∷ s) h = rw (no_trailing_zero (c ∷ s) h)

written_leads : (b a : List ℕ) → all_of is_digit b ≡ true → leads_in_digit (or_zero b ⊕ after_point a) ≡ true
written_leads b a h = let p = and_both _ _ (zero_digits b h) in lead_append (or_zero b) (after_point a) (digits_lead (or_zero b) (ltb-true 0 (length (or_zero b)) p.0) p.1)

spelled_written : (m : Bool) (b a : List ℕ) → all_of is_digit b ≡ true → all_of is_digit a ≡ true → spelled (write_float (decimal m b a)) ≡ Some (decimal m (or_zero b) a)
unfolding pointed pick and_then
spelled_written m b a h k =
    rw (
      signed_minus m (or_zero b ⊕ after_point a) (written_leads b a h),
      signed_rest m (or_zero b ⊕ after_point a) (written_leads b a h),
      cut_written b a h k,
      zero_digits b h,
      fraction_written a k,
    )

-- what is in normal form, part by part
pub record Normal (d : Decimal) : Type 0 where
  pub before_digits : all_of is_digit d.before ≡ true
  pub after_digits : all_of is_digit d.after ≡ true
  pub no_lead : leads_in_zero d.before ≡ false
  pub no_trail : ends_in_zero d.after ≡ false
  pub zero_plus : not (is_zero d and d.minus) ≡ true

pub normal_parts : (d : Decimal) → is_normal d ≡ true → Normal d
normal_parts d h =
    let p = and_both _ _ h in
    let q = and_both _ _ p.1 in
    let r = and_both _ _ q.1 in
    let s = and_both _ _ r.1 in
    record { before_digits = p.0; after_digits = q.0; no_lead = not-true _ r.0; no_trail = not-true _ s.0; zero_plus = s.1 }

pub normal_whole : (d : Decimal) → Normal d → is_normal d ≡ true
unfolding ◌and◌
normal_whole d n = rw (n.before_digits, n.after_digits, n.no_lead, n.no_trail) n.zero_plus

keeps_sign : (z m : Bool) → not (z and m) ≡ true → (not z and m) ≡ m
unfolding ◌and◌
keeps_sign true true h = h
keeps_sign true false h = refl
keeps_sign false m h = refl

pub float_read_back : (d : Decimal) → is_normal d ≡ true → read_float (write_float d) ≡ Some d
unfolding and_then
float_read_back d h =
    let n = normal_parts d h in
    rw (
      spelled_written d.minus d.before d.after n.before_digits n.after_digits,
      or_zero_leading d.before,
      no_leading_zero d.before n.no_lead,
      no_trailing_zero d.after n.no_trail,
      keeps_sign (is_zero d) d.minus n.zero_plus,
    )

-- ---- what is read is in normal form

fraction_digits : (ps : List (List ℕ)) (a : List ℕ) → fraction ps ≡ Some a → all_of is_digit a ≡ true
unfolding fraction all_of
fraction_digits [] a h = let e : a ≡ [] = cc in rw e
fraction_digits (p ∷ ps) a h = let q = provided-some _ p a h in rw (← q.1) (and_both _ _ (and_both _ _ q.0).0).1

-- the digits that are spelled are digits
pub record Digits (d : Decimal) : Type 0 where
  pub before_digits : all_of is_digit d.before ≡ true
  pub after_digits : all_of is_digit d.after ≡ true

pointed_digits : (m : Bool) (ps : List (List ℕ)) (d : Decimal) → pointed m ps ≡ Some d → Digits d
unfolding pointed pick
pointed_digits m [] d h = none-some h
pointed_digits m (b ∷ ps) d h = go (is_digits b) refl h
  where
    go : (t : Bool) → is_digits b ≡ t → pick t (and_then (fraction ps) (λ a. Some (decimal m b a))) None ≡ Some d → Digits d
    go false e k = none-some k
    go true e k =
        let p = and_then-some (fraction ps) (λ a. Some (decimal m b a)) d k in
        let q : decimal m b p.0 ≡ d = cc p.2 in
        rw (← q) (record { before_digits = (and_both _ _ e).1; after_digits = fraction_digits ps p.0 p.1 })

pub spelled_digits : (s : List ℕ) (d : Decimal) → spelled s ≡ Some d → Digits d
spelled_digits s d h = pointed_digits (has_minus s) (cut_at 46 (after_sign s)) d h

leading_digits : (s : List ℕ) → all_of is_digit s ≡ true → all_of is_digit (no_leading s) ≡ true
unfolding no_leading pick
leading_digits [] h = h
leading_digits (b ∷ s) h = go (eqb b 48) (leading_digits s (all_split is_digit b s h).1)
  where
    go : (t : Bool) → all_of is_digit (no_leading s) ≡ true → all_of is_digit (pick t (no_leading s) (b ∷ s)) ≡ true
    go true k = k
    go false k = h

leading_none : (s : List ℕ) → leads_in_zero (no_leading s) ≡ false
unfolding no_leading leads_in_zero pick
leading_none [] = refl
leading_none (b ∷ s) = go (eqb b 48) refl (leading_none s)
  where
    go : (t : Bool) → eqb b 48 ≡ t → leads_in_zero (no_leading s) ≡ false → leads_in_zero (pick t (no_leading s) (b ∷ s)) ≡ false
    go true e k = k
    go false e k = e

kept_digits : (b : ℕ) (s : List ℕ) → is_digit b ≡ true → all_of is_digit s ≡ true → all_of is_digit (kept b s) ≡ true
unfolding kept all_of pick
kept_digits b [] h k = go (eqb b 48)
  where
    go : (t : Bool) → all_of is_digit (pick t [] (b ∷ [])) ≡ true
    go true = refl
    go false = rw h
kept_digits b (c ∷ s) h k = rw h k

trailing_digits : (s : List ℕ) → all_of is_digit s ≡ true → all_of is_digit (no_trailing s) ≡ true
unfolding no_trailing
trailing_digits [] h = h
trailing_digits (b ∷ s) h = let p = all_split is_digit b s h in kept_digits b (no_trailing s) p.0 (trailing_digits s p.1)

kept_none : (b : ℕ) (s : List ℕ) → ends_in_zero s ≡ false → ends_in_zero (kept b s) ≡ false
unfolding kept ends_in_zero pick
kept_none b [] h = go (eqb b 48) refl
  where
    go : (t : Bool) → eqb b 48 ≡ t → ends_in_zero (pick t [] (b ∷ [])) ≡ false
    go true e = refl
    go false e = e
kept_none b (c ∷ s) h = h

trailing_none : (s : List ℕ) → ends_in_zero (no_trailing s) ≡ false
unfolding no_trailing ends_in_zero
trailing_none [] = refl
trailing_none (b ∷ s) = kept_none b (no_trailing s) (trailing_none s)

zero_plus_lem : (z m : Bool) → not (z and (not z and m)) ≡ true
unfolding ◌and◌
zero_plus_lem true m = refl
zero_plus_lem false m = refl

pub normal_is_normal : (d : Decimal) → Digits d → is_normal (normal d) ≡ true
normal_is_normal d h =
    normal_whole (normal d) (record {
      before_digits = leading_digits d.before h.before_digits;
      after_digits = trailing_digits d.after h.after_digits;
      no_lead = leading_none d.before;
      no_trail = trailing_none d.after;
      zero_plus = zero_plus_lem (is_zero (normal d)) d.minus;
    })

-- a normal form is its own
pub normal_fixed : (d : Decimal) → is_normal d ≡ true → normal d ≡ d
normal_fixed d h =
    let n = normal_parts d h in
    rw (no_leading_zero d.before n.no_lead, no_trailing_zero d.after n.no_trail, keeps_sign (is_zero d) d.minus n.zero_plus)

pub normal_digits : (d : Decimal) → is_normal d ≡ true → Digits d
normal_digits d h = let n = normal_parts d h in record { before_digits = n.before_digits; after_digits = n.after_digits }

pub float_accepted : (s : List ℕ) (d : Decimal) → read_float s ≡ Some d → is_normal d ≡ true
float_accepted s d h =
    let p = and_then-some (spelled s) (λ e. Some (normal e)) d h in
    let q : normal p.0 ≡ d = cc p.2 in
    rw (← q) (normal_is_normal p.0 (spelled_digits s p.0 p.1))

-- ---- what is written is made of digits, a minus and a point

point_all : (p : ℕ → Bool) (s : List ℕ) → p 46 ≡ true → all_of p s ≡ true → all_of p (after_point s) ≡ true
unfolding after_point all_of pick
point_all p [] e h = refl
point_all p (b ∷ s) e h = rw e h

pub float_all : (p : ℕ → Bool) → ((b : ℕ) → is_digit b ≡ true → p b ≡ true) → p 45 ≡ true → p 46 ≡ true → (d : Decimal) → is_normal d ≡ true → all_of p (write_float d) ≡ true
float_all p f m e d h =
    let n = normal_parts d h in
    signed_all p d.minus (or_zero d.before ⊕ after_point d.after) m
    (all_append p (or_zero d.before) (after_point d.after)
    (all_weaker is_digit p f (or_zero d.before) (and_both _ _ (zero_digits d.before n.before_digits)).1)
    (point_all p d.after e (all_weaker is_digit p f d.after n.after_digits)))

pub float_visible : (d : Decimal) → is_normal d ≡ true → all_of is_visible (write_float d) ≡ true
unfolding ◌and◌
float_visible d h = float_all is_visible digit_visible refl refl d h
