-- Laws of what specs/OffsetAlong.antt defines.
--     offset_along       an offset is what follows one of the patterns to the end and is in range
use Rattle.std.specs.Prelude.{◌≡◌, Bool, List, [], ◌∷◌, ℕ, suc, ◌+◌, ◌*◌, ◌/◌, ◌%◌, ◌≤◌, ◌<◌, length, take, drop, Option, None, Some}
use Rattle.std.proofs.Math.Path.{refl, ap}
use Rattle.std.proofs.Common.{sym, ◌∙◌, drop_of_length-le, take_all, rules}
use Rattle.std.proofs.Math.Bool.{true, false}
use native.Mathlib.Omega.{arith}
use Rattle.std.proofs.Math.Dec.{eqb, ltb}
use borrow.Author.Tests.{eqb-true, eqb-false, ne_eqb, leb-true, le-leb, lt-ltb, le-ltb, ltb-true, ltb-false}
use Rattle.octets.specs.Pick.{pick, ◌and◌, ◌or◌}
use Rattle.octets.specs.laws.Pick.{and_no_right, and_both, and_no_left, pick_yes, pick_no, flag_yes, flag_no, and-true}
use Rattle.octets.specs.Append.{◌⊕◌}
use Rattle.octets.specs.Scan.{all_of}
use Rattle.octets.specs.laws.Scan.{all_split}
use Rattle.octets.specs.Class.{is_digit}
use Rattle.octets.specs.Words.{is_empty}
use Rattle.octets.specs.Decimal.{value, digit_of}
use Rattle.octets.specs.Reading.{provided, and_then}
use Rattle.calendar.specs.Calendar.{xcal, format_of}
use Rattle.source.specs.Source.{rest, spell, Reads}
use Rattle.source.specs.declared.points.Unit.{Unit}
use Rattle.times.specs.Spelling.{keep, begins, with_marks, without_marks, put_mark, fits}
use Rattle.times.specs.laws.Spelling.{marks_exact, marks_length}
use Rattle.times.specs.Pattern.{reached, lost, passes, tally, along, zeros, digits_at, followed_by, is_mark, are_marks}
use Rattle.times.specs.laws.Pattern.{along_marks, along_digits, worth2, worth4}
use Rattle.times.specs.Time.{is_clock}
use Rattle.times.specs.TimeAlong.{is_hms}
use Rattle.times.specs.Letters.{cased}
use Rattle.times.specs.Followed.{walked, Walks}
use Rattle.times.specs.laws.Digits.{digit_is, digit_small, two_of, drop_longer}
use Rattle.times.specs.UtcOffset.{is_shift, is_some_shift, is_utc_offset, read_utc_offset, minute_marks, second_marks}
use Rattle.times.specs.OffsetAlong.{minute_pattern, second_pattern, followed_to_end, shift_bytes, offset_by, is_minus, offset_of, WalksToEnd}
use Rattle.times.specs.declared.follow.Walk.{Walk}

-- ---- the two lengths, without marks

four : (P : List ℕ → Type 0) → ((a b c d : ℕ) → P (a ∷ b ∷ c ∷ d ∷ [])) → (v : List ℕ) → length v ≡ 4 → P v
four P q [] l = absurd (omega arith)
four P q (a ∷ []) l = absurd (omega arith)
four P q (a ∷ b ∷ []) l = absurd (omega arith)
four P q (a ∷ b ∷ c ∷ []) l = absurd (omega arith)
four P q (a ∷ b ∷ c ∷ d ∷ []) l = q a b c d
four P q (a ∷ b ∷ c ∷ d ∷ e ∷ v) l = absurd (omega arith)

six : (P : List ℕ → Type 0) → ((a b c d e f : ℕ) → P (a ∷ b ∷ c ∷ d ∷ e ∷ f ∷ [])) → (v : List ℕ) → length v ≡ 6 → P v
six P q [] l = absurd (omega arith)
six P q (a ∷ []) l = absurd (omega arith)
six P q (a ∷ b ∷ []) l = absurd (omega arith)
six P q (a ∷ b ∷ c ∷ []) l = absurd (omega arith)
six P q (a ∷ b ∷ c ∷ d ∷ []) l = absurd (omega arith)
six P q (a ∷ b ∷ c ∷ d ∷ e ∷ []) l = absurd (omega arith)
six P q (a ∷ b ∷ c ∷ d ∷ e ∷ f ∷ []) l = q a b c d e f
six P q (a ∷ b ∷ c ∷ d ∷ e ∷ f ∷ g ∷ v) l = absurd (omega arith)

abbrev worth6 : ℕ → ℕ → ℕ → ℕ → ℕ → ℕ → ℕ
worth6 a b c d e f = (worth4 a b c d * 10 + e) * 10 + f

positive : (n : ℕ) → n < 10000 → ltb 0 (n % 10000 * 100) ≡ ltb 0 n
positive n h = go (ltb 0 n) refl
  where
    go : (t : Bool) → ltb 0 n ≡ t → ltb 0 (n % 10000 * 100) ≡ t
    go true e = lt-ltb 0 (n % 10000 * 100) (omega (arith, ltb-true 0 n e))
    go false e = le-ltb 0 (n % 10000 * 100) (omega (arith, ltb-false 0 n e))

module _ (neg : Bool) (a b c d : ℕ) (pa : a < 10) (pb : b < 10) (pc : c < 10) (pd : d < 10) where
  by_four : offset_by neg false (worth4 a b c d % 10000 * 100)
      ≡ provided (is_hms (worth2 a b) (worth2 c d) 0 and pick neg (ltb 0 (worth4 a b c d)) true) (pick neg 45 43 ∷ (48 + a) ∷ (48 + b) ∷ (48 + c) ∷ (48 + d) ∷ [])
  unfolding offset_by shift_bytes pick ◌⊕◌
  by_four =
      let p : worth4 a b c d % 10000 * 100 / 10000 % 100 ≡ worth2 a b = omega arith in
      let q : worth4 a b c d % 10000 * 100 / 100 % 100 ≡ worth2 c d = omega arith in
      let r : worth4 a b c d % 10000 * 100 % 100 ≡ 0 = omega arith in
      let t : ltb 0 (worth4 a b c d % 10000 * 100) ≡ ltb 0 (worth4 a b c d) = positive (worth4 a b c d) (omega arith) in
      let x : worth2 a b ≡ a * 10 + b = omega arith in
      let y : worth2 c d ≡ c * 10 + d = omega arith in
      rw (p, q, r, t, x, y, two_of a b pa pb, two_of c d pc pd)

  by_six : (e f : ℕ) → e < 10 → f < 10 → offset_by neg true (worth6 a b c d e f)
      ≡ provided (is_hms (worth2 a b) (worth2 c d) (worth2 e f) and pick neg (ltb 0 (worth6 a b c d e f)) true)
      (pick neg 45 43 ∷ (48 + a) ∷ (48 + b) ∷ (48 + c) ∷ (48 + d) ∷ (48 + e) ∷ (48 + f) ∷ [])
  unfolding offset_by shift_bytes pick ◌⊕◌
  by_six e f pe pf =
      let p : worth6 a b c d e f / 10000 % 100 ≡ worth2 a b = omega arith in
      let q : worth6 a b c d e f / 100 % 100 ≡ worth2 c d = omega arith in
      let r : worth6 a b c d e f % 100 ≡ worth2 e f = omega arith in
      let x : worth2 a b ≡ a * 10 + b = omega arith in
      let y : worth2 c d ≡ c * 10 + d = omega arith in
      let z : worth2 e f ≡ e * 10 + f = omega arith in
      rw (p, q, r, x, y, z, two_of a b pa pb, two_of c d pc pd, two_of e f pe pf)

-- digits of a length, followed to the end
whole_digits : (k : ℕ) (l : List ℕ) → followed_to_end (along (zeros k []) 0 l) ≡ pick (eqb (length l) k and all_of is_digit l) (Some (value 0 l)) None
unfolding along followed_to_end digits_at pick ◌and◌
whole_digits k l = rw (along_digits k [] 0 l) (go (eqb (length l) k) refl)
  where
    long : (t : Bool) → digits_at k l ≡ t → (length l ≡ k → ⊥) → followed_to_end (pick t (reached (value 0 (take k l)) (drop k l)) lost) ≡ None
    long true e n = rw (drop_longer k l (omega (arith, leb-true k (length l) (and_both _ _ e).0)))
    long false e n = refl

    all : (t : Bool) → followed_to_end (pick t (reached (value 0 l) []) lost) ≡ pick t (Some (value 0 l)) None
    all true = refl
    all false = refl

    go : (t : Bool) → eqb (length l) k ≡ t → followed_to_end (pick (digits_at k l) (reached (value 0 (take k l)) (drop k l)) lost) ≡ pick (t and all_of is_digit l) (Some (value 0 l)) None
    go true e =
        let m : length l ≡ k = eqb-true _ _ e in
        let b : length l ≤ k = omega arith in
        rw (take_all k l b, drop_of_length-le l b, le-leb k (length l) (omega arith)) (all (all_of is_digit l))
    go false e = long (digits_at k l) refl (eqb-false _ _ e)

-- what is in range as digits
shift_kept : Bool → List ℕ → Option (List ℕ)
shift_kept neg l = provided (is_shift l and pick neg (ltb 0 (value 0 l)) true) (pick neg 45 43 ∷ l)

shift_four : (neg : Bool) (l : List ℕ) → length l ≡ 4 → all_of is_digit l ≡ true → offset_by neg false (value 0 l % 10000 * 100) ≡ shift_kept neg l
unfolding shift_kept is_shift is_clock is_hms value ◌and◌ ◌or◌
shift_four neg l m k = four (λ (l : List ℕ). all_of is_digit l ≡ true → offset_by neg false (value 0 l % 10000 * 100) ≡ shift_kept neg l) go l m k
  where
    go : (a b c d : ℕ) → all_of is_digit (a ∷ b ∷ c ∷ d ∷ []) ≡ true → offset_by neg false (value 0 (a ∷ b ∷ c ∷ d ∷ []) % 10000 * 100) ≡ shift_kept neg (a ∷ b ∷ c ∷ d ∷ [])
    go a b c d k =
        let tb = (all_split is_digit a _ k).1 in let tc = (all_split is_digit b _ tb).1 in let td = (all_split is_digit c _ tc).1 in
        let ea = digit_is a (all_split is_digit a _ k).0 in let eb = digit_is b (all_split is_digit b _ tb).0 in let ec = digit_is c (all_split is_digit c _ tc).0 in
        let ed = digit_is d (all_split is_digit d _ td).0 in
        rw (k, by_four neg (digit_of a) (digit_of b) (digit_of c) (digit_of d) (digit_small a) (digit_small b) (digit_small c) (digit_small d), ← ea, ← eb, ← ec, ← ed)

shift_six : (neg : Bool) (l : List ℕ) → length l ≡ 6 → all_of is_digit l ≡ true → offset_by neg true (value 0 l) ≡ shift_kept neg l
unfolding shift_kept is_shift is_clock is_hms value ◌and◌ ◌or◌
shift_six neg l m k = six (λ (l : List ℕ). all_of is_digit l ≡ true → offset_by neg true (value 0 l) ≡ shift_kept neg l) go l m k
  where
    go : (a b c d e f : ℕ) → all_of is_digit (a ∷ b ∷ c ∷ d ∷ e ∷ f ∷ []) ≡ true → offset_by neg true (value 0 (a ∷ b ∷ c ∷ d ∷ e ∷ f ∷ [])) ≡ shift_kept neg (a ∷ b ∷ c ∷ d ∷ e ∷ f ∷ [])
    go a b c d e f k =
        let tb = (all_split is_digit a _ k).1 in let tc = (all_split is_digit b _ tb).1 in let td = (all_split is_digit c _ tc).1 in let te = (all_split is_digit d _ td).1 in
        let tf = (all_split is_digit e _ te).1 in
        let ea = digit_is a (all_split is_digit a _ k).0 in let eb = digit_is b (all_split is_digit b _ tb).0 in let ec = digit_is c (all_split is_digit c _ tc).0 in
        let ed = digit_is d (all_split is_digit d _ td).0 in let ee = digit_is e (all_split is_digit e _ te).0 in let ef = digit_is f (all_split is_digit f _ tf).0 in
        rw (
          k,
          by_six neg (digit_of a) (digit_of b) (digit_of c) (digit_of d) (digit_small a) (digit_small b) (digit_small c) (digit_small d)
              (digit_of e) (digit_of f) (digit_small e) (digit_small f),
          ← ea,
          ← eb,
          ← ec,
          ← ed,
          ← ee,
          ← ef,
        )

no_shift_digits : (neg : Bool) (l : List ℕ) → all_of is_digit l ≡ false → shift_kept neg l ≡ None
unfolding shift_kept is_shift is_clock pick ◌and◌
no_shift_digits neg l h = rw (h, and_no_right (eqb (length l) 4 or eqb (length l) 6) false refl)

no_shift_length : (neg : Bool) (l : List ℕ) → eqb (length l) 4 ≡ false → eqb (length l) 6 ≡ false → shift_kept neg l ≡ None
unfolding shift_kept is_shift pick ◌and◌ ◌or◌
no_shift_length neg l h k = rw (h, k)

-- by its digits
by_digits : (neg : Bool) (l : List ℕ) → shift_kept neg l ≡ offset_of neg (followed_to_end (along (zeros 4 []) 0 l)) (followed_to_end (along (zeros 6 []) 0 l))
unfolding offset_of pick ◌and◌
by_digits neg l = rw (whole_digits 4 l, whole_digits 6 l) (go (eqb (length l) 4) (eqb (length l) 6) (all_of is_digit l) refl refl refl)
  where
    none_of : (u : Bool) → None ≡ offset_of neg None (pick (u and false) (Some (value 0 l)) None)
    none_of true = refl
    none_of false = refl

    go : (t u d : Bool) → eqb (length l) 4 ≡ t → eqb (length l) 6 ≡ u → all_of is_digit l ≡ d →
        shift_kept neg l ≡ offset_of neg (pick (t and d) (Some (value 0 l)) None) (pick (u and d) (Some (value 0 l)) None)
    go true u true e f g = sym (shift_four neg l (eqb-true _ _ e) g)
    go true u false e f g = no_shift_digits neg l g ∙ none_of u
    go false true true e f g = sym (shift_six neg l (eqb-true _ _ f) g)
    go false true false e f g = no_shift_digits neg l g
    go false false d e f g = no_shift_length neg l e f

-- by its sign and its digits
signed : (b : ℕ) (l : List ℕ) → keep is_utc_offset (b ∷ l) ≡ pick (eqb b 43 or eqb b 45) (shift_kept (eqb b 45) l) None
unfolding keep is_utc_offset is_some_shift begins shift_kept pick ◌and◌ ◌or◌
signed b l = go (eqb b 43) (eqb b 45) refl refl (is_shift l) (ltb 0 (value 0 l))
  where
    go : (t u : Bool) → eqb b 43 ≡ t → eqb b 45 ≡ u → (h z : Bool) →
        pick ((t and h) or (u and (h and z))) (Some (b ∷ l)) None ≡ pick (t or u) (pick (h and pick u z true) (Some (pick u 45 43 ∷ l)) None) None
    go true true e f h z = absurd (omega (arith, eqb-true b 43 e, eqb-true b 45 f))
    go true false e f true z = ap (λ (x : ℕ). Some (x ∷ l)) (eqb-true b 43 e)
    go true false e f false z = refl
    go false true e f true true = ap (λ (x : ℕ). Some (x ∷ l)) (eqb-true b 45 f)
    go false true e f true false = refl
    go false true e f false z = refl
    go false false e f h z = refl

minus_front : (b : ℕ) (l : List ℕ) → is_minus (b ∷ l) ≡ eqb b 45
unfolding is_minus begins ◌and◌
minus_front b l = and-true (eqb b 45)

signed_along : (k : ℕ) (b : ℕ) (l : List ℕ) → followed_to_end (along (43 ∷ zeros k []) 0 (b ∷ l)) ≡ pick (eqb b 43 or eqb b 45) (followed_to_end (along (zeros k []) 0 l)) None
unfolding along passes tally followed_to_end pick
signed_along k b l = go (eqb b 43 or eqb b 45)
  where
    go : (t : Bool) → followed_to_end (pick t (along (zeros k []) 0 l) lost) ≡ pick t (followed_to_end (along (zeros k []) 0 l)) None
    go true = refl
    go false = refl

empty : keep is_utc_offset [] ≡ None
unfolding keep is_utc_offset begins pick ◌or◌
empty = refl

offset_kept : (v : List ℕ) → keep is_utc_offset v ≡ offset_of (is_minus v) (followed_to_end (along (43 ∷ zeros 4 []) 0 v)) (followed_to_end (along (43 ∷ zeros 6 []) 0 v))
unfolding offset_of along followed_to_end pick
offset_kept [] = empty
offset_kept (b ∷ l) = signed b l ∙ rw (signed_along 4 b l, signed_along 6 b l, minus_front b l) (go (eqb b 43 or eqb b 45))
  where
    go : (t : Bool) → pick t (shift_kept (eqb b 45) l) None ≡ offset_of (eqb b 45) (pick t (followed_to_end (along (zeros 4 []) 0 l)) None) (pick t (followed_to_end (along (zeros 6 []) 0 l)) None)
    go true = by_digits (eqb b 45) l
    go false = refl

-- ---- with marks: six characters or nine

not_length : (k : ℕ) (v : List ℕ) → (length v ≡ suc k → ⊥) → followed_to_end (along (43 ∷ zeros k []) 0 v) ≡ None
unfolding along followed_to_end pick ◌and◌
not_length k [] h = refl
not_length k (b ∷ l) h = signed_along k b l ∙ rw (whole_digits k l, ne_eqb (length l) k (λ e. h (ap suc e))) (go (eqb b 43 or eqb b 45))
  where
    go : (t : Bool) → ◌≡◌ {A = Option ℕ} (pick t None None) None
    go true = refl
    go false = refl

-- marks that stand after the sign leave it
minus_minute : (v : List ℕ) → 0 < length v → is_minus (with_marks minute_marks v) ≡ is_minus v
unfolding with_marks put_mark
minus_minute [] h = absurd (omega arith)
minus_minute (b ∷ l) h = minus_front b _ ∙ sym (minus_front b l)

minus_second : (v : List ℕ) → 0 < length v → is_minus (with_marks second_marks v) ≡ is_minus v
unfolding with_marks put_mark
minus_second [] h = absurd (omega arith)
minus_second (b ∷ l) h = minus_front b _ ∙ sym (minus_front b l)

module _ (s : List ℕ) where
  minute_length : (v : List ℕ) → without_marks minute_marks s ≡ Some v → length s ≡ 1 + length v
  minute_length v e = ap length (marks_exact minute_marks s v e) ∙ marks_length minute_marks v

  second_length : (v : List ℕ) → without_marks second_marks s ≡ Some v → length s ≡ 2 + length v
  second_length v e = ap length (marks_exact second_marks s v e) ∙ marks_length second_marks v

  minutes : Option ℕ
  minutes = followed_to_end (followed_by (without_marks minute_marks s) (along (43 ∷ zeros 4 []) 0))

  seconds : Option ℕ
  seconds = followed_to_end (followed_by (without_marks second_marks s) (along (43 ∷ zeros 6 []) 0))

  no_minutes : (length s ≡ 6 → ⊥) → minutes ≡ None
  unfolding minutes followed_by followed_to_end
  no_minutes h = go (without_marks minute_marks s) refl
    where
      go : (o : Option (List ℕ)) → without_marks minute_marks s ≡ o → followed_to_end (followed_by o (along (43 ∷ zeros 4 []) 0)) ≡ None
      go None e = refl
      go (Some v) e = not_length 4 v (λ l. h (omega (arith, minute_length v e)))

  no_seconds : (length s ≡ 9 → ⊥) → seconds ≡ None
  unfolding seconds followed_by followed_to_end
  no_seconds h = go (without_marks second_marks s) refl
    where
      go : (o : Option (List ℕ)) → without_marks second_marks s ≡ o → followed_to_end (followed_by o (along (43 ∷ zeros 6 []) 0)) ≡ None
      go None e = refl
      go (Some v) e = not_length 6 v (λ l. h (omega (arith, second_length v e)))

  by_minutes : length s ≡ 6 → and_then (without_marks minute_marks s) (keep is_utc_offset) ≡ offset_of (is_minus s) minutes None
  unfolding minutes followed_by followed_to_end and_then offset_of
  by_minutes h = go (without_marks minute_marks s) refl
    where
      go : (o : Option (List ℕ)) → without_marks minute_marks s ≡ o → and_then o (keep is_utc_offset) ≡ offset_of (is_minus s) (followed_to_end (followed_by o (along (43 ∷ zeros 4 []) 0))) None
      go None e = refl
      go (Some v) e =
          let l = minute_length v e in
          let m : is_minus s ≡ is_minus v = ap is_minus (marks_exact minute_marks s v e) ∙ minus_minute v (omega arith) in
          offset_kept v ∙ rw (not_length 6 v (omega arith), m)

  by_seconds : length s ≡ 9 → and_then (without_marks second_marks s) (keep is_utc_offset) ≡ offset_of (is_minus s) None seconds
  unfolding seconds followed_by followed_to_end and_then offset_of
  by_seconds h = go (without_marks second_marks s) refl
    where
      go : (o : Option (List ℕ)) → without_marks second_marks s ≡ o → and_then o (keep is_utc_offset) ≡ offset_of (is_minus s) None (followed_to_end (followed_by o (along (43 ∷ zeros 6 []) 0)))
      go None e = refl
      go (Some v) e =
          let l = second_length v e in
          let m : is_minus s ≡ is_minus v = ap is_minus (marks_exact second_marks s v e) ∙ minus_second v (omega arith) in
          offset_kept v ∙ rw (not_length 4 v (omega arith), m)

  with_marks_lem : read_utc_offset xcal s ≡ offset_of (is_minus s) minutes seconds
  unfolding read_utc_offset offset_of pick
  with_marks_lem = go (eqb (length s) 6) (eqb (length s) 9) refl refl
    where
      go : (t u : Bool) → eqb (length s) 6 ≡ t → eqb (length s) 9 ≡ u →
          pick t (and_then (without_marks minute_marks s) (keep is_utc_offset)) (pick u (and_then (without_marks second_marks s) (keep is_utc_offset)) None) ≡ offset_of (is_minus s) minutes seconds
      go true u e f = rw (no_seconds (λ q. omega (arith, eqb-true (length s) 6 e))) (by_minutes (eqb-true _ _ e))
      go false true e f = rw (no_minutes (eqb-false _ _ e)) (by_seconds (eqb-true _ _ f))
      go false false e f = rw (no_minutes (eqb-false _ _ e), no_seconds (eqb-false _ _ f))

pub offset_along : (x : Bool) (s : List ℕ) →
    read_utc_offset (format_of x) s ≡ offset_of (is_minus s) (followed_to_end (along (minute_pattern (format_of x)) 0 s)) (followed_to_end (along (second_pattern (format_of x)) 0 s))
unfolding read_utc_offset minutes seconds zeros with_marks put_mark are_marks is_mark fits pick ◌and◌
offset_along false s = offset_kept s
offset_along true s =
    with_marks_lem s ∙ rw (← (along_marks minute_marks (43 ∷ zeros 4 []) 0 s refl refl), ← (along_marks second_marks (43 ∷ zeros 6 []) 0 s refl refl))

-- ---- the ways of a reader

module _ {p : List ℕ} {m : ℕ} {s : List ℕ} {c : ℕ} {w : Option Walk} (f : Walks p true m s c w) where
  followed : followed_to_end (along p 0 (rest m s c)) ≡ followed_to_end (walked true m s w)
  unfolding cased
  followed = ap followed_to_end f.is

  pub whole_end : {v : Walk} → w ≡ Some v → is_empty (rest m s v.next) ≡ true → WalksToEnd p m s c (Some v.number)
  unfolding followed_to_end cased pick
  whole_end h k = record { is = followed ∙ rw (h, k) }

  pub whole_more : {v : Walk} → w ≡ Some v → is_empty (rest m s v.next) ≡ false → WalksToEnd p m s c None
  unfolding followed_to_end cased pick
  whole_more h k = record { is = followed ∙ rw (h, k) }

  pub whole_lost : w ≡ None → WalksToEnd p m s c None
  unfolding followed_to_end
  whole_lost h = record { is = followed ∙ rw h }

pub ruleset wholly = (whole_end, whole_more, whole_lost, flag_yes, flag_no, rules)

minus_none : eqb 256 45 ≡ is_minus []
unfolding is_minus begins
minus_none = refl

pub minus_here : {m : ℕ} {s : List ℕ} {c : ℕ} {a : Unit} → Reads m s c a → eqb a.u 45 ≡ is_minus (rest m s c)
unfolding spell pick
minus_here {m} {s} {c} {a} p = rw p.is (go (eqb a.u 256) refl)
  where
    go : (t : Bool) → eqb a.u 256 ≡ t → eqb a.u 45 ≡ is_minus (pick t [] (a.u ∷ rest m s a.next))
    go true e = rw (eqb-true a.u 256 e) minus_none
    go false e = sym (minus_front a.u (rest m s a.next))

-- the number n of six digits
module _ (neg w : Bool) (n : ℕ) where
  pub offset_found : {o : Option ℕ} → o ≡ provided w (n % 100) → is_hms (n / 10000 % 100) (n / 100 % 100) (n % 100) ≡ true → pick neg (ltb 0 n) true ≡ true →
      offset_by neg w n ≡ Some (shift_bytes neg (n / 10000 % 100) (n / 100 % 100) o)
  unfolding offset_by ◌and◌
  offset_found e h k = rw e (pick_yes _ _ _ (rw h k))

  pub offset_zero : pick neg (ltb 0 n) true ≡ false → offset_by neg w n ≡ None
  unfolding offset_by
  offset_zero k = pick_no _ _ _ (and_no_right _ _ k)

  pub offset_wide : is_hms (n / 10000 % 100) (n / 100 % 100) (n % 100) ≡ false → offset_by neg w n ≡ None
  unfolding offset_by
  offset_wide h = pick_no _ _ _ (and_no_left _ _ h)

module _ (x : Bool) {m : ℕ} {s : List ℕ} {c : ℕ} {w : Option ℕ} {neg : Bool} (f : WalksToEnd (minute_pattern (format_of x)) m s c w) (g : neg ≡ is_minus (rest m s c)) where
  pub offset_minutes : {n : ℕ} → w ≡ Some n → read_utc_offset (format_of x) (rest m s c) ≡ offset_by neg false (n % 10000 * 100)
  unfolding offset_of
  offset_minutes h = offset_along x (rest m s c) ∙ rw (f.is, h, ← g)

  module _ {v : Option ℕ} (k : WalksToEnd (second_pattern (format_of x)) m s c v) where
    pub offset_seconds : {n : ℕ} → w ≡ None → v ≡ Some n → read_utc_offset (format_of x) (rest m s c) ≡ offset_by neg true n
    unfolding offset_of
    offset_seconds h l = offset_along x (rest m s c) ∙ rw (f.is, k.is, h, l, ← g)

    pub offset_lost : w ≡ None → v ≡ None → read_utc_offset (format_of x) (rest m s c) ≡ None
    unfolding offset_of
    offset_lost h l = offset_along x (rest m s c) ∙ rw (f.is, k.is, h, l)
