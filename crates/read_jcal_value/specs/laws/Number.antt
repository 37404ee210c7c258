-- Laws of what specs/Number.antt defines.
--     number_is        the INTEGER of a number's bytes is that of its magnitude and its sign
--     capped_is        an exponent that is told up to a cap is as good
--     magnitude_is     the magnitude, by the places of the parts
--     Marking          the invariant of the walk to a byte that passes a test;   `search marking`
--     signs, signing, raising    the rules of the code
use Rattle.std.specs.Prelude.{◌≡◌, Bool, List, [], ◌∷◌, ltb, get_or, take, drop, Option, None, Some}
use Rattle.std.proofs.Math.Path.{refl, sym}
use Rattle.std.proofs.Common.{ap, ◌∙◌, mul-le-mul_left, mul-le-mul_right, length-drop, drop_of_length-le, take-take, length-take-le, rules}
use Rattle.std.proofs.Math.Bool.{true, false}
use Prim.Native.Nat.{ℕ, zero, suc, ◌+◌, ◌-◌, ◌*◌, ◌^◌, ◌≤◌, ◌<◌, min}
use native.Mathlib.Omega.{arith}
use Rattle.std.proofs.Math.Decide.{dec_le}
use Rattle.std.proofs.Math.Dec.{eqb, leb}
use Rattle.std.proofs.Math.ListN.{length}
use Rattle.std.proofs.Math.Seq.{take_all}
use borrow.Author.Tests.{eq-eqb, ne_eqb, eqb-true, eqb-false, lt-ltb, le-ltb, le-leb, lt-leb, leb-true, leb-false}
use Rattle.octets.specs.Pick.{pick, ◌and◌, ◌or◌}
use Rattle.octets.specs.Scan.{all_of}
use Rattle.octets.specs.Append.{◌⊕◌}
use Rattle.octets.specs.laws.Append.{length_both}
use Rattle.octets.specs.Front.{up_to, from_on, past}
use Rattle.octets.specs.Decimal.{value}
use Rattle.octets.specs.Reading.{provided, and_then}
use Rattle.calendar.specs.Calendar.{Whole}
use Rattle.numbers.specs.Sign.{has_minus, after_sign}
use Rattle.numbers.specs.Integer.{most, integer_of}
use Rattle.numbers.specs.ReadInteger.{whole_is}
use Rattle.source.specs.Source.{rest}
use Rattle.source.specs.laws.Facts.{rest_byte, rest_past, plain_byte, cut_is, reach_other}
use Rattle.json_text.specs.Bytes.{digit_zero, is_e}
use Rattle.jcal.specs.Integer.{is_point, int, frac, exp, raised, lowered, moved, read_number}
use Rattle.read_jcal_value.specs.Digits.{worth_of, Worth}
use Rattle.read_jcal_value.specs.laws.Digits.{worth_is, worth_join}
use Rattle.read_jcal_value.specs.Number.{far, kept_of, up_of, raised_to, worth_by, magnitude_of, signed_to, mark_of, MarkAt, SignAt, ExponentAt, Power, Most}
use Rattle.read_jcal_value.specs.declared.number.Exponent.{Exponent}

-- ---- the range

module _ (neg : Bool) where
  most_small : most neg ≤ 2147483648
  most_small = go neg
    where
      go : (b : Bool) → most b ≤ 2147483648
      go true = omega arith
      go false = omega arith

  signed_over : (n : ℕ) → 2147483648 < n → signed_to neg n ≡ None
  unfolding signed_to pick
  signed_over n h = let m = most_small in rw (lt-leb n (most neg) (omega (arith, m)))

  signed_cap : (n : ℕ) → signed_to neg (min far n) ≡ signed_to neg n
  signed_cap n = go (dec_le n far)
    where
      go : Dec (n ≤ far) → signed_to neg (min far n) ≡ signed_to neg n
      go (yes h) = let k : min far n ≡ n = omega arith in rw k
      go (no h) = let k : min far n ≡ far = omega arith in rw k (signed_over far (omega arith) ∙ sym (signed_over n (omega arith)))

-- ---- zeros put behind digits

raised_none : (v : ℕ) → raised_to v 0 ≡ v
unfolding raised_to pick
raised_none v = go (eqb v 0) refl
  where
    go : (t : Bool) → eqb v 0 ≡ t → pick t 0 (v * 10 ^ 0) ≡ v
    go true e = sym (eqb-true v 0 e)
    go false e = omega arith

pow_grows : (v k : ℕ) → v ≤ v * 10 ^ k
pow_grows v k = let p : 1 ≤ 10 ^ k = ten_pos k in let h = mul-le-mul_left v p in omega (arith, h)
  where
    ten_pos : (k : ℕ) → 1 ≤ 10 ^ k
    ten_pos zero = omega arith
    ten_pos (suc k) = let h = ten_pos k in omega (arith, h)

module _ (neg : Bool) where
  raised_is : (n k : ℕ) → and_then (raised n k) (signed_to neg) ≡ signed_to neg (raised_to (min far n) k)
  unfolding raised_to and_then pick
  raised_is n k = go (eqb n 0) refl (ltb k 10)
    where
      small : (t : Bool) → and_then (provided t (n * 10 ^ k)) (signed_to neg) ≡ signed_to neg (pick t (min far n * 10 ^ k) far)
      small true = apart (dec_le n far)
        where
          apart : Dec (n ≤ far) → signed_to neg (n * 10 ^ k) ≡ signed_to neg (min far n * 10 ^ k)
          apart (yes h) = let z : min far n ≡ n = omega arith in rw z
          apart (no h) =
              let z : min far n ≡ far = omega arith in
              let a = pow_grows n k in
              let b = pow_grows far k in
              rw z (signed_over neg (n * 10 ^ k) (omega (arith, a)) ∙ sym (signed_over neg (far * 10 ^ k) (omega (arith, b))))
      small false = sym (signed_over neg far (omega arith))

      go : (t : Bool) → eqb n 0 ≡ t → (l : Bool) → and_then (pick t (Some 0) (provided l (n * 10 ^ k))) (signed_to neg) ≡ signed_to neg (pick (eqb (min far n) 0) 0 (pick l (min far n * 10 ^ k) far))
      go true e l = let z : min far n ≡ 0 = let q = eqb-true n 0 e in omega arith in rw z
      go false e l = rw (ne_eqb (min far n) 0 (λ z. eqb-false n 0 e (omega arith))) (small l)

  lowered_is : (d : List ℕ) (k : ℕ) → and_then (lowered d k) (signed_to neg) ≡ signed_to neg (worth_of far d (length d - k) 0)
  unfolding and_then pick
  lowered_is d k = rw (worth_is far d (length d - k) 0 (omega arith)) (go (all_of (λ b. eqb b digit_zero) (drop (length d - k) d)))
    where
      go : (t : Bool) → and_then (provided t (value 0 (take (length d - k) d))) (signed_to neg) ≡ signed_to neg (pick t (min far (value 0 (take (length d - k) d))) far)
      go true = sym (signed_cap neg (value 0 (take (length d - k) d)))
      go false = sym (signed_over neg far (omega arith))

  all_is : (d : List ℕ) (k : ℕ) → length d ≤ k → worth_of far d k 0 ≡ min far (value 0 d)
  unfolding all_of pick
  all_is d k h = worth_is far d k 0 (omega arith) ∙ rw (drop_of_length-le d h, take_all k d h)

  -- the point to the left
  moved_down : (i f : List ℕ) (x : ℕ) → and_then (moved (i ⊕ f) 0 (length f + x)) (signed_to neg) ≡ signed_to neg (worth_by true i f x)
  unfolding pick
  moved_down i f x = rw (raised_none (worth_of far (i ⊕ f) (length i - x) 0)) (go (leb (length f + x) 0) refl)
    where
      go : (t : Bool) → leb (length f + x) 0 ≡ t →
          and_then (pick t (raised (value 0 (i ⊕ f)) (0 - (length f + x))) (lowered (i ⊕ f) (length f + x - 0))) (signed_to neg) ≡ signed_to neg (worth_of far (i ⊕ f) (length i - x) 0)
      go true e =
          let h = leb-true (length f + x) 0 e in
          let l = length_both i f in
          let z : 0 - (length f + x) ≡ 0 = omega arith in
          raised_is (value 0 (i ⊕ f)) (0 - (length f + x))
          ∙ rw (z, raised_none (min far (value 0 (i ⊕ f))), all_is (i ⊕ f) (length i - x) (omega (arith, l, h)))
      go false e =
          let l = length_both i f in
          let z : length (i ⊕ f) - (length f + x - 0) ≡ length i - x = omega (arith, l) in
          lowered_is (i ⊕ f) (length f + x - 0) ∙ rw z

  -- the point to the right
  moved_up : (i f : List ℕ) (x : ℕ) → and_then (moved (i ⊕ f) x (length f + 0)) (signed_to neg) ≡ signed_to neg (worth_by false i f x)
  unfolding pick
  moved_up i f x = go (leb (length f + 0) x) refl
    where
      go : (t : Bool) → leb (length f + 0) x ≡ t →
          and_then (pick t (raised (value 0 (i ⊕ f)) (x - (length f + 0))) (lowered (i ⊕ f) (length f + 0 - x))) (signed_to neg) ≡ signed_to neg (worth_by false i f x)
      go true e =
          let h = leb-true (length f + 0) x e in
          let l = length_both i f in
          let z : x - (length f + 0) ≡ x - length f = omega arith in
          let k : length i + min x (length f) ≡ length i + length f = omega arith in
          raised_is (value 0 (i ⊕ f)) (x - (length f + 0))
          ∙ rw (z, k, all_is (i ⊕ f) (length i + length f) (omega (arith, l)))
      go false e =
          let h = leb-false (length f + 0) x e in
          let l = length_both i f in
          let z : length (i ⊕ f) - (length f + 0 - x) ≡ length i + min x (length f) = kept_part (length (i ⊕ f)) (length i) (length f) x l h in
          let y : x - length f ≡ 0 = omega arith in
          lowered_is (i ⊕ f) (length f + 0 - x) ∙ rw (z, y, raised_none (worth_of far (i ⊕ f) (length i + min x (length f)) 0))
        where
          kept_part : (n i f x : ℕ) → n ≡ i + f → x < f + 0 → n - (f + 0 - x) ≡ i + min x f
          kept_part n i f x l h = let m : min x f ≡ x = omega arith in rw m (omega arith)

-- ---- the whole number

past_sign : (s : List ℕ) → past is_e (after_sign s) ≡ past is_e s
unfolding past after_sign pick ◌or◌
past_sign [] = refl
past_sign (b ∷ s) = go (eqb b 45) refl (eqb b 43) refl
  where
    go : (x : Bool) → eqb b 45 ≡ x → (y : Bool) → eqb b 43 ≡ y → past is_e (pick (x or y) s (b ∷ s)) ≡ pick (is_e b) s (past is_e s)
    go true e y q = rw (eqb-true b 45 e)
    go false e true q = rw (eqb-true b 43 q)
    go false e false q = refl

-- by whether the exponent has a minus
by_exponent : (neg : Bool) (i f : List ℕ) (x : ℕ) (t : Bool) → and_then (moved (i ⊕ f) (pick t 0 x) (length f + pick t x 0)) (signed_to neg) ≡ signed_to neg (worth_by t i f x)
unfolding pick
by_exponent neg i f x true = moved_down neg i f x
by_exponent neg i f x false = moved_up neg i f x

pub number_is : (s : List ℕ) → read_number s ≡ signed_to (has_minus s) (magnitude_of (after_sign s))
unfolding magnitude_of signed_to
number_is s = rw (past_sign s) (by_exponent (has_minus s) (int s) (frac s) (value 0 (after_sign (exp s))) (has_minus (exp s)))

-- ---- an exponent up to a cap

module _ (c : ℕ) (i f : List ℕ) (x : ℕ) (h : length i + length f + 10 ≤ c) where
  kept_capped : (n m : ℕ) → n + m + 10 ≤ c → (t : Bool) → kept_of t n m (min c x) ≡ kept_of t n m x
  kept_capped n m k true = omega arith
  kept_capped n m k false = omega arith

  far_up : (v a b : ℕ) → 10 ≤ a → 10 ≤ b → raised_to v a ≡ raised_to v b
  unfolding raised_to pick
  far_up v a b p q = rw (le-ltb a 10 p, le-ltb b 10 q)

  pub capped_is : (t : Bool) → worth_by t i f (min c x) ≡ worth_by t i f x
  capped_is true = rw (kept_capped (length i) (length f) h true)
  capped_is false = rw (kept_capped (length i) (length f) h false) (go (dec_le x c))
    where
      go : Dec (x ≤ c) → raised_to (worth_of far (i ⊕ f) (kept_of false (length i) (length f) x) 0) (min c x - length f)
          ≡ raised_to (worth_of far (i ⊕ f) (kept_of false (length i) (length f) x) 0) (x - length f)
      go (yes k) = let z : min c x ≡ x = omega arith in rw z
      go (no k) = let z : min c x ≡ c = omega arith in rw z (far_up _ (c - length f) (x - length f) (omega (arith, h)) (omega (arith, h)))

-- ---- the walk to a mark

up_from : (p : ℕ → Bool) (s : List ℕ) → up_to p s ⊕ from_on p s ≡ s
unfolding up_to from_on ◌⊕◌ pick
up_from p [] = refl
up_from p (b ∷ s) = go (p b) (up_from p s)
  where
    go : (t : Bool) → up_to p s ⊕ from_on p s ≡ s → pick t [] (b ∷ up_to p s) ⊕ pick t (b ∷ s) (from_on p s) ≡ b ∷ s
    go true ih = refl
    go false ih = ap (λ (l : List ℕ). b ∷ l) ih

pub mark_point : (point : Bool) (u : ℕ) → point ≡ true → eqb u 46 ≡ mark_of point u
mark_point point u h = rw h

pub mark_letter : (point : Bool) (u : ℕ) {r : Bool} → point ≡ false → r ≡ is_e u → r ≡ mark_of point u
mark_letter point u h e = rw h e

pub record Marking (p : ℕ → Bool) (s : List ℕ) (at i : ℕ) : Type 0 where
  pub from : from_on p (rest 0 s at) ≡ from_on p (rest 0 s i)
  pub behind : past p (rest 0 s at) ≡ past p (rest 0 s i)
  pub onward : at ≤ i
  pub inside : i ≤ length s

pub marking_start : (p : ℕ → Bool) (s : List ℕ) (at : ℕ) → at ≤ length s → Marking p s at at
marking_start p s at h = record { from = refl; behind = refl; onward = omega arith; inside = h }

module _ {p : ℕ → Bool} {s : List ℕ} {at i : ℕ} (w : Marking p s at i) where
  marked : from_on p (rest 0 s i) ≡ rest 0 s i → past p (rest 0 s i) ≡ rest 0 s (i + 1) → MarkAt p s at i
  marked f b = record {
    before = cut_is 0 s (up_to p (rest 0 s at)) at i refl w.onward (reach_other 0 s at i refl) (sym (up_from p (rest 0 s at)) ∙ ap (λ (l : List ℕ). up_to p (rest 0 s at) ⊕ l) (w.from ∙ f));
    behind = sym (w.behind ∙ b);
    onward = w.onward;
    inside = w.inside;
  }

  pub marking_past : length s ≤ i → MarkAt p s at i
  unfolding from_on past
  marking_past h =
      let e = rest_past 0 s i refl h in
      let g = rest_past 0 s (i + 1) refl (omega arith) in
      marked (rw e) (rw (e, g))

  module _ (h : i < length s) {u : ℕ} (e : (u ≡ get_or s i 0) × (u < 256)) {t : Bool} (q : t ≡ p u) where
    here : rest 0 s i ≡ u ∷ rest 0 s (i + 1)
    here = rest_byte (plain_byte s i u h e.0 e.1) (λ z. omega (arith, e.1))

    pub marking_more : t ≡ false → Marking p s at (i + 1)
    unfolding from_on past pick
    marking_more y = record { from = w.from ∙ rw (here, ← q, y); behind = w.behind ∙ rw (here, ← q, y); onward = omega (arith, w.onward); inside = omega arith }

    pub marking_stop : t ≡ true → MarkAt p s at i
    unfolding from_on past pick
    marking_stop y = marked (rw (here, ← q, y)) (rw (here, ← q, y))

pub ruleset marking = (marking_start, marking_past, marking_more, marking_stop, rules)

-- ---- signs

module _ (s : List ℕ) (at : ℕ) where
  pub no_minus : length s ≤ at → false ≡ has_minus (rest 0 s at)
  unfolding has_minus
  no_minus h = rw (rest_past 0 s at refl h)

  pub sign_past : length s ≤ at → at ≤ length s → SignAt s at at
  unfolding after_sign
  sign_past h l = record { is = rw (rest_past 0 s at refl h); inside = l }

  module _ {u : ℕ} (h : at < length s) (e : (u ≡ get_or s at 0) × (u < 256)) where
    there : rest 0 s at ≡ u ∷ rest 0 s (at + 1)
    there = rest_byte (plain_byte s at u h e.0 e.1) (λ z. omega (arith, e.1))

    pub is_minus : eqb u 45 ≡ has_minus (rest 0 s at)
    unfolding has_minus
    is_minus = rw there

    pub sign_minus : u ≡ 45 → SignAt s at (at + 1)
    unfolding after_sign pick ◌or◌
    sign_minus z = record { is = rw (there, z); inside = omega arith }

    pub sign_plus : u ≡ 43 → SignAt s at (at + 1)
    unfolding after_sign pick ◌or◌
    sign_plus z = record { is = rw (there, z); inside = omega arith }

    pub sign_none : (u ≡ 45 → ⊥) → (u ≡ 43 → ⊥) → SignAt s at at
    unfolding after_sign pick ◌or◌
    sign_none y z = record { is = rw (there, ne_eqb u 45 y, ne_eqb u 43 z); inside = omega arith }

pub ruleset signs = (no_minus, is_minus, sign_past, sign_minus, sign_plus, sign_none, rules)

-- ---- the parts

module _ (down : Bool) (before behind x : ℕ) where
  pub kept_none : down ≡ true → before < x → 0 ≡ kept_of down before behind x
  kept_none h l = rw h (omega arith)

  pub kept_less : down ≡ true → before - x ≡ kept_of down before behind x
  kept_less h = rw h

  pub kept_more : {m : ℕ} → down ≡ false → m ≡ min x behind → before + m ≡ kept_of down before behind x
  kept_more h e = rw (h, e)

  pub up_none : down ≡ true → 0 ≡ up_of down behind x
  up_none h = rw h

  pub up_less : down ≡ false → x < behind → 0 ≡ up_of down behind x
  up_less h l = rw h (omega arith)

  pub up_more : down ≡ false → x - behind ≡ up_of down behind x
  up_more h = rw h

pub ruleset counting = (kept_none, kept_less, kept_more, up_none, up_less, up_more, rules)

pub power_is : (k : ℕ) → k < 10 → Power k (get_or (1 ∷ 10 ∷ 100 ∷ 1000 ∷ 10000 ∷ 100000 ∷ 1000000 ∷ 10000000 ∷ 100000000 ∷ 1000000000 ∷ []) k 0)
power_is zero h = record { is = refl; low = omega arith }
power_is (suc zero) h = record { is = refl; low = omega arith }
power_is (suc (suc zero)) h = record { is = refl; low = omega arith }
power_is (suc (suc (suc zero))) h = record { is = refl; low = omega arith }
power_is (suc (suc (suc (suc zero)))) h = record { is = refl; low = omega arith }
power_is (suc (suc (suc (suc (suc zero))))) h = record { is = refl; low = omega arith }
power_is (suc (suc (suc (suc (suc (suc zero)))))) h = record { is = refl; low = omega arith }
power_is (suc (suc (suc (suc (suc (suc (suc zero))))))) h = record { is = refl; low = omega arith }
power_is (suc (suc (suc (suc (suc (suc (suc (suc zero)))))))) h = record { is = refl; low = omega arith }
power_is (suc (suc (suc (suc (suc (suc (suc (suc (suc zero))))))))) h = record { is = refl; low = omega arith }
power_is (suc (suc (suc (suc (suc (suc (suc (suc (suc (suc k)))))))))) h = absurd (omega arith)

pub raise_fits : (v k p : ℕ) → v ≤ 4294967296 → Power k p → v * p < 2 ^ 64
raise_fits v k p h e =
    let l = e.low in
    let a = mul-le-mul_left v l in
    let b = mul-le-mul_right 1000000000 h in
    omega (arith, a, b)

module _ (v k : ℕ) where
  pub raise_zero : v ≡ 0 → 0 ≡ raised_to v k
  unfolding raised_to pick
  raise_zero h = rw (eq-eqb v 0 h)

  pub raise_some : {p : ℕ} → (v ≡ 0 → ⊥) → k < 10 → Power k p → v * p ≡ raised_to v k
  unfolding raised_to pick
  raise_some h l e = rw (ne_eqb v 0 h, lt-ltb k 10 l, e.is)

  pub raise_far : (v ≡ 0 → ⊥) → 10 ≤ k → 4294967296 ≡ raised_to v k
  unfolding raised_to pick
  raise_far h l = rw (ne_eqb v 0 h, le-ltb k 10 l)

pub ruleset raising = (raise_fits, raise_zero, raise_some, raise_far, rules)

-- ---- the parts put together

rest-length : (s : List ℕ) (a e : ℕ) → e ≤ length s → length (rest 0 (take e s) a) ≡ e - a
unfolding rest pick
rest-length s a e h = length-drop a (take e s) ∙ rw (length-take-le e s h)

pub both_is : (s : List ℕ) (a q e keep : ℕ) → a ≤ q → q ≤ e → e ≤ length s → {v k r : ℕ} →
    Worth 4294967296 (rest 0 (take q s) a) keep 0 v → k ≡ keep - (q - a) → Worth 4294967296 (rest 0 (take e s) (q + 1)) k v r →
    Worth 4294967296 (rest 0 (take q s) a ⊕ rest 0 (take e s) (q + 1)) keep 0 r
both_is s a q e keep h l m f g d = record {
  is = d.is ∙ rw (g, f.is) (sym (worth_join 4294967296 (rest 0 (take q s) a) (rest 0 (take e s) (q + 1)) keep 0 ∙ rw (rest-length s a q (omega arith))));
  low = d.low;
}

rest_all : (s : List ℕ) (b : ℕ) → length (rest 0 s b) ≤ length s
unfolding rest pick
rest_all s b = rw (length-drop b s) (omega arith)

-- the exponent, by the place of its digits
pub exponent_is : (s : List ℕ) (e : ℕ) {c b w : ℕ} {d : Bool} → e ≤ length s → c ≡ min (e + 1) (length s) →
    d ≡ has_minus (rest 0 s c) →
    SignAt s c b → Worth (length s + 10) (rest 0 s b) (length s) 0 w →
    ExponentAt s e (record { down = d; worth = w })
unfolding all_of pick
exponent_is s e {c} {b} {w} {d} l h p q f = record {
  down = p ∙ ap has_minus same_rest;
  worth = f.is ∙ worth_is (length s + 10) (rest 0 s b) (length s) 0 (omega arith)
      ∙ rw (drop_of_length-le (rest 0 s b) (rest_all s b), take_all (length s) (rest 0 s b) (rest_all s b), q.is, same_rest);
}
  where
    same_rest : rest 0 s c ≡ rest 0 s (e + 1)
    same_rest = go (dec_le (length s) e)
      where
        go : Dec (length s ≤ e) → rest 0 s c ≡ rest 0 s (e + 1)
        go (yes k) = rest_past 0 s c refl (omega arith) ∙ sym (rest_past 0 s (e + 1) refl (omega arith))
        go (no k) = let z : c ≡ e + 1 = omega arith in rw z

-- a mark before another
pub marks_order : {p r : ℕ → Bool} {s : List ℕ} {a e q : ℕ} → MarkAt p s a e → MarkAt r (take e s) a q → (a ≤ q) × (q ≤ e) × (e ≤ length s)
marks_order {p} {r} {s} {a} {e} {q} m n = (n.onward, rw (length-take-le e s m.inside) at n.inside, m.inside)

pub magnitude_is : (s : List ℕ) (a : ℕ) {e q behind keep v more r : ℕ} {x : Exponent} →
    MarkAt is_e s a e → ExponentAt s e x → MarkAt is_point (take e s) a q → behind ≡ e - (q + 1) →
    keep ≡ kept_of x.down (q - a) behind x.worth →
    Worth 4294967296 (rest 0 (take q s) a ⊕ rest 0 (take e s) (q + 1)) keep 0 v →
    more ≡ up_of x.down behind x.worth → r ≡ raised_to v more → r ≡ magnitude_of (rest 0 s a)
unfolding magnitude_of
magnitude_is s a {e} {q} {behind} {keep} {v} {more} {r} {x} m y p b k f z g =
    let n : q ≤ e = (marks_order m p).1 in
    let i : rest 0 (take q s) a ≡ up_to is_point (up_to is_e (rest 0 s a)) = rw (take-take q e s n, m.before) at p.before in
    let j : rest 0 (take e s) (q + 1) ≡ past is_point (up_to is_e (rest 0 s a)) = rw m.before at p.behind in
    let li : length (rest 0 (take q s) a) ≡ q - a = rest-length s a q (omega (arith, n, m.inside)) in
    let lf : length (rest 0 (take e s) (q + 1)) ≡ e - (q + 1) = rest-length s (q + 1) e m.inside in
    let w : worth_by x.down (rest 0 (take q s) a) (rest 0 (take e s) (q + 1)) x.worth
    ≡ worth_by (has_minus (rest 0 s (e + 1))) (rest 0 (take q s) a) (rest 0 (take e s) (q + 1)) (value 0 (after_sign (rest 0 s (e + 1)))) =
    rw (y.down, y.worth)
    (capped_is (length s + 10) (rest 0 (take q s) a) (rest 0 (take e s) (q + 1)) (value 0 (after_sign (rest 0 s (e + 1)))) (omega (arith, li, lf, n, m.inside, p.onward)) (has_minus (rest 0 s (e + 1)))) in
    let u : worth_by (has_minus (rest 0 s (e + 1))) (rest 0 (take q s) a) (rest 0 (take e s) (q + 1)) (value 0 (after_sign (rest 0 s (e + 1)))) ≡ magnitude_of (rest 0 s a) = rw (i, j, m.behind) in
    g ∙ rw (f.is, k, z, b, ← li, ← lf) (w ∙ u)

-- ---- the number

module _ (neg : Bool) {n t : ℕ} (e : Most neg t) where
  pub signed_bad : t < n → signed_to neg n ≡ None
  unfolding signed_to pick
  signed_bad h = rw (← e.is, lt-leb n t h)

  pub signed_zero : n ≡ 0 → signed_to neg n ≡ Some (whole_is false 0)
  unfolding signed_to pick ◌and◌
  signed_zero h = rw (h) (go neg)
    where
      go : (b : Bool) → provided (leb 0 (most b)) (integer_of b 0) ≡ Some (whole_is false 0)
      go true = refl
      go false = refl

  pub signed_some : n ≤ t → (n ≡ 0 → ⊥) → signed_to neg n ≡ Some (whole_is neg n)
  unfolding signed_to pick ◌and◌
  signed_some h z = rw (← e.is, le-leb n t h, lt-ltb 0 n (omega (arith, z))) (go neg)
    where
      go : (b : Bool) → Some (whole_is (b and true) n) ≡ Some (whole_is b n)
      go true = refl
      go false = refl

pub ruleset signing = (signed_bad, signed_zero, signed_some, rules)

pub read_is : (s : List ℕ) (at : ℕ) {neg : Bool} {a n : ℕ} {o : Option Whole} → neg ≡ has_minus (rest 0 s at) →
    SignAt s at a → n ≡ magnitude_of (rest 0 s a) → signed_to neg n ≡ o → read_number (rest 0 s at) ≡ o
read_is s at e f g h = number_is (rest 0 s at) ∙ rw (← e, ← f.is, ← g) h

pub ruleset numbering = (both_is, exponent_is, magnitude_is, read_is, length-take-le, rules)
