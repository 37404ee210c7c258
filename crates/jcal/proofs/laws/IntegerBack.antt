-- An INTEGER that is written is read back by its value.
--     number_back
use Rattle.std.specs.Prelude.{◌≡◌, refl, Bool, true, false, List, [], ◌∷◌, ℕ, ◌*◌, ◌^◌, ◌≤◌, ◌<◌, eqb, leb, Some}
use Rattle.std.proofs.Common.{sym, ap, ◌∙◌, arith, eqb-true, lt-ltb, leb-true}
use Rattle.octets.specs.Pick.{pick, ◌and◌, ◌or◌, within}
use Rattle.octets.specs.laws.Pick.{and_both, or_left, eqb_apart}
use Rattle.octets.specs.laws.Append.{append_none}
use Rattle.octets.specs.Scan.{all_of}
use Rattle.octets.specs.laws.Scan.{all_split}
use Rattle.octets.specs.Front.{up_to, past}
use Rattle.octets.specs.Class.{is_digit}
use Rattle.octets.specs.Decimal.{value, digits}
use Rattle.octets.specs.laws.Decimal.{digits_value, digits_all}
use Rattle.octets.specs.Reading.{provided, and_then}
use Rattle.calendar.specs.Calendar.{Whole}
use Rattle.numbers.specs.Sign.{has_minus, after_sign}
use Rattle.numbers.specs.Integer.{most, integer_of, write_integer, is_integer}
use Rattle.numbers.specs.laws.Integer.{whole_minus, whole_rest, whole_all}
use Rattle.json_text.specs.Bytes.{is_e}
use Rattle.jcal.specs.Integer.{is_point, raised, read_number}

-- digits have no point and no e; nor has a minus
is_plain : ℕ → Bool
is_plain b = is_digit b or eqb b 45

up_to_all : (p : ℕ → Bool) (s : List ℕ) → (q : ℕ → Bool) → ((b : ℕ) → q b ≡ true → p b ≡ false) → all_of q s ≡ true → (up_to p s ≡ s) × (past p s ≡ [])
unfolding up_to past pick
up_to_all p [] q f h = (refl, refl)
up_to_all p (b ∷ s) q f h =
    let a = all_split q b s h in
    let r = up_to_all p s q f a.1 in
    (rw (f b a.0) (ap (λ (l : List ℕ). b ∷ l) r.0), rw (f b a.0) r.1)

digit_no_point : (b : ℕ) → is_digit b ≡ true → is_point b ≡ false
unfolding ◌and◌
digit_no_point b h = eqb_apart is_digit b 46 h refl

digit_no_e : (b : ℕ) → is_digit b ≡ true → is_e b ≡ false
unfolding ◌and◌ ◌or◌
digit_no_e b h = rw (eqb_apart is_digit b 101 h refl, eqb_apart is_digit b 69 h refl)

raised_none : (n : ℕ) → raised n 0 ≡ Some n
unfolding pick
raised_none n = go (eqb n 0) refl
  where
    go : (t : Bool) → eqb n 0 ≡ t → pick t (Some 0) (Some (n * 1)) ≡ Some n
    go true e = ap Some (sym (eqb-true n 0 e))
    go false e = ap Some (omega arith)

module _ (d : List ℕ) (h : all_of is_digit d ≡ true) where
  plain_e : (up_to is_e d ≡ d) × (past is_e d ≡ [])
  plain_e = up_to_all is_e d is_digit digit_no_e h

  plain_point : (up_to is_point d ≡ d) × (past is_point d ≡ [])
  plain_point = up_to_all is_point d is_digit digit_no_point h

  -- from the parts of a number that has neither fraction nor exponent
  plain_number : (s : List ℕ) → after_sign s ≡ d → past is_e s ≡ [] → read_number s ≡ provided (leb (value 0 d) (most (has_minus s))) (integer_of (has_minus s) (value 0 d))
  unfolding and_then has_minus after_sign value pick
  plain_number s u e =
      rw (u, plain_e.0, plain_point.0, plain_point.1, e, append_none d, raised_none (value 0 d))

-- a minus is neither
plain_no_e : (b : ℕ) → is_plain b ≡ true → is_e b ≡ false
unfolding is_plain ◌and◌ ◌or◌
plain_no_e b h = rw (eqb_apart is_plain b 101 h refl, eqb_apart is_plain b 69 h refl)

digit_plain : (b : ℕ) → is_digit b ≡ true → is_plain b ≡ true
unfolding is_plain
digit_plain b h = or_left (is_digit b) (eqb b 45) h

minus_plain : is_plain 45 ≡ true
unfolding is_plain ◌and◌ ◌or◌
minus_plain = refl

pub number_back : (w : Whole) → is_integer w ≡ true → read_number (write_integer w) ≡ Some w
unfolding pick ◌and◌
number_back w h =
    plain_number (digits 9 w.magnitude) (digits_all 9 w.magnitude) (write_integer w) (whole_rest w)
    (up_to_all is_e (write_integer w) is_plain plain_no_e (whole_all is_plain digit_plain minus_plain w)).1
    ∙ rw (whole_minus w) (go w.negative w.magnitude h)
  where
    go : (m : Bool) (n : ℕ) → pick m (within 1 2147483648 n) (leb n 2147483647) ≡ true →
        provided (leb (value 0 (digits 9 n)) (most m)) (integer_of m (value 0 (digits 9 n))) ≡ Some (record { negative = m; magnitude = n })
    go true n k =
        let p = and_both (leb 1 n) (leb n 2147483648) k in
        let l : n ≤ 2147483648 = leb-true n 2147483648 p.1 in
        let g : n < 10 ^ 10 = omega arith in
        rw (digits_value 9 n g, p.1, lt-ltb 0 n (leb-true 1 n p.0))
    go false n k =
        let l : n ≤ 2147483647 = leb-true n 2147483647 k in
        let g : n < 10 ^ 10 = omega arith in
        rw (digits_value 9 n g, k)
