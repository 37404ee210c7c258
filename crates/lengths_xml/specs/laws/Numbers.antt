-- Numbers are written with no more digits than they are read from, and a sign.
--     numeral_length, number_some    the digits of a number, which is read from some digit;   signed_length, whole_length, whole_some: with a sign
--     integer_length, integer_some, truth_length, truth_some    a number, a truth value, and what it is read from
--     written_length    a decimal number has its digits, and a sign, a zero and a point;   float_length, float_some: by what it is read from
--     Geo, geo_length    a latitude and a longitude
use Rattle.std.specs.Prelude.{◌≡◌, refl, Bool, true, false, List, [], ◌∷◌, ℕ, suc, ◌+◌, ◌-◌, ◌*◌, ◌^◌, ◌≤◌, ◌<◌, eqb, length, None, Some}
use Rattle.std.proofs.Common.{ap, arith, ltb-true}
use Rattle.std.proofs.Math.Nat.{pow-succ'}
use Rattle.octets.specs.Ascii.{ascii}
use Rattle.octets.specs.Pick.{pick, ◌and◌, ◌or◌}
use Rattle.octets.specs.laws.Pick.{pick_either, pick_case, and_both}
use Rattle.octets.specs.Append.{◌⊕◌}
use Rattle.octets.specs.laws.Append.{length_both}
use Rattle.octets.specs.Class.{is_digit, upper}
use Rattle.octets.specs.laws.Class.{digit_range}
use Rattle.octets.specs.laws.Letters.{upper-length}
use Rattle.octets.specs.Words.{same, is_empty, cut_at}
use Rattle.octets.specs.laws.Words.{same_true}
use Rattle.octets.specs.Decimal.{digit_of, value, is_number, digits}
use Rattle.octets.specs.laws.Decimal.{digits_short}
use Rattle.octets.specs.Reading.{provided, and_then}
use Rattle.octets.specs.laws.Reading.{provided-some, and_then-some, none-some}
use Rattle.calendar.specs.Calendar.{ical, xcal, Whole, Decimal, Value, geo}
use Rattle.numbers.specs.Sign.{after_sign, minus_if, has_minus, is_digits}
use Rattle.numbers.specs.Integer.{most, integer_of, read_integer, write_integer}
use Rattle.numbers.specs.Boolean.{read_boolean, write_boolean}
use Rattle.numbers.specs.Float.{decimal, fraction, pointed, spelled, no_leading, kept, no_trailing, normal, read_float, or_zero, after_point, write_float}
use Rattle.numbers.specs.Geo.{longitude, coordinates, read_geo}
use Rattle.lengths_xml.specs.laws.Elements.{rate}
use Rattle.lengths_xml.specs.laws.Pieces.{weight, cut_weight}

abbrev Within : ℕ → List ℕ → Type 0
Within n s = length s ≤ n

-- ---- whole numbers

digit_small : (b : ℕ) → digit_of b ≤ 9
digit_small b = pick_case (λ (d : ℕ). d ≤ 9) (is_digit b) (b - 48) 0 (λ e. let q = digit_range b e in omega arith) (λ e. omega arith)

-- digits are worth less than as many zeros after a one
value_below : (s : List ℕ) (n k : ℕ) → n < 10 ^ k → value n s < 10 ^ (length s + k)
unfolding value
value_below [] n k h = let same : 0 + k ≡ k = omega arith in rw same h
value_below (b ∷ s) n k h =
    let next : n * 10 + digit_of b < 10 ^ suc k = rw pow-succ' (omega (arith, h, digit_small b)) in
    let more : length s + suc k ≡ suc (length s) + k = omega arith in
    rw (← more) (value_below s (n * 10 + digit_of b) (suc k) next)

pub number_some : (most : ℕ) (s : List ℕ) → is_number most s ≡ true → 1 ≤ length s
number_some most s h = ltb-true 0 (length s) (and_both _ _ h).0

pub numeral_length : (most : ℕ) (s : List ℕ) → is_number most s ≡ true → length (digits 9 (value 0 s)) ≤ length s
numeral_length most s h =
    let all : length s + 0 ≡ length s = omega arith in
    let below : value 0 s < 10 ^ length s = rw (← all) (value_below s 0 0 (omega arith)) in
    digits_short 9 (length s) (value 0 s) (number_some most s h) below

pub signed_length : (m : Bool) (s : List ℕ) → length (minus_if m s) ≤ suc (length s)
signed_length m s = pick_either (Within (suc (length s))) m (45 ∷ s) s (omega arith) (omega arith)

pub unsigned_length : (s : List ℕ) → length (after_sign s) ≤ length s
unfolding after_sign
unsigned_length [] = omega arith
unsigned_length (b ∷ s) = pick_either (Within (suc (length s))) (eqb b 45 or eqb b 43) s (b ∷ s) (omega arith) (omega arith)

-- a number that was read from digits after a sign
pub whole_length : (most : ℕ) (m : Bool) (s : List ℕ) → is_number most (after_sign s) ≡ true → length (minus_if m (digits 9 (value 0 (after_sign s)))) ≤ length s + 1
whole_length most m s h = omega (arith, signed_length m (digits 9 (value 0 (after_sign s))), numeral_length most (after_sign s) h, unsigned_length s)

pub whole_some : (most : ℕ) (s : List ℕ) → is_number most (after_sign s) ≡ true → 1 ≤ length s
whole_some most s h = omega (arith, number_some most (after_sign s) h, unsigned_length s)

pub integer_length : (s : List ℕ) (w : Whole) → read_integer s ≡ Some w → length (write_integer w) ≤ length s + 1
integer_length s w h =
    let q = provided-some (is_number (most (has_minus s)) (after_sign s)) (integer_of (has_minus s) (value 0 (after_sign s))) w h in
    rw (← q.1) (whole_length (most (has_minus s)) _ s q.0)

pub integer_some : (s : List ℕ) (w : Whole) → read_integer s ≡ Some w → 1 ≤ length s
integer_some s w h = whole_some (most (has_minus s)) s (provided-some (is_number (most (has_minus s)) (after_sign s)) (integer_of (has_minus s) (value 0 (after_sign s))) w h).0

-- ---- truth values

pub truth_length : (b : Bool) → length (write_boolean xcal b) ≤ 5
truth_length b = pick_either (Within 5) b (ascii "true") (ascii "false") (omega arith) (omega arith)

pub truth_some : (s : List ℕ) (b : Bool) → read_boolean ical s ≡ Some b → 4 ≤ length s
unfolding pick
truth_some s b h = go (same (upper s) (ascii "TRUE")) refl h
  where
    go : (t : Bool) → same (upper s) (ascii "TRUE") ≡ t → pick t (Some true) (provided (same (upper s) (ascii "FALSE")) false) ≡ Some b → 4 ≤ length s
    go true e k = omega (arith, ap length (same_true (upper s) (ascii "TRUE") e), upper-length s)
    go false e k = omega (arith, ap length (same_true (upper s) (ascii "FALSE") (provided-some (same (upper s) (ascii "FALSE")) false b k).0), upper-length s)

-- ---- decimal numbers

fraction-length : (ps : List (List ℕ)) (a : List ℕ) → fraction ps ≡ Some a → length a ≤ weight ps
unfolding fraction weight
fraction-length [] a h = let q : [] ≡ a = cc in rw (← q) (omega arith)
fraction-length (p ∷ ps) a h = rw (← (provided-some (is_digits p and is_empty ps) p a h).1) (omega arith)

-- the digits before the point and after it
abbrev digits_in : Decimal → ℕ
digits_in d = length d.before + length d.after

-- there is a digit, and what was read has a byte more than the digits
abbrev Pointed : ℕ → Decimal → Type 0
Pointed n d = (1 ≤ digits_in d) × (digits_in d + 1 ≤ n)

pointed_length : (m : Bool) (ps : List (List ℕ)) (d : Decimal) → pointed m ps ≡ Some d → Pointed (weight ps) d
unfolding pointed weight pick
pointed_length m [] d h = none-some h
pointed_length m (b ∷ ps) d h = go (is_digits b) refl h
  where
    go : (t : Bool) → is_digits b ≡ t → pick t (and_then (fraction ps) (λ a. Some (decimal m b a))) None ≡ Some d → Pointed (length b + 1 + weight ps) d
    go true e k =
        let q = and_then-some (fraction ps) (λ a. Some (decimal m b a)) d k in
        let i : decimal m b q.0 ≡ d = cc q.2 in
        let l : 0 < length b = ltb-true 0 (length b) (and_both _ _ e).0 in
        rw (← i) (omega arith, omega (arith, fraction-length ps q.0 q.1))
    go false e k = none-some k

spelled-length : (s : List ℕ) (d : Decimal) → spelled s ≡ Some d → Pointed (suc (length s)) d
spelled-length s d h =
    let p = pointed_length (has_minus s) (cut_at 46 (after_sign s)) d h in
    (p.0, omega (arith, p.1, cut_weight 46 (after_sign s), unsigned_length s))

leading_length : (s : List ℕ) → length (no_leading s) ≤ length s
unfolding no_leading
leading_length [] = omega arith
leading_length (b ∷ s) = pick_either (Within (suc (length s))) (eqb b 48) (no_leading s) (b ∷ s) (omega (arith, leading_length s)) (omega arith)

kept_length : (b : ℕ) (s : List ℕ) → length (kept b s) ≤ suc (length s)
unfolding kept
kept_length b [] = pick_either (Within 1) (eqb b 48) [] (b ∷ []) (omega arith) (omega arith)
kept_length b (c ∷ s) = omega arith

trailing_length : (s : List ℕ) → length (no_trailing s) ≤ length s
unfolding no_trailing
trailing_length [] = omega arith
trailing_length (b ∷ s) = omega (arith, kept_length b (no_trailing s), trailing_length s)

zero_length : (s : List ℕ) → length (or_zero s) ≤ suc (length s)
unfolding or_zero
zero_length [] = omega arith
zero_length (b ∷ s) = omega arith

point_length : (s : List ℕ) → length (after_point s) ≤ suc (length s)
unfolding after_point
point_length [] = omega arith
point_length (b ∷ s) = omega arith

pub written_length : (d : Decimal) → length (write_float d) ≤ digits_in d + 3
written_length d =
    let a : List ℕ = or_zero d.before in
    let b : List ℕ = after_point d.after in
    omega (arith, signed_length d.minus (a ⊕ b), length_both a b, zero_length d.before, point_length d.after)

pub float_length : (s : List ℕ) (d : Decimal) → read_float s ≡ Some d → length (write_float d) ≤ length s + 3
float_length s d h =
    let q = and_then-some (spelled s) (λ x. Some (normal x)) d h in
    let x : Decimal = q.0 in
    let e : normal x ≡ d = cc q.2 in
    rw (← e) (omega (arith, written_length (normal x), leading_length x.before, trailing_length x.after, (spelled-length s x q.1).1))

pub float_some : (s : List ℕ) (d : Decimal) → read_float s ≡ Some d → 1 ≤ length s
float_some s d h =
    let q = and_then-some (spelled s) (λ x. Some (normal x)) d h in
    let p = spelled-length s q.0 q.1 in
    omega (arith, p.0, p.1)

-- ---- latitude and longitude

-- both numbers, with every byte escaped, and 36 bytes of their elements
pub record Geo (n : ℕ) (v : Value) : Type 0 where
  pub latitude : Decimal
  pub longitude : Decimal
  pub is : v ≡ geo latitude longitude
  pub short : 36 + 5 * (length (write_float latitude) + length (write_float longitude)) ≤ n

coordinate_length : (s : List ℕ) (d : Decimal) → read_float s ≡ Some d → 5 * length (write_float d) ≤ rate * length s + 1
coordinate_length s d h = omega (arith, float_length s d h, float_some s d h)

longitude-length : (ps : List (List ℕ)) (d : Decimal) → longitude ps ≡ Some d → 5 * length (write_float d) + 18 ≤ rate * weight ps
unfolding longitude pick weight
longitude-length [] d h = none-some h
longitude-length (s ∷ ps) d h = go (is_empty ps) h
  where
    go : (t : Bool) → pick t (read_float s) None ≡ Some d → 5 * length (write_float d) + 18 ≤ rate * (length s + 1 + weight ps)
    go true k = omega (arith, coordinate_length s d k)
    go false k = none-some k

coordinates_length : (ps : List (List ℕ)) (v : Value) → coordinates ps ≡ Some v → Geo (rate * weight ps) v
unfolding coordinates weight
coordinates_length [] v h = none-some h
coordinates_length (s ∷ ps) v h =
    let p = and_then-some (read_float s) (λ la. and_then (longitude ps) (λ lo. Some (geo la lo))) v h in
    let q = and_then-some (longitude ps) (λ lo. Some (geo p.0 lo)) v p.2 in
    record {
      latitude = p.0;
      longitude = q.0;
      is = cc q.2;
      short = omega (arith, coordinate_length s p.0 p.1, longitude-length ps q.0 q.1);
    }

pub geo_length : (s : List ℕ) (v : Value) → read_geo s ≡ Some v → Geo (rate * suc (length s)) v
geo_length s v h = let g = coordinates_length (cut_at 59 s) v h in record { latitude = g.latitude; longitude = g.longitude; is = g.is; short = omega (arith, g.short, cut_weight 59 s) }
