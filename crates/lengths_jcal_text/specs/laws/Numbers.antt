-- Numbers that are read from JSON numbers, written: INTEGER by its value has eleven bytes at most, and few where the number has one byte or two.
--     integer_brief    an INTEGER, and a separator
--     float_brief      a FLOAT, and a separator
--     truth_brief      a BOOLEAN, and a separator
use Rattle.std.specs.Prelude.{◌≡◌, Bool, true, false, ℕ, zero, suc, ◌+◌, ◌-◌, ◌*◌, ◌^◌, ◌≤◌, ◌<◌, eqb, ltb, leb, length, take, drop, Option, None, Some}
use Rattle.std.proofs.Math.Path.{refl}
use Rattle.std.proofs.Common.{ap, arith, length-take, leb-true, eqb-true, ltb-true, ltb-false}
use Rattle.std.proofs.lemmas.Bool.{false≢true}
use mathlib.Core.List.{List, [], ◌∷◌}
use Rattle.octets.specs.Ascii.{ascii}
use Rattle.octets.specs.Pick.{pick, ◌and◌, ◌or◌}
use Rattle.octets.specs.laws.Pick.{pick_either, pick_case, eqb_apart, or_no, or_cases}
use Rattle.octets.specs.Scan.{all_of}
use Rattle.octets.specs.Append.{◌⊕◌}
use Rattle.octets.specs.laws.Append.{length_both, append_empty}
use Rattle.octets.specs.Class.{is_digit}
use Rattle.octets.specs.laws.Class.{digit_range}
use Rattle.octets.specs.Front.{up_to, past}
use Rattle.octets.specs.Words.{is_one_of, cut_at, onto, same}
use Rattle.octets.specs.laws.Words.{same_true}
use Rattle.octets.specs.Decimal.{digit_of, value, digits}
use Rattle.octets.specs.laws.Decimal.{digits_short}
use Rattle.octets.specs.Reading.{provided, and_then}
use Rattle.octets.specs.laws.Reading.{provided-some, and_then-some, none-some}
use Rattle.octets.specs.Computing.{octets_compute}
use Rattle.calendar.specs.Calendar.{ical, xcal, Whole, Decimal}
use Rattle.numbers.specs.Sign.{has_minus, after_sign, minus_if, is_digits}
use Rattle.numbers.specs.Integer.{most, integer_of, write_integer}
use Rattle.numbers.specs.Boolean.{read_boolean, write_boolean}
use Rattle.numbers.specs.Float.{decimal, fraction, pointed, spelled, no_leading, no_trailing, normal, read_float, or_zero, after_point, write_float}
use Rattle.json_text.specs.Bytes.{digit_zero, is_e}
use Rattle.jcal.specs.Integer.{is_point, int, frac, exp, up, down, raised, lowered, moved, read_number}
use Rattle.lengths_xml.specs.laws.Numbers.{signed_length, unsigned_length, float_length, float_some}
use Rattle.lengths_text.specs.laws.Bytes.{name_bytes, name_some, name_length}
use Rattle.lengths_jcal_text.specs.laws.Sizes.{literal_size}

-- ---- digits of two bytes at most

past-length : (p : ℕ → Bool) (s : List ℕ) → length (up_to p s) + length (past p s) ≤ length s
unfolding up_to past pick
past-length p [] = omega arith
past-length p (b ∷ s) = go (p b) (past-length p s)
  where
    go : (t : Bool) → length (up_to p s) + length (past p s) ≤ length s → length (pick t [] (b ∷ up_to p s)) + length (pick t s (past p s)) ≤ suc (length s)
    go true ih = omega arith
    go false ih = omega (arith, ih)

-- the digits of a number are no more than its bytes
parts_length : (s : List ℕ) → length (int s ⊕ frac s) ≤ length s
parts_length s =
    let x : List ℕ = up_to is_e (after_sign s) in
    omega (arith, length_both (up_to is_point x) (past is_point x), past-length is_point x, past-length is_e (after_sign s), unsigned_length s)

digit_small : (b : ℕ) → digit_of b ≤ 9
digit_small b = pick_case (λ (d : ℕ). d ≤ 9) (is_digit b) (b - 48) 0 (λ e. let q = digit_range b e in omega arith) (λ e. omega arith)

small_value : (s : List ℕ) → length s ≤ 2 → value 0 s < 100
unfolding value
small_value [] l = omega arith
small_value (a ∷ []) l = omega (arith, digit_small a)
small_value (a ∷ b ∷ []) l = omega (arith, digit_small a, digit_small b)
small_value (a ∷ b ∷ c ∷ s) l = absurd (omega arith)

-- of so few bytes none stands behind an `e`, or none before it
exp_case : {X : Type 0} (s : List ℕ) → length s ≤ 2 → (past is_e s ≡ [] → X) → (int s ⊕ frac s ≡ [] → X) → X
unfolding up_to past after_sign
exp_case [] l f g = f refl
exp_case (b ∷ []) l f g = f (pick_either (λ (x : List ℕ). x ≡ []) (is_e b) [] [] refl refl)
exp_case {X = X} (b ∷ c ∷ []) l f g = go (is_e b) refl
  where
    before : is_e b ≡ true → int (b ∷ c ∷ []) ⊕ frac (b ∷ c ∷ []) ≡ []
    before e = rw (or_no _ _ (eqb_apart is_e b 45 e (unfold ◌or◌ in refl)) (eqb_apart is_e b 43 e (unfold ◌or◌ in refl))) (unfold pick ◌⊕◌ in rw e)

    go : (t : Bool) → is_e b ≡ t → X
    go true e = g (before e)
    go false e = f (rw e (unfold pick in pick_either (λ (x : List ℕ). x ≡ []) (is_e c) [] [] refl refl))
exp_case (a ∷ b ∷ c ∷ s) l f g = absurd (omega arith)

up_none : (s : List ℕ) → past is_e s ≡ [] → up s ≡ 0
unfolding has_minus after_sign value pick
up_none s e = rw e

-- a number below 100 with no zeros behind it, and 0 with any
raised_plain : (v n : ℕ) → v < 100 → raised v 0 ≡ Some n → n < 100
unfolding pick
raised_plain v n l h = go (eqb v 0) h
  where
    go : (t : Bool) → pick t (Some 0) (Some (v * 10 ^ 0)) ≡ Some n → n < 100
    go true k = let q : 0 ≡ n = cc in omega arith
    go false k = let q : v * 10 ^ 0 ≡ n = cc in omega arith

raised_none : (k n : ℕ) → raised 0 k ≡ Some n → n < 100
unfolding pick
raised_none k n h = let q : 0 ≡ n = cc in omega arith

lowered_small : (d : List ℕ) (k n : ℕ) → length d ≤ 2 → lowered d k ≡ Some n → n < 100
lowered_small d k n l h =
    let q = provided-some (all_of (λ b. eqb b digit_zero) (drop (length d - k) d)) (value 0 (take (length d - k) d)) n h in
    rw (← q.1) (small_value (take (length d - k) d) (omega (arith, length-take (length d - k) d)))

moved_plain : (d : List ℕ) (l n : ℕ) → length d ≤ 2 → moved d 0 l ≡ Some n → n < 100
unfolding pick
moved_plain d l n k h = go (leb l 0) refl h
  where
    go : (t : Bool) → leb l 0 ≡ t → pick t (raised (value 0 d) (0 - l)) (lowered d (l - 0)) ≡ Some n → n < 100
    go true e h = let z : 0 - l ≡ 0 = omega arith in raised_plain (value 0 d) n (small_value d k) (rw z at h)
    go false e h = lowered_small d (l - 0) n k h

moved_none : (u l n : ℕ) → moved [] u l ≡ Some n → n < 100
unfolding pick value
moved_none u l n h = go (leb l u) h
  where
    go : (t : Bool) → pick t (raised 0 (u - l)) (lowered [] (l - u)) ≡ Some n → n < 100
    go true h = raised_none (u - l) n h
    go false h = lowered_small [] (l - u) n (omega arith) h

moved_small : (s : List ℕ) (n : ℕ) → length s ≤ 2 → moved (int s ⊕ frac s) (up s) (down s) ≡ Some n → n < 100
moved_small s n l h =
    exp_case s l
    (λ e. moved_plain (int s ⊕ frac s) (down s) n (omega (arith, parts_length s)) (rw (up_none s e) at h))
    (λ e. moved_none (up s) (down s) n (rw e at h))

-- ---- INTEGER

most_below : (m : Bool) → most m < 10 ^ 10
most_below true = omega arith
most_below false = omega arith

pub integer_brief : (s : List ℕ) (w : Whole) → read_number s ≡ Some w → length (write_integer w) + 1 ≤ 4 * name_bytes s
integer_brief s w h =
    let p = and_then-some (moved (int s ⊕ frac s) (up s) (down s)) (λ n. provided (leb n (most (has_minus s))) (integer_of (has_minus s) n)) w h in
    let n : ℕ = p.0 in
    let q = provided-some (leb n (most (has_minus s))) (integer_of (has_minus s) n) w p.2 in
    let long : length (digits 9 n) ≤ 10 = digits_short 9 10 n (omega arith) (omega (arith, leb-true n (most (has_minus s)) q.0, most_below (has_minus s))) in
    rw (← q.1) (go (ltb 2 (length s)) refl n p.1 long)
  where
    go : (t : Bool) → ltb 2 (length s) ≡ t → (n : ℕ) → moved (int s ⊕ frac s) (up s) (down s) ≡ Some n → length (digits 9 n) ≤ 10 → length (write_integer (integer_of (has_minus s) n)) + 1 ≤ 4 * name_bytes s
    go true e n h long = omega (arith, signed_length (has_minus s and ltb 0 n) (digits 9 n), long, ltb-true 2 (length s) e, name_length s)
    go false e n h long = omega (arith, signed_length (has_minus s and ltb 0 n) (digits 9 n), digits_short 9 2 n (omega arith) (moved_small s n (ltb-false 2 (length s) e) h), name_some s)

-- ---- FLOAT

-- a digit alone
digit_written : (m : Bool) (b : ℕ) → length (write_float (normal (decimal m (b ∷ []) []))) ≤ 2
unfolding no_leading no_trailing after_point
digit_written m b =
    let z : List ℕ = or_zero (no_leading (b ∷ [])) in
    let one : length z ≤ 1 = pick_either (λ (l : List ℕ). length (or_zero l) ≤ 1) (eqb b 48) [] (b ∷ []) (unfold or_zero in omega arith) (unfold or_zero in omega arith) in
    omega (arith, one, length_both z (after_point (no_trailing [])), signed_length (normal (decimal m (b ∷ []) [])).minus (z ⊕ after_point (no_trailing [])))

empty_none : {X : Type 0} (m : Bool) (ps : List (List ℕ)) (x : Decimal) → pointed m ([] ∷ ps) ≡ Some x → X
unfolding pointed pick ◌and◌
empty_none m ps x h = none-some h

one_pointed : (m : Bool) (b : ℕ) (x : Decimal) → pointed m ((b ∷ []) ∷ []) ≡ Some x → length (write_float (normal x)) ≤ 2
unfolding pointed fraction pick and_then
one_pointed m b x h = go (is_digits (b ∷ [])) h
  where
    go : (t : Bool) → pick t (Some (decimal m (b ∷ []) [])) None ≡ Some x → length (write_float (normal x)) ≤ 2
    go true k = let q : decimal m (b ∷ []) [] ≡ x = cc in rw (← q) (digit_written m b)
    go false k = none-some k

one_spelled : (m : Bool) (b : ℕ) (x : Decimal) → pointed m (cut_at 46 (after_sign (b ∷ []))) ≡ Some x → length (write_float (normal x)) ≤ 2
unfolding after_sign cut_at onto
one_spelled m b x =
    pick_either (λ (l : List ℕ). pointed m (cut_at 46 l) ≡ Some x → length (write_float (normal x)) ≤ 2) (eqb b 45 or eqb b 43) [] (b ∷ []) (λ h. empty_none m [] x h)
    (pick_either (λ (ps : List (List ℕ)). pointed m ps ≡ Some x → length (write_float (normal x)) ≤ 2) (eqb b 46) ([] ∷ [] ∷ []) ((b ∷ []) ∷ []) (λ h. empty_none m ([] ∷ []) x h) (one_pointed m b x))

one_float : (s : List ℕ) (d : Decimal) → length s ≤ 1 → read_float s ≡ Some d → length (write_float d) ≤ 2
one_float [] d l h = absurd (let k = float_some [] d h in omega arith)
one_float (b ∷ []) d l h =
    let q = and_then-some (spelled (b ∷ [])) (λ x. Some (normal x)) d h in
    let e : normal q.0 ≡ d = cc q.2 in
    rw (← e) (one_spelled (has_minus (b ∷ [])) b q.0 q.1)
one_float (a ∷ b ∷ s) d l h = absurd (omega arith)

pub float_brief : (s : List ℕ) (d : Decimal) → read_float s ≡ Some d → length (write_float d) + 1 ≤ 4 * name_bytes s
float_brief s d h = go (ltb 1 (length s)) refl
  where
    go : (t : Bool) → ltb 1 (length s) ≡ t → length (write_float d) + 1 ≤ 4 * name_bytes s
    go true e = omega (arith, float_length s d h, ltb-true 1 (length s) e, name_length s)
    go false e = omega (arith, one_float s d (ltb-false 1 (length s) e) h, name_some s)

-- ---- BOOLEAN

abbrev truths : List (List ℕ)
truths = ascii "true" ∷ ascii "1" ∷ []

abbrev falsehoods : List (List ℕ)
falsehoods = ascii "false" ∷ ascii "0" ∷ []

-- `1` and `0` begin with no letter
one_long : (s w v : List ℕ) → 4 ≤ literal_size w → 4 ≤ literal_size v → is_one_of s (w ∷ v ∷ []) ≡ true → 4 ≤ literal_size s
unfolding is_one_of
one_long s w v a b h = or_cases (same s w) _ h (λ e. rw (same_true s w e) a) (λ h. or_cases (same s v) _ h (λ e. rw (same_true s v e) b) (λ h. absurd (false≢true h)))

word_sizes : (4 ≤ literal_size (ascii "true")) × (4 ≤ literal_size (ascii "1")) × (4 ≤ literal_size (ascii "false")) × (4 ≤ literal_size (ascii "0"))
unfolding literal_size octets_compute
word_sizes = (omega arith, omega arith, omega arith, omega arith)

truth_size : (s : List ℕ) (b : Bool) → read_boolean xcal s ≡ Some b → 4 ≤ literal_size s
unfolding pick
truth_size s b h = go (is_one_of s truths) refl h
  where
    go : (t : Bool) → is_one_of s truths ≡ t → pick t (Some true) (provided (is_one_of s falsehoods) false) ≡ Some b → 4 ≤ literal_size s
    go true e k = one_long s (ascii "true") (ascii "1") word_sizes.0 word_sizes.1 e
    go false e k = one_long s (ascii "false") (ascii "0") word_sizes.2 word_sizes.3 (provided-some (is_one_of s falsehoods) false b k).0

pub truth_brief : (s : List ℕ) (b : Bool) → read_boolean xcal s ≡ Some b → length (write_boolean ical b) + 1 ≤ 4 * literal_size s
truth_brief s b h = omega (arith, truth_size s b h, pick_either (λ (l : List ℕ). length l ≤ 5) b (ascii "TRUE") (ascii "FALSE") (omega arith) (omega arith))
