-- INTEGER by its value (crate jcal, specs/Integer.antt), as code reads it: of the digits of int and frac some are kept, and zeros are put behind them.
--     far              more than every INTEGER, and what stands for a number that is none
--     kept_of, up_of   how many digits are kept, and how many zeros follow: by whether the exponent has a minus, the counts of digits before and behind the point,
--                      and what the exponent is worth
--     worth_by         what a number is worth without its sign;   magnitude_of: the same of its bytes behind the sign
--     signed_to        the INTEGER, if it is one
--     MarkAt           the contract of `mark_at`: the first byte that passes a test, or the end
--     SignAt, ExponentAt, Power, Most    the contracts of `after_sign`, `exponent_at`, `power`, `most_of`
use Rattle.std.specs.Prelude.{◌≡◌, Bool, true, false, List, ℕ, ◌+◌, ◌-◌, ◌*◌, ◌^◌, ◌≤◌, min, eqb, ltb, leb, length, take, Option}
use Rattle.octets.specs.Pick.{pick}
use Rattle.octets.specs.Append.{◌⊕◌}
use Rattle.octets.specs.Front.{up_to, past}
use Rattle.octets.specs.Decimal.{value}
use Rattle.octets.specs.Reading.{provided}
use Rattle.calendar.specs.Calendar.{Whole}
use Rattle.numbers.specs.Sign.{has_minus, after_sign}
use Rattle.numbers.specs.Integer.{most, integer_of}
use Rattle.source.specs.Source.{rest}
use Rattle.json_text.specs.Bytes.{is_e}
use Rattle.jcal.specs.Integer.{is_point}
use Rattle.read_jcal_value.specs.Digits.{worth_of}
use Rattle.read_jcal_value.specs.declared.number.Exponent.{Exponent}

abbrev pub far : ℕ
far = 4294967296

-- ---- by the parts of a number

abbrev pub kept_of : Bool → ℕ → ℕ → ℕ → ℕ
kept_of true before behind x = before - x
kept_of false before behind x = before + min x behind

abbrev pub up_of : Bool → ℕ → ℕ → ℕ
up_of true behind x = 0
up_of false behind x = x - behind

unfoldable pub raised_to : ℕ → ℕ → ℕ
raised_to v k = pick (eqb v 0) 0 (pick (ltb k 10) (v * 10 ^ k) far)

abbrev pub worth_by : Bool → List ℕ → List ℕ → ℕ → ℕ
worth_by down i f x = raised_to (worth_of far (i ⊕ f) (kept_of down (length i) (length f) x) 0) (up_of down (length f) x)

unfoldable pub magnitude_of : List ℕ → ℕ
magnitude_of l =
    worth_by (has_minus (past is_e l)) (up_to is_point (up_to is_e l)) (past is_point (up_to is_e l)) (value 0 (after_sign (past is_e l)))

unfoldable pub signed_to : Bool → ℕ → Option Whole
signed_to neg n = provided (leb n (most neg)) (integer_of neg n)

-- ---- by places

abbrev pub mark_of : Bool → ℕ → Bool
mark_of true = is_point
mark_of false = is_e

pub record MarkAt (p : ℕ → Bool) (s : List ℕ) (at r : ℕ) : Type 0 where
  pub before : rest 0 (take r s) at ≡ up_to p (rest 0 s at)
  pub behind : rest 0 s (r + 1) ≡ past p (rest 0 s at)
  pub onward : at ≤ r
  pub inside : r ≤ length s

pub record SignAt (s : List ℕ) (at r : ℕ) : Type 0 where
  pub is : rest 0 s r ≡ after_sign (rest 0 s at)
  pub inside : r ≤ length s

-- what it is worth is told up to a cap, which every use can bear
pub record ExponentAt (s : List ℕ) (e : ℕ) (x : Exponent) : Type 0 where
  pub down : x.down ≡ has_minus (rest 0 s (e + 1))
  pub worth : x.worth ≡ min (length s + 10) (value 0 (after_sign (rest 0 s (e + 1))))

-- ---- for code

pub record Power (k r : ℕ) : Type 0 where
  pub is : r ≡ 10 ^ k
  pub low : r ≤ 1000000000

pub record Most (neg : Bool) (r : ℕ) : Type 0 where
  pub is : r ≡ most neg
  pub low : r ≤ 2147483648
