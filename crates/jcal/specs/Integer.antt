-- INTEGER (RFC 7265, section 3.6.8): a JSON number that resolves to an integer value in the range of RFC 5545, section 3.3.8. So a fraction or an exponent
-- may stand where the value is an integer: 10.0e-1 is 1.
--     read_number s   the integer that the number s (RFC 8259, section 6) resolves to
use Rattle.std.specs.Prelude.{Bool, List, ℕ, ◌+◌, ◌-◌, ◌*◌, ◌^◌, eqb, ltb, leb, length, take, drop, Option, Some}
use Rattle.octets.specs.Pick.{pick}
use Rattle.octets.specs.Scan.{all_of}
use Rattle.octets.specs.Append.{◌⊕◌}
use Rattle.octets.specs.Front.{up_to, past}
use Rattle.octets.specs.Decimal.{value}
use Rattle.octets.specs.Reading.{provided, and_then}
use Rattle.calendar.specs.Calendar.{Whole}
use Rattle.numbers.specs.Sign.{has_minus, after_sign}
use Rattle.numbers.specs.Integer.{most, integer_of}
use Rattle.json_text.specs.Bytes.{digit_zero, decimal_point, is_e}

-- ---- number = [ minus ] int [ frac ] [ exp ]

abbrev pub is_point : ℕ → Bool
is_point b = eqb b decimal_point

abbrev pub int : List ℕ → List ℕ
int s = up_to is_point (up_to is_e (after_sign s))

abbrev pub frac : List ℕ → List ℕ
frac s = past is_point (up_to is_e (after_sign s))

abbrev pub exp : List ℕ → List ℕ
exp s = past is_e s

-- ---- its value: the digits of int and frac, with the point moved to the right by `up` places and to the left by `down`

abbrev pub up : List ℕ → ℕ
up s = pick (has_minus (exp s)) 0 (value 0 (after_sign (exp s)))

abbrev pub down : List ℕ → ℕ
down s = length (frac s) + pick (has_minus (exp s)) (value 0 (after_sign (exp s))) 0

-- n × 10 ^ k; with more than nine zeros only 0 is in the range
abbrev pub raised : ℕ → ℕ → Option ℕ
raised n k = pick (eqb n 0) (Some 0) (provided (ltb k 10) (n * 10 ^ k))

-- digits without the last k of them, which must be zeros
abbrev pub lowered : List ℕ → ℕ → Option ℕ
lowered d k = provided (all_of (λ b. eqb b digit_zero) (drop (length d - k) d)) (value 0 (take (length d - k) d))

abbrev pub moved : List ℕ → ℕ → ℕ → Option ℕ
moved d u l = pick (leb l u) (raised (value 0 d) (u - l)) (lowered d (l - u))

abbrev pub read_number : List ℕ → Option Whole
read_number s = and_then (moved (int s ⊕ frac s) (up s) (down s)) (λ n. provided (leb n (most (has_minus s))) (integer_of (has_minus s) n))
