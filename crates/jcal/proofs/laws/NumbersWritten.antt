-- FLOAT and INTEGER are written as JSON numbers (RFC 8259, section 6).
--     whole_number, float_number
use Rattle.std.specs.Prelude.{◌≡◌, refl, Bool, true, false, List, [], ◌∷◌, ℕ, zero, suc, ◌+◌, ◌*◌, ◌/◌, ◌%◌, ◌^◌, ◌<◌, eqb, ltb, length}
use Rattle.std.proofs.Common.{subst, ◌∙◌, arith, ne_eqb, ltb-true, ltb-false}
use Rattle.std.proofs.lemmas.Bool.{false≢true}
use Rattle.std.proofs.Math.Nat.{pow-succ'}
use Rattle.octets.specs.Pick.{pick, ◌and◌}
use Rattle.octets.specs.laws.Pick.{and_yes, eqb_apart}
use Rattle.octets.specs.Append.{◌⊕◌}
use Rattle.octets.specs.laws.Append.{append_none}
use Rattle.octets.specs.Scan.{all_of}
use Rattle.octets.specs.laws.Scan.{all_split}
use Rattle.octets.specs.Class.{is_digit}
use Rattle.octets.specs.Runs.{stops}
use Rattle.octets.specs.laws.Runs.{run_front, after_front}
use Rattle.octets.specs.Decimal.{digits}
use Rattle.octets.specs.laws.Decimal.{digits_all, digits_some}
use Rattle.calendar.specs.Calendar.{Whole, Decimal}
use Rattle.numbers.specs.Sign.{minus_if, leads_in_digit}
use Rattle.numbers.specs.laws.Sign.{digits_lead, lead_append}
use Rattle.numbers.specs.Integer.{write_whole}
use Rattle.numbers.specs.Float.{or_zero, after_point, leads_in_zero, write_float, is_normal}
use Rattle.numbers.specs.laws.FloatLaws.{normal_parts}
use Rattle.json_text.specs.Written.{is_int, is_frac, is_unsigned, is_number}

-- ---- int [ frac ], with a minus or without

unsigned_written : (d f : List ℕ) → all_of is_digit d ≡ true → is_int d ≡ true → is_frac f ≡ true → stops is_digit f ≡ true → is_unsigned (d ⊕ f) ≡ true
unfolding is_unsigned
unsigned_written d f a i g s = rw (run_front is_digit d f a s, after_front is_digit d f a s) (and_yes _ _ i g)

minus_apart : (b : ℕ) → is_digit b ≡ true → eqb b 45 ≡ false
unfolding ◌and◌
minus_apart b l = eqb_apart is_digit b 45 l refl

signed_number : (m : Bool) (u : List ℕ) → leads_in_digit u ≡ true → is_unsigned u ≡ true → is_number (minus_if m u) ≡ true
unfolding is_number leads_in_digit pick
signed_number true u l h = h
signed_number false [] l h = absurd (false≢true l)
signed_number false (b ∷ u) l h = rw (minus_apart b l) h

-- ---- digits without leading zeros

int_digits : (d : List ℕ) → all_of is_digit d ≡ true → leads_in_zero d ≡ false → 0 < length d → is_int d ≡ true
unfolding is_int leads_in_zero pick
int_digits [] a z l = absurd (omega arith)
int_digits (b ∷ d) a z l = let q = all_split is_digit b d a in rw z (and_yes _ _ q.0 q.1)

append_lead : (d x : List ℕ) → 0 < length d → leads_in_zero (d ⊕ x) ≡ leads_in_zero d
unfolding leads_in_zero ◌⊕◌
append_lead [] x l = absurd (omega arith)
append_lead (b ∷ d) x l = refl

no_zero : (f n : ℕ) → 0 < n → n < 10 ^ suc f → leads_in_zero (digits f n) ≡ false
unfolding digits leads_in_zero pick
no_zero zero n l h = ne_eqb (48 + n % 10) 48 (λ e. omega arith)
no_zero (suc f) n l h = go (ltb n 10) refl (λ k g. no_zero f (n / 10) k g)
  where
    go : (t : Bool) → ltb n 10 ≡ t → (0 < n / 10 → n / 10 < 10 ^ suc f → leads_in_zero (digits f (n / 10)) ≡ false) → leads_in_zero (pick t ((48 + n) ∷ []) (digits f (n / 10) ⊕ (48 + n % 10) ∷ [])) ≡ false
    go true e ih = ne_eqb (48 + n) 48 (λ e. omega arith)
    go false e ih =
        let g : n < 10 * 10 ^ suc f = rw pow-succ' at h in
        let k = ltb-false n 10 e in
        append_lead (digits f (n / 10)) ((48 + n % 10) ∷ []) (digits_some f (n / 10)) ∙ ih (omega arith) (omega arith)

digits_int_lem : (n : ℕ) → n < 10 ^ 10 → is_int (digits 9 n) ≡ true
unfolding digits is_int pick
digits_int_lem n h = go (ltb 0 n) refl
  where
    go : (t : Bool) → ltb 0 n ≡ t → is_int (digits 9 n) ≡ true
    go true e = int_digits (digits 9 n) (digits_all 9 n) (no_zero 9 n (ltb-true 0 n e) h) (digits_some 9 n)
    go false e = let k = ltb-false 0 n e in let z : n ≡ 0 = omega arith in rw z

pub whole_number : (w : Whole) → w.magnitude < 10 ^ 10 → is_number (write_whole w) ≡ true
unfolding stops is_frac
whole_number w h =
    signed_number w.negative (digits 9 w.magnitude) (digits_lead (digits 9 w.magnitude) (digits_some 9 w.magnitude) (digits_all 9 w.magnitude))
    (subst (λ (x : List ℕ). is_unsigned x ≡ true) (append_none (digits 9 w.magnitude)) (unsigned_written (digits 9 w.magnitude) [] (digits_all 9 w.magnitude) (digits_int_lem w.magnitude h) refl refl))

-- ---- FLOAT

int_part : (b : List ℕ) → all_of is_digit b ≡ true → leads_in_zero b ≡ false → (is_int (or_zero b) ≡ true) × (all_of is_digit (or_zero b) ≡ true) × (leads_in_digit (or_zero b) ≡ true)
unfolding or_zero is_int all_of leads_in_digit leads_in_zero pick ◌and◌
int_part [] a z = (refl, refl, refl)
int_part (b ∷ s) a z = let q = all_split is_digit b s a in (rw (z, q.0) q.1, rw q.0 q.1, q.0)

frac_part : (a : List ℕ) → all_of is_digit a ≡ true → (is_frac (after_point a) ≡ true) × (stops is_digit (after_point a) ≡ true)
unfolding after_point is_frac stops pick ◌and◌
frac_part [] h = (refl, refl)
frac_part (b ∷ a) h = (h, refl)

pub float_number : (d : Decimal) → is_normal d ≡ true → is_number (write_float d) ≡ true
float_number d h =
    let n = normal_parts d h in
    let i = int_part d.before n.before_digits n.no_lead in
    let f = frac_part d.after n.after_digits in
    signed_number d.minus (or_zero d.before ⊕ after_point d.after) (lead_append (or_zero d.before) (after_point d.after) i.2)
    (unsigned_written (or_zero d.before) (after_point d.after) i.1 i.0 f.0 f.1)
