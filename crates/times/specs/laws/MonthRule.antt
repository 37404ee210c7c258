-- Laws of the month rule (specs/MonthRule.antt), which says them for readers.
--     digits_rule            eight digits are a date exactly where they are a day
--     text_rule              and so is the text of a date read, in both formats
--     day_read, day_found    the text of a day is read, and what is read is one
use Rattle.std.specs.Prelude.{◌≡◌, refl, true, List, ℕ, ◌/◌, ◌%◌, ◌≤◌, ◌<◌, length, Option, Some}
use Rattle.std.proofs.Common.{sym, ap, ◌∙◌, arith}
use Rattle.octets.specs.Pick.{pick, ◌and◌, within}
use Rattle.octets.specs.laws.Pick.{and_both, and_yes, within_range, pick_either}
use Rattle.octets.specs.Scan.{all_of}
use Rattle.octets.specs.laws.Scan.{all_cons}
use Rattle.octets.specs.Append.{◌⊕◌}
use Rattle.octets.specs.Class.{is_digit}
use Rattle.octets.specs.Decimal.{value}
use Rattle.octets.specs.laws.Decimal.{is_digit_lem, digit_of_lem}
use Rattle.octets.specs.Reading.{is_read, and_then}
use Rattle.octets.specs.laws.Reading.{provided-some}
use Rattle.calendar.specs.Calendar.{Format, ical, xcal}
use Rattle.times.specs.Spelling.{keep, with_marks, put_mark, fits}
use Rattle.times.specs.laws.Spelling.{keep_yes, keep_read, marks_taken_out}
use Rattle.times.specs.Digits.{two_digits, date_of}
use Rattle.gregorian.specs.Month.{is_leap_year, has_thirty_days, days_in_month, is_day}
use Rattle.times.specs.Date.{is_date, date_marks, read_date, write_date}
use Rattle.times.specs.laws.Date.{date_length, date_accepted, date_exact}
use Rattle.times.specs.DateAlong.{day_from}
use Rattle.times.specs.laws.DateAlong.{eight_day}
use Rattle.times.specs.DateText.{date_text, DayOf}

two_value : (n : ℕ) → n < 100 → value 0 (two_digits n) ≡ n
unfolding two_digits value
two_value n h = rw (digit_of_lem (n / 10) (omega arith), digit_of_lem (n % 10) (omega arith)) (omega arith)

four_value : (n : ℕ) → n < 10000 → value 0 (two_digits (n / 100) ⊕ two_digits (n % 100)) ≡ n
unfolding two_digits value ◌⊕◌
four_value n h =
    rw (digit_of_lem (n / 100 / 10) (omega arith), digit_of_lem (n / 100 % 10) (omega arith), digit_of_lem (n % 100 / 10) (omega arith), digit_of_lem (n % 100 % 10) (omega arith)) (omega arith)

two_before : (n : ℕ) (s : List ℕ) → n < 100 → all_of is_digit s ≡ true → all_of is_digit (two_digits n ⊕ s) ≡ true
unfolding two_digits ◌⊕◌
two_before n s h k = all_cons is_digit _ _ (is_digit_lem (n / 10) (omega arith)) (all_cons is_digit _ _ (is_digit_lem (n % 10) (omega arith)) k)

two_digits_lem : (n : ℕ) → n < 100 → all_of is_digit (two_digits n) ≡ true
unfolding two_digits all_of pick
two_digits_lem n h = rw (is_digit_lem (n / 10) (omega arith), is_digit_lem (n % 10) (omega arith))

all_digits : (y m d : ℕ) → y < 10000 → m < 100 → d < 100 → all_of is_digit (date_of y m d) ≡ true
unfolding date_of
all_digits y m d h k l = two_before (y / 100) _ (omega arith) (two_before (y % 100) _ (omega arith) (two_before m _ k (two_digits_lem d l)))

-- eight digits are a date exactly where they are a day
pub digits_rule : (y m d : ℕ) → y < 10000 → m < 100 → d < 100 → is_date (date_of y m d) ≡ (within 1 12 m and within 1 (days_in_month y m) d)
unfolding is_date is_day date_of two_digits ◌⊕◌ ◌and◌
digits_rule y m d h k l = rw (all_digits y m d h k l, four_value y h, two_value m k, two_value d l)

-- ---- the text of a date

pub text_written : (f : Format) (y m d : ℕ) → write_date f (date_of y m d) ≡ date_text f y m d
unfolding date_text write_date date_of two_digits with_marks put_mark ◌⊕◌
text_written ical y m d = refl
text_written xcal y m d = refl

-- eight characters, spelt with marks or without, are read exactly where they are a date
eight_read : (f : Format) (v : List ℕ) → fits date_marks (length v) ≡ true → is_read (read_date f (write_date f v)) ≡ is_date v
unfolding read_date write_date and_then
eight_read ical v h = keep_read is_date v
eight_read xcal v h = ap (λ (o : Option (List ℕ)). is_read (and_then o (keep is_date))) (marks_taken_out date_marks v h) ∙ keep_read is_date v

eight_fit : (y m d : ℕ) → fits date_marks (length (date_of y m d)) ≡ true
unfolding date_of two_digits fits ◌and◌ ◌⊕◌
eight_fit y m d = refl

pub text_rule : (f : Format) (y m d : ℕ) → y < 10000 → m < 100 → d < 100 → is_read (read_date f (date_text f y m d)) ≡ (within 1 12 m and within 1 (days_in_month y m) d)
text_rule f y m d h k l =
    ap (λ (s : List ℕ). is_read (read_date f s)) (sym (text_written f y m d)) ∙ eight_read f (date_of y m d) (eight_fit y m d) ∙ digits_rule y m d h k l

-- ---- every text that is read is the text of a day

days_most : (y m : ℕ) → days_in_month y m ≤ 31
unfolding days_in_month
days_most y m =
    pick_either (λ (n : ℕ). n ≤ 31) _ _ _ (pick_either (λ (n : ℕ). n ≤ 31) (is_leap_year y) 29 28 (omega arith) (omega arith))
    (pick_either (λ (n : ℕ). n ≤ 31) (has_thirty_days m) 30 31 (omega arith) (omega arith))

pub day_read : (f : Format) (s : List ℕ) → DayOf f s → is_read (read_date f s) ≡ true
day_read f s t =
    let p = within_range 1 12 t.month t.in_year in
    let q = within_range 1 (days_in_month t.year t.month) t.day t.in_month in
    let u = days_most t.year t.month in
    ap (λ (x : List ℕ). is_read (read_date f x)) t.is
    ∙ text_rule f t.year t.month t.day t.in_calendar (omega arith) (omega arith)
    ∙ and_yes (within 1 12 t.month) (within 1 (days_in_month t.year t.month) t.day) t.in_year t.in_month

pub day_found : (f : Format) (s v : List ℕ) → read_date f s ≡ Some v → DayOf f s
unfolding is_date is_day day_from
day_found f s v e =
    let h = date_accepted f s v e in
    let digits = (and_both _ _ (and_both _ _ h).1).0 in
    let n = value 0 v in
    let p = provided-some _ _ v (sym (eight_day v (date_length v h) digits) ∙ keep_yes is_date v h) in
    let q = and_both _ _ p.0 in
    record {
      year = n / 10000 % 10000;
      month = n / 100 % 100;
      day = n % 100;
      in_calendar = omega arith;
      in_year = q.0;
      in_month = q.1;
      is = date_exact f s v e ∙ ap (write_date f) (sym p.1) ∙ text_written f _ _ _;
    }
