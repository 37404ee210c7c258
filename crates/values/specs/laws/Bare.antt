-- Values whose characters stand in XML as they are: dates and times, numbers, BINARY. Absent of them has `&`, `<` or `>`.
--     is_bare                a character that stands as it is
--     bare_escaped           such characters have no entities;   chars_bare: nor have those of dates and times
--     date_bare, time_bare, date_time_bare, duration_bare, offset_bare, integer_bare, float_bare, boolean_bare, binary_bare    what each type writes
use Rattle.std.specs.Prelude.{◌≡◌, refl, Bool, true, false, List, [], ◌∷◌, ℕ, zero, suc, eqb, ltb, length, Some}
use Rattle.std.proofs.Common.{sym, ap, ◌∙◌, ne_eqb, eqb-true}
use Rattle.std.proofs.lemmas.Bool.{false≢true}
use Rattle.octets.specs.Ascii.{ascii}
use Rattle.octets.specs.Append.{◌⊕◌}
use Rattle.octets.specs.Pick.{pick, ◌and◌, ◌or◌}
use Rattle.octets.specs.laws.Pick.{and_both, pick_either}
use Rattle.octets.specs.Scan.{all_of}
use Rattle.octets.specs.laws.Scan.{all_cons, all_split, all_weaker}
use Rattle.octets.specs.Class.{is_digit}
use Rattle.octets.specs.Lists.{every}
use Rattle.octets.specs.laws.Lists.{every_both}
use Rattle.calendar.specs.Calendar.{ical, xcal, Whole, Decimal}
use Rattle.times.specs.Spelling.{is_time_char, Mark, put_mark, with_marks}
use Rattle.times.specs.Date.{read_date, write_date, date_marks}
use Rattle.times.specs.laws.Date.{date_chars, date_accepted}
use Rattle.times.specs.Time.{read_time, write_time, time_marks}
use Rattle.times.specs.laws.Time.{time_chars, time_accepted}
use Rattle.times.specs.DateTime.{read_date_time, write_date_time, date_time_marks}
use Rattle.times.specs.laws.DateTime.{date_time_chars, date_time_accepted}
use Rattle.times.specs.Duration.{read_duration, write_duration}
use Rattle.times.specs.laws.Duration.{duration_chars, duration_accepted}
use Rattle.times.specs.UtcOffset.{read_utc_offset, write_utc_offset, minute_marks, second_marks}
use Rattle.times.specs.laws.UtcOffset.{utc_offset_chars, utc_offset_accepted}
use Rattle.numbers.specs.Integer.{write_integer}
use Rattle.numbers.specs.laws.Integer.{whole_all}
use Rattle.numbers.specs.Float.{read_float, write_float}
use Rattle.numbers.specs.laws.FloatLaws.{float_all, float_accepted}
use Rattle.numbers.specs.Boolean.{write_boolean}
use Rattle.texts.specs.Binary.{is_base64_char, pad_fits, in_group, next_place, binary_from, read_binary}
use Rattle.texts.specs.laws.Binary.{binary_accepted}
use Rattle.xml.specs.Escape.{escaped}

-- 38 is &, 60 <, 62 >
abbrev pub is_bare : ℕ → Bool
is_bare b = pick (eqb b 38) false (pick (eqb b 60) false (pick (eqb b 62) false true))

pub bare_escaped : (s : List ℕ) → all_of is_bare s ≡ true → escaped s ≡ s
unfolding escaped pick ◌⊕◌
bare_escaped [] h = refl
bare_escaped (b ∷ s) h = let q = all_split is_bare b s h in go (eqb b 38) (eqb b 60) (eqb b 62) q.0 (bare_escaped s q.1)
  where
    go : (x y z : Bool) → pick x false (pick y false (pick z false true)) ≡ true → escaped s ≡ s →
        pick x (ascii "&amp;") (pick y (ascii "&lt;") (pick z (ascii "&gt;") (b ∷ []))) ⊕ escaped s ≡ b ∷ s
    go true y z h e = absurd (false≢true h)
    go false true z h e = absurd (false≢true h)
    go false false true h e = absurd (false≢true h)
    go false false false h e = ap (λ (l : List ℕ). b ∷ l) e

-- ---- a test that the three do not pass

other_than : (p : ℕ → Bool) (c b : ℕ) → p c ≡ false → p b ≡ true → eqb b c ≡ false
other_than p c b h k = ne_eqb b c (λ e. false≢true (sym h ∙ ap p (sym e) ∙ k))

bare_of : (p : ℕ → Bool) → p 38 ≡ false → p 60 ≡ false → p 62 ≡ false → (b : ℕ) → p b ≡ true → is_bare b ≡ true
unfolding pick
bare_of p x y z b h = rw (other_than p 38 b x h, other_than p 60 b y h, other_than p 62 b z h)

digit_bare : (b : ℕ) → is_digit b ≡ true → is_bare b ≡ true
unfolding ◌and◌
digit_bare b h = bare_of is_digit refl refl refl b h

pub chars_bare : (s : List ℕ) → all_of is_time_char s ≡ true → all_of is_bare s ≡ true
unfolding is_time_char ◌or◌ ◌and◌
chars_bare s h = all_weaker is_time_char is_bare (bare_of is_time_char refl refl refl) s h

-- ---- marks

mark_all : (n : ℕ) (p : ℕ → Bool) (c : ℕ) (s : List ℕ) → p c ≡ true → all_of p s ≡ true → all_of p (put_mark n c s) ≡ true
unfolding put_mark
mark_all zero p c s k h = all_cons p c s k h
mark_all (suc n) p c [] k h = all_cons p c [] k h
mark_all (suc n) p c (b ∷ s) k h = let q = all_split p b s h in all_cons p b (put_mark n c s) q.0 (mark_all n p c s k q.1)

marks_all : (ms : List Mark) (p : ℕ → Bool) → every (λ (m : Mark). p m.sign) ms ≡ true → (s : List ℕ) → all_of p s ≡ true → all_of p (with_marks ms s) ≡ true
unfolding with_marks
marks_all [] p k s h = h
marks_all (m ∷ ms) p k s h =
    let q = every_both (λ (m : Mark). p m.sign) m ms k in marks_all ms p q.1 (put_mark m.place m.sign s) (mark_all m.place p m.sign s q.0 h)

-- ---- dates and times

pub date_bare : (l v : List ℕ) → read_date ical l ≡ Some v → escaped (write_date xcal v) ≡ write_date xcal v
unfolding write_date every ◌and◌ pick
date_bare l v h = bare_escaped _ (marks_all date_marks is_bare refl v (chars_bare v (date_chars v (date_accepted ical l v h))))

pub time_bare : (l v : List ℕ) → read_time ical l ≡ Some v → escaped (write_time xcal v) ≡ write_time xcal v
unfolding write_time every ◌and◌ pick
time_bare l v h = bare_escaped _ (marks_all time_marks is_bare refl v (chars_bare v (time_chars v (time_accepted ical l v h))))

pub date_time_bare : (l v : List ℕ) → read_date_time ical l ≡ Some v → escaped (write_date_time xcal v) ≡ write_date_time xcal v
unfolding write_date_time every ◌and◌ pick
date_time_bare l v h = bare_escaped _ (marks_all date_time_marks is_bare refl v (chars_bare v (date_time_chars v (date_time_accepted ical l v h))))

pub duration_bare : (l v : List ℕ) → read_duration ical l ≡ Some v → escaped (write_duration xcal v) ≡ write_duration xcal v
unfolding write_duration
duration_bare l v h = bare_escaped v (chars_bare v (duration_chars v (duration_accepted ical l v h)))

pub offset_bare : (l v : List ℕ) → read_utc_offset ical l ≡ Some v → escaped (write_utc_offset xcal v) ≡ write_utc_offset xcal v
unfolding write_utc_offset every ◌and◌ pick
offset_bare l v h =
    let k = chars_bare v (utc_offset_chars v (utc_offset_accepted ical l v h)) in
    bare_escaped _ (pick_either (λ ms. all_of is_bare (with_marks ms v) ≡ true) (eqb (length v) 5) minute_marks second_marks (marks_all minute_marks is_bare refl v k) (marks_all second_marks is_bare refl v k))

-- ---- numbers

pub integer_bare : (w : Whole) → escaped (write_integer w) ≡ write_integer w
unfolding pick
integer_bare w = bare_escaped _ (whole_all is_bare digit_bare refl w)

pub float_bare : (l : List ℕ) (d : Decimal) → read_float l ≡ Some d → escaped (write_float d) ≡ write_float d
unfolding pick
float_bare l d h = bare_escaped _ (float_all is_bare digit_bare refl refl d (float_accepted l d h))

pub boolean_bare : (b : Bool) → escaped (write_boolean xcal b) ≡ write_boolean xcal b
unfolding escaped pick ◌⊕◌
boolean_bare true = refl
boolean_bare false = refl

-- ---- BINARY

in_bare : (n last b : ℕ) → in_group n last b ≡ true → is_bare b ≡ true
unfolding pick ◌or◌ ◌and◌
in_bare n last b h = go (eqb b 61) refl h
  where
    go : (t : Bool) → eqb b 61 ≡ t → pick t (pad_fits n last) (is_base64_char b and ltb n 4) ≡ true → is_bare b ≡ true
    go true e k = ap is_bare (eqb-true b 61 e)
    go false e k = bare_of is_base64_char refl refl refl b (and_both (is_base64_char b) _ k).0

from_bare : (s : List ℕ) (n last : ℕ) → binary_from n last s ≡ true → all_of is_bare s ≡ true
unfolding binary_from all_of
from_bare [] n last h = refl
from_bare (b ∷ s) n last h =
    all_cons is_bare b s (in_bare n last b (and_both (in_group n last b) _ h).0) (from_bare s (next_place n b) b (and_both (in_group n last b) _ h).1)

pub binary_bare : (l v : List ℕ) → read_binary ical l ≡ Some v → escaped v ≡ v
binary_bare l v h = bare_escaped v (from_bare v 0 0 (binary_accepted ical l v h))
