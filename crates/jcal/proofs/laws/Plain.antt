-- Values whose characters stand in JSON as they are: dates and times, numbers, BINARY, URI. Absent of them has a quotation mark, a backslash, LF or TAB.
--     is_plain                a character that stands as it is
--     plain_escaped          such characters have no escapes;   chars_plain: nor have those of dates and times
--     date_plain, time_plain, date_time_plain, duration_plain, offset_plain, integer_plain, float_plain, boolean_plain, binary_plain, uri_plain    what each type writes;   item_plain: an item of a rule
use Rattle.std.specs.Prelude.{◌≡◌, refl, Bool, true, false, List, [], ◌∷◌, ℕ, zero, suc, eqb, ltb, length, Option, None, Some}
use Rattle.std.proofs.Common.{sym, ap, ◌∙◌, ne_eqb, eqb-true}
use Rattle.std.proofs.lemmas.Bool.{false≢true}
use Rattle.octets.specs.Ascii.{ascii}
use Rattle.octets.specs.Append.{◌⊕◌}
use Rattle.octets.specs.Pick.{pick, ◌and◌, ◌or◌}
use Rattle.octets.specs.laws.Pick.{and_both, pick_either}
use Rattle.octets.specs.Scan.{all_of}
use Rattle.octets.specs.laws.Scan.{all_cons, all_split, all_weaker}
use Rattle.octets.specs.Class.{is_alpha, is_digit}
use Rattle.octets.specs.Lists.{every}
use Rattle.octets.specs.laws.Lists.{every_both}
use Rattle.calendar.specs.Calendar.{ical, xcal, RuleItem, moment, number, word, weekday, Whole, Decimal}
use Rattle.times.specs.Spelling.{is_time_char, Mark, put_mark, with_marks}
use Rattle.times.specs.Date.{is_date, read_date, write_date, date_marks}
use Rattle.times.specs.laws.Date.{date_chars, date_accepted, date_read_back}
use Rattle.times.specs.Time.{read_time, write_time, time_marks}
use Rattle.times.specs.laws.Time.{time_chars, time_accepted}
use Rattle.times.specs.DateTime.{is_date_time, read_date_time, write_date_time, date_time_marks}
use Rattle.times.specs.laws.DateTime.{date_time_chars, date_time_accepted, date_time_read_back}
use Rattle.times.specs.Duration.{read_duration, write_duration}
use Rattle.times.specs.laws.Duration.{duration_chars, duration_accepted}
use Rattle.times.specs.UtcOffset.{read_utc_offset, write_utc_offset, minute_marks, second_marks}
use Rattle.times.specs.laws.UtcOffset.{utc_offset_chars, utc_offset_accepted}
use Rattle.numbers.specs.Integer.{write_integer}
use Rattle.numbers.specs.laws.Integer.{whole_all}
use Rattle.numbers.specs.Float.{read_float, write_float}
use Rattle.numbers.specs.laws.FloatLaws.{float_all, float_accepted}
use Rattle.numbers.specs.Boolean.{write_boolean}
use Rattle.texts.specs.Binary.{is_base64_char, pad_fits, in_group, next_place, binary_from, read_binary}
use Rattle.texts.specs.laws.Binary.{binary_accepted}
use Rattle.texts.specs.Uri.{is_uri_char, is_scheme_char, in_uri, uri_from, is_uri}
use Rattle.recur.specs.Parts.{ItemForm, word_of, enddate, counting, unsigned, signed, weekdaynum, Part, part_of}
use Rattle.recur.specs.Item.{write_item, write_enddate, is_of_form, is_for, is_item}
use Rattle.recur.specs.laws.ItemLaws.{item_characters}
use Rattle.json_text.specs.Write.{escaped}

-- 34 is the quotation mark, 92 the backslash, 10 LF, 9 TAB
abbrev pub is_plain : ℕ → Bool
is_plain b = pick (eqb b 34) false (pick (eqb b 92) false (pick (eqb b 10) false (pick (eqb b 9) false true)))

pub plain_escaped : (s : List ℕ) → all_of is_plain s ≡ true → escaped s ≡ s
unfolding escaped pick ◌⊕◌
plain_escaped [] h = refl
plain_escaped (b ∷ s) h = let q = all_split is_plain b s h in go (eqb b 34) (eqb b 92) (eqb b 10) (eqb b 9) q.0 (plain_escaped s q.1)
  where
    go : (x y z w : Bool) → pick x false (pick y false (pick z false (pick w false true))) ≡ true → escaped s ≡ s →
        pick x (ascii "\\\"") (pick y (ascii "\\\\") (pick z (ascii "\\n") (pick w (ascii "\\t") (b ∷ [])))) ⊕ escaped s ≡ b ∷ s
    go true y z w h e = absurd (false≢true h)
    go false true z w h e = absurd (false≢true h)
    go false false true w h e = absurd (false≢true h)
    go false false false true h e = absurd (false≢true h)
    go false false false false h e = ap (λ (l : List ℕ). b ∷ l) e

-- ---- a test that the four do not pass

other_than : (p : ℕ → Bool) (c b : ℕ) → p c ≡ false → p b ≡ true → eqb b c ≡ false
other_than p c b h k = ne_eqb b c (λ e. false≢true (sym h ∙ ap p (sym e) ∙ k))

plain_of : (p : ℕ → Bool) → p 34 ≡ false → p 92 ≡ false → p 10 ≡ false → p 9 ≡ false → (b : ℕ) → p b ≡ true → is_plain b ≡ true
unfolding pick
plain_of p x y z w b h = rw (other_than p 34 b x h, other_than p 92 b y h, other_than p 10 b z h, other_than p 9 b w h)

digit_plain : (b : ℕ) → is_digit b ≡ true → is_plain b ≡ true
unfolding ◌and◌
digit_plain b h = plain_of is_digit refl refl refl refl b h

pub chars_plain : (s : List ℕ) → all_of is_time_char s ≡ true → all_of is_plain s ≡ true
unfolding is_time_char ◌or◌ ◌and◌
chars_plain s h = all_weaker is_time_char is_plain (plain_of is_time_char refl refl refl refl) s h

-- ---- marks

mark_all : (n : ℕ) (p : ℕ → Bool) (c : ℕ) (s : List ℕ) → p c ≡ true → all_of p s ≡ true → all_of p (put_mark n c s) ≡ true
unfolding put_mark
mark_all zero p c s k h = all_cons p c s k h
mark_all (suc n) p c [] k h = all_cons p c [] k h
mark_all (suc n) p c (b ∷ s) k h = let q = all_split p b s h in all_cons p b (put_mark n c s) q.0 (mark_all n p c s k q.1)

marks_all : (ms : List Mark) (p : ℕ → Bool) → every (λ (m : Mark). p m.sign) ms ≡ true → (s : List ℕ) → all_of p s ≡ true → all_of p (with_marks ms s) ≡ true
unfolding with_marks
marks_all [] p k s h = h
marks_all (m ∷ ms) p k s h =
    let q = every_both (λ (m : Mark). p m.sign) m ms k in marks_all ms p q.1 (put_mark m.place m.sign s) (mark_all m.place p m.sign s q.0 h)

-- ---- dates and times

pub date_plain : (l v : List ℕ) → read_date ical l ≡ Some v → escaped (write_date xcal v) ≡ write_date xcal v
unfolding write_date every ◌and◌ pick
date_plain l v h = plain_escaped _ (marks_all date_marks is_plain refl v (chars_plain v (date_chars v (date_accepted ical l v h))))

pub time_plain : (l v : List ℕ) → read_time ical l ≡ Some v → escaped (write_time xcal v) ≡ write_time xcal v
unfolding write_time every ◌and◌ pick
time_plain l v h = plain_escaped _ (marks_all time_marks is_plain refl v (chars_plain v (time_chars v (time_accepted ical l v h))))

pub date_time_plain : (l v : List ℕ) → read_date_time ical l ≡ Some v → escaped (write_date_time xcal v) ≡ write_date_time xcal v
unfolding write_date_time every ◌and◌ pick
date_time_plain l v h = plain_escaped _ (marks_all date_time_marks is_plain refl v (chars_plain v (date_time_chars v (date_time_accepted ical l v h))))

pub duration_plain : (l v : List ℕ) → read_duration ical l ≡ Some v → escaped (write_duration xcal v) ≡ write_duration xcal v
unfolding write_duration
duration_plain l v h = plain_escaped v (chars_plain v (duration_chars v (duration_accepted ical l v h)))

pub offset_plain : (l v : List ℕ) → read_utc_offset ical l ≡ Some v → escaped (write_utc_offset xcal v) ≡ write_utc_offset xcal v
unfolding write_utc_offset every ◌and◌ pick
offset_plain l v h =
    let k = chars_plain v (utc_offset_chars v (utc_offset_accepted ical l v h)) in
    plain_escaped _ (pick_either (λ ms. all_of is_plain (with_marks ms v) ≡ true) (eqb (length v) 5) minute_marks second_marks (marks_all minute_marks is_plain refl v k) (marks_all second_marks is_plain refl v k))

-- ---- numbers

pub integer_plain : (w : Whole) → escaped (write_integer w) ≡ write_integer w
unfolding pick
integer_plain w = plain_escaped _ (whole_all is_plain digit_plain refl w)

pub float_plain : (l : List ℕ) (d : Decimal) → read_float l ≡ Some d → escaped (write_float d) ≡ write_float d
unfolding pick
float_plain l d h = plain_escaped _ (float_all is_plain digit_plain refl refl d (float_accepted l d h))

pub boolean_plain : (b : Bool) → escaped (write_boolean xcal b) ≡ write_boolean xcal b
unfolding escaped pick ◌⊕◌
boolean_plain true = refl
boolean_plain false = refl

-- ---- BINARY

in_plain : (n last b : ℕ) → in_group n last b ≡ true → is_plain b ≡ true
unfolding pick ◌or◌ ◌and◌
in_plain n last b h = go (eqb b 61) refl h
  where
    go : (t : Bool) → eqb b 61 ≡ t → pick t (pad_fits n last) (is_base64_char b and ltb n 4) ≡ true → is_plain b ≡ true
    go true e k = ap is_plain (eqb-true b 61 e)
    go false e k = plain_of is_base64_char refl refl refl refl b (and_both (is_base64_char b) _ k).0

from_plain : (s : List ℕ) (n last : ℕ) → binary_from n last s ≡ true → all_of is_plain s ≡ true
unfolding binary_from all_of
from_plain [] n last h = refl
from_plain (b ∷ s) n last h =
    all_cons is_plain b s (in_plain n last b (and_both (in_group n last b) _ h).0) (from_plain s (next_place n b) b (and_both (in_group n last b) _ h).1)

pub binary_plain : (l v : List ℕ) → read_binary ical l ≡ Some v → escaped v ≡ v
binary_plain l v h = plain_escaped v (from_plain v 0 0 (binary_accepted ical l v h))

-- ---- URI

in_uri_plain : (past : Bool) (b : ℕ) → in_uri past b ≡ true → is_plain b ≡ true
unfolding pick ◌or◌ ◌and◌
in_uri_plain true b h = plain_of is_uri_char refl refl refl refl b h
in_uri_plain false b h = plain_of (λ b. eqb b 58 or is_scheme_char b) refl refl refl refl b h

uri_from_lem : (s : List ℕ) (past : Bool) → uri_from past s ≡ true → all_of is_plain s ≡ true
unfolding uri_from all_of
uri_from_lem [] past h = refl
uri_from_lem (b ∷ s) past h =
    let q = and_both (in_uri past b) _ h in all_cons is_plain b s (in_uri_plain past b q.0) (uri_from_lem s (past or eqb b 58) q.1)

alpha_plain : (b : ℕ) → is_alpha b ≡ true → is_plain b ≡ true
unfolding pick ◌or◌ ◌and◌
alpha_plain b h = plain_of is_alpha refl refl refl refl b h

pub uri_plain : (v : List ℕ) → is_uri v ≡ true → escaped v ≡ v
unfolding is_uri
uri_plain v h = plain_escaped v (go v h)
  where
    go : (v : List ℕ) → is_uri v ≡ true → all_of is_plain v ≡ true
    go [] h = absurd (false≢true h)
    go (b ∷ s) h = let q = and_both (is_alpha b) _ h in all_cons is_plain b s (alpha_plain b q.0) (uri_from_lem s false q.1)

-- ---- items of a rule

moment_plain : (m : List ℕ) → (is_date m or is_date_time m) ≡ true → escaped (write_enddate xcal m) ≡ write_enddate xcal m
unfolding ◌or◌ pick
moment_plain m h = go (is_date m) refl h
  where
    go : (t : Bool) → is_date m ≡ t → (t or is_date_time m) ≡ true → escaped (pick t (write_date xcal m) (write_date_time xcal m)) ≡ pick t (write_date xcal m) (write_date_time xcal m)
    go true e k = date_plain (write_date ical m) m (date_read_back ical m e)
    go false e k = date_time_plain (write_date_time ical m) m (date_time_read_back ical m k)

moment_form : (k : ItemForm) (m : List ℕ) → is_of_form k (moment m) ≡ true → (is_date m or is_date_time m) ≡ true
moment_form (word_of ws) m h = absurd (false≢true h)
moment_form enddate m h = h
moment_form counting m h = absurd (false≢true h)
moment_form (unsigned d lo hi) m h = absurd (false≢true h)
moment_form (signed d hi) m h = absurd (false≢true h)
moment_form weekdaynum m h = absurd (false≢true h)

moment_for : (o : Option Part) (m : List ℕ) → is_for o (moment m) ≡ true → (is_date m or is_date_time m) ≡ true
moment_for None m h = absurd (false≢true h)
moment_for (Some r) m h = moment_form r.form m h

pub item_plain : (n : List ℕ) (i : RuleItem) → is_item n i ≡ true → escaped (write_item xcal i) ≡ write_item xcal i
item_plain n (moment m) h = moment_plain m (moment_for (part_of n) m h)
item_plain n (number w) h = plain_escaped _ (chars_plain _ (item_characters n (number w) h))
item_plain n (word w) h = plain_escaped _ (chars_plain _ (item_characters n (word w) h))
item_plain n (weekday o d) h = plain_escaped _ (chars_plain _ (item_characters n (weekday o d) h))
