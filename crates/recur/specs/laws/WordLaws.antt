-- Words and weekdays of rule parts are read back, and what is read is one.
--     word_read_back, word_accepted          FREQ, WKST
--     weekday_read_back, weekday_accepted    BYDAY
--     word_characters, number_characters, weekday_characters    they are written with digits, capitals and signs
use Rattle.std.specs.Prelude.{◌≡◌, refl, Bool, true, false, List, [], ◌∷◌, ℕ, ◌<◌, eqb, leb, Option, None, Some}
use Rattle.std.proofs.Common.{arith, eqb-true}
use Rattle.std.proofs.lemmas.Bool.{lt-leb}
use Rattle.octets.specs.Pick.{pick, ◌and◌, ◌or◌}
use Rattle.octets.specs.laws.Pick.{and_yes, and_no_left, or_left, or_right, or_no, within_range}
use Rattle.octets.specs.Scan.{all_of}
use Rattle.octets.specs.laws.Scan.{all_append, all_weaker}
use Rattle.octets.specs.Append.{◌⊕◌}
use Rattle.octets.specs.Class.{is_digit, is_capital, is_small, is_alpha}
use Rattle.octets.specs.laws.Letters.{upper_capitals}
use Rattle.octets.specs.Words.{is_one_of}
use Rattle.octets.specs.Lists.{every}
use Rattle.octets.specs.laws.Lists.{word_passes}
use Rattle.octets.specs.Reading.{and_then}
use Rattle.octets.specs.laws.Reading.{and_then-some, provided-some, none-some}
use Rattle.octets.specs.Computing.{octets_compute}
use Rattle.octets.specs.Front.{up_to, from_on, begins_by}
use Rattle.octets.specs.laws.Front.{up_to_front, from_on_front}
use Rattle.times.specs.Spelling.{is_time_char}
use Rattle.calendar.specs.Calendar.{Format, ical, xcal, Whole, RuleItem, weekday}
use Rattle.numbers.specs.Sign.{after_sign}
use Rattle.numbers.specs.Integer.{write_whole}
use Rattle.recur.specs.Parts.{weekdays}
use Rattle.recur.specs.Item.{in_capitals, read_word, read_signed, read_ordinal, write_ordinal, is_ordinal, read_weekday, is_weekdaynum}
use Rattle.recur.specs.laws.NumberLaws.{is_enough, is_number_char, signed_read_back, signed_accepted, whole_characters}

-- ---- words

pub word_read_back : (f : Format) (ws : List (List ℕ)) (w : List ℕ) → every (all_of is_capital) ws ≡ true → is_one_of w ws ≡ true → read_word f ws w ≡ Some w
unfolding pick
word_read_back ical ws w c h = rw (upper_capitals w (word_passes (all_of is_capital) ws w c h), h)
word_read_back xcal ws w c h = rw h

pub word_accepted : (f : Format) (ws : List (List ℕ)) (s w : List ℕ) → read_word f ws s ≡ Some w → is_one_of w ws ≡ true
word_accepted f ws s w h = let e = provided-some (is_one_of (in_capitals f s) ws) (in_capitals f s) w h in rw (← e.1) e.0

-- ---- weekdays

number_alpha : (b : ℕ) → is_number_char b ≡ true → is_alpha b ≡ false
unfolding ◌or◌
number_alpha b h = go (is_digit b) refl h
  where
    below : b < 65 → is_alpha b ≡ false
    below l = or_no (is_capital b) (is_small b) (and_no_left (leb 65 b) (leb b 90) (lt-leb 65 b l)) (and_no_left (leb 97 b) (leb b 122) (lt-leb 97 b (omega arith)))

    go : (t : Bool) → is_digit b ≡ t → (t or eqb b 45) ≡ true → is_alpha b ≡ false
    go true e k = below (let g = within_range 48 57 b e in omega arith)
    go false e k = below (let g : b ≡ 45 = eqb-true b 45 k in omega arith)

weekdays_begin : every (begins_by is_alpha) weekdays ≡ true
unfolding every begins_by octets_compute
weekdays_begin = refl

weekdays_capital : every (all_of is_capital) weekdays ≡ true
unfolding every octets_compute
weekdays_capital = refl

ordinal_characters : (o : Option Whole) → all_of is_number_char (write_ordinal o) ≡ true
unfolding all_of
ordinal_characters None = refl
ordinal_characters (Some w) = whole_characters w

some_ordinal : (s : List ℕ) (w : Whole) → read_signed 2 53 s ≡ Some w → read_ordinal s ≡ Some (Some w)
unfolding octets_compute after_sign
some_ordinal [] w h = none-some h
some_ordinal (b ∷ s) w h = rw h

ordinal_read_back : (o : Option Whole) → is_ordinal o ≡ true → read_ordinal (write_ordinal o) ≡ Some o
unfolding ◌and◌
ordinal_read_back None h = refl
ordinal_read_back (Some w) h = some_ordinal (write_whole w) w (signed_read_back 2 1 53 two w h)
  where
    two : is_enough 2 53 ≡ true
    two = refl

ordinal_accepted : (s : List ℕ) (o : Option Whole) → read_ordinal s ≡ Some o → is_ordinal o ≡ true
ordinal_accepted [] o h = let z : None ≡ o = cc in rw (← z)
ordinal_accepted (b ∷ s) o h =
    let e = and_then-some (read_signed 2 53 (b ∷ s)) (λ w. Some (Some w)) o h in
    let z : Some e.0 ≡ o = cc e.2 in
    rw (← z) (signed_accepted 2 53 (b ∷ s) e.0 e.1)

pub weekday_read_back : (f : Format) (o : Option Whole) (d : List ℕ) → is_ordinal o ≡ true → is_one_of d weekdays ≡ true → read_weekday f (write_ordinal o ⊕ d) ≡ Some (weekday o d)
unfolding and_then
weekday_read_back f o d p q =
    let c = ordinal_characters o in
    let b = word_passes (begins_by is_alpha) weekdays d weekdays_begin q in
    rw (
      up_to_front is_alpha is_number_char number_alpha (write_ordinal o) d c b,
      from_on_front is_alpha is_number_char number_alpha (write_ordinal o) d c b,
      ordinal_read_back o p,
      word_read_back f weekdays d weekdays_capital q,
    )

pub weekday_accepted : (f : Format) (s : List ℕ) (i : RuleItem) → read_weekday f s ≡ Some i → is_weekdaynum i ≡ true
weekday_accepted f s i h =
    let o = and_then-some (read_ordinal (up_to is_alpha s)) (λ o. and_then (read_word f weekdays (from_on is_alpha s)) (λ d. Some (weekday o d))) i h in
    let d = and_then-some (read_word f weekdays (from_on is_alpha s)) (λ d. Some (weekday o.0 d)) i o.2 in
    let z : weekday o.0 d.0 ≡ i = cc d.2 in
    rw (← z) (and_yes (is_ordinal o.0) (is_one_of d.0 weekdays) (ordinal_accepted (up_to is_alpha s) o.0 o.1) (word_accepted f weekdays (from_on is_alpha s) d.0 d.1))

-- ---- the characters

pub capital_char : (b : ℕ) → is_capital b ≡ true → is_time_char b ≡ true
unfolding is_time_char
capital_char b h = or_right (is_digit b) (is_capital b or eqb b 43 or eqb b 45) (or_left (is_capital b) (eqb b 43 or eqb b 45) h)

number_char : (b : ℕ) → is_number_char b ≡ true → is_time_char b ≡ true
unfolding is_time_char ◌or◌
number_char b h = go (is_digit b) h
  where
    go : (t : Bool) → (t or eqb b 45) ≡ true → (t or is_capital b or eqb b 43 or eqb b 45) ≡ true
    go true k = refl
    go false k = or_right (is_capital b) (eqb b 43 or eqb b 45) (or_right (eqb b 43) (eqb b 45) k)

pub word_characters : (ws : List (List ℕ)) (w : List ℕ) → every (all_of is_capital) ws ≡ true → is_one_of w ws ≡ true → all_of is_time_char w ≡ true
word_characters ws w c h = all_weaker is_capital is_time_char capital_char w (word_passes (all_of is_capital) ws w c h)

pub number_characters : (w : Whole) → all_of is_time_char (write_whole w) ≡ true
number_characters w = all_weaker is_number_char is_time_char number_char (write_whole w) (whole_characters w)

pub weekday_characters : (o : Option Whole) (d : List ℕ) → is_one_of d weekdays ≡ true → all_of is_time_char (write_ordinal o ⊕ d) ≡ true
weekday_characters o d q =
    all_append is_time_char (write_ordinal o) d (all_weaker is_number_char is_time_char number_char (write_ordinal o) (ordinal_characters o)) (word_characters weekdays d weekdays_capital q)
