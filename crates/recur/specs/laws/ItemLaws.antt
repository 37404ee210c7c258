-- An item is read back from what is written of it, and what is read is an item.
--     item_read_back     in both formats
--     item_accepted      in both formats
--     item_characters    an item is written in text with digits, capitals and signs
use Rattle.std.specs.Prelude.{◌≡◌, refl, Bool, true, false, List, ℕ, Option, None, Some}
use Rattle.std.proofs.lemmas.Bool.{false≢true}
use Rattle.octets.specs.Pick.{pick, within}
use Rattle.octets.specs.laws.Pick.{and_both, pick_second}
use Rattle.octets.specs.Scan.{all_of}
use Rattle.octets.specs.Class.{is_capital}
use Rattle.octets.specs.Words.{is_one_of}
use Rattle.octets.specs.laws.Tables.{row_passes}
use Rattle.octets.specs.Lists.{every}
use Rattle.octets.specs.Reading.{and_then}
use Rattle.octets.specs.laws.Reading.{and_then-some}
use Rattle.octets.specs.Computing.{octets_compute}
use Rattle.times.specs.Spelling.{is_time_char}
use Rattle.calendar.specs.Calendar.{Format, ical, Whole, RuleItem, moment, number, word, weekday}
use Rattle.recur.specs.Parts.{ItemForm, word_of, enddate, counting, unsigned, signed, weekdaynum, Part, part_table, part_of, weekdays}
use Rattle.recur.specs.Item.{read_word, read_counting, read_unsigned, read_signed, read_enddate, is_ordinal, is_unsigned, read_form, write_item, is_of_form, read_item, is_for, is_item}
use Rattle.recur.specs.laws.NumberLaws.{is_enough, counting_read_back, unsigned_read_back, signed_read_back, counting_accepted, unsigned_accepted, signed_accepted}
use Rattle.recur.specs.laws.WordLaws.{word_read_back, word_accepted, word_characters, weekday_read_back, weekday_accepted, weekday_characters, number_characters}
use Rattle.recur.specs.laws.EnddateLaws.{enddate_read_back, enddate_accepted, enddate_characters}

-- ---- an item by what it is

-- words are in capitals, and numbers have digits enough
abbrev is_sound : ItemForm → Bool
is_sound (word_of ws) = every (all_of is_capital) ws
is_sound enddate = true
is_sound counting = true
is_sound (unsigned d lo hi) = is_enough d hi
is_sound (signed d hi) = is_enough d hi
is_sound weekdaynum = true

-- what is written of an item is read back, and has the characters of an item
form_written : (f : Format) (g : ItemForm) (i : RuleItem) → is_sound g ≡ true → is_of_form g i ≡ true →
    (read_form f g (write_item f i) ≡ Some i) × (all_of is_time_char (write_item ical i) ≡ true)
unfolding and_then
form_written f (word_of ws) (moment m) s h = absurd (false≢true h)
form_written f (word_of ws) (number w) s h = absurd (false≢true h)
form_written f (word_of ws) (word w) s h = (rw (word_read_back f ws w s h), word_characters ws w s h)
form_written f (word_of ws) (weekday o y) s h = absurd (false≢true h)
form_written f enddate (moment m) s h = (rw (enddate_read_back f m h), enddate_characters m h)
form_written f enddate (number w) s h = absurd (false≢true h)
form_written f enddate (word w) s h = absurd (false≢true h)
form_written f enddate (weekday o y) s h = absurd (false≢true h)
form_written f counting (moment m) s h = absurd (false≢true h)
form_written f counting (number w) s h = let e = pick_second w.negative (within 1 2147483647 w.magnitude) h in (rw (counting_read_back w e.0 e.1), number_characters w)
form_written f counting (word w) s h = absurd (false≢true h)
form_written f counting (weekday o y) s h = absurd (false≢true h)
form_written f (unsigned d lo hi) (moment m) s h = absurd (false≢true h)
form_written f (unsigned d lo hi) (number w) s h = let e = pick_second w.negative (within lo hi w.magnitude) h in (rw (unsigned_read_back d lo hi s w e.0 e.1), number_characters w)
form_written f (unsigned d lo hi) (word w) s h = absurd (false≢true h)
form_written f (unsigned d lo hi) (weekday o y) s h = absurd (false≢true h)
form_written f (signed d hi) (moment m) s h = absurd (false≢true h)
form_written f (signed d hi) (number w) s h = (rw (signed_read_back d 1 hi s w h), number_characters w)
form_written f (signed d hi) (word w) s h = absurd (false≢true h)
form_written f (signed d hi) (weekday o y) s h = absurd (false≢true h)
form_written f weekdaynum (moment m) s h = absurd (false≢true h)
form_written f weekdaynum (number w) s h = absurd (false≢true h)
form_written f weekdaynum (word w) s h = absurd (false≢true h)
form_written f weekdaynum (weekday o y) s h =
    let q = (and_both (is_ordinal o) (is_one_of y weekdays) h).1 in
    (weekday_read_back f o y (and_both (is_ordinal o) (is_one_of y weekdays) h).0 q, weekday_characters o y q)

-- a number that is not negative
unsigned_is : (lo hi : ℕ) (w : Whole) → (w.negative ≡ false) × (within lo hi w.magnitude ≡ true) → is_unsigned lo hi (number w) ≡ true
unfolding pick
unsigned_is lo hi w e = rw e.0 e.1

form_accepted : (f : Format) (g : ItemForm) (s : List ℕ) (i : RuleItem) → read_form f g s ≡ Some i → is_of_form g i ≡ true
form_accepted f (word_of ws) s i h =
    let e = and_then-some (read_word f ws s) (λ w. Some (word w)) i h in
    let z : word e.0 ≡ i = cc e.2 in
    rw (← z) (word_accepted f ws s e.0 e.1)
form_accepted f enddate s i h =
    let e = and_then-some (read_enddate f s) (λ m. Some (moment m)) i h in
    let z : moment e.0 ≡ i = cc e.2 in
    rw (← z) (enddate_accepted f s e.0 e.1)
form_accepted f counting s i h =
    let e = and_then-some (read_counting s) (λ w. Some (number w)) i h in
    let z : number e.0 ≡ i = cc e.2 in
    rw (← z) (unsigned_is 1 2147483647 e.0 (counting_accepted s e.0 e.1))
form_accepted f (unsigned d lo hi) s i h =
    let e = and_then-some (read_unsigned d lo hi s) (λ w. Some (number w)) i h in
    let z : number e.0 ≡ i = cc e.2 in
    rw (← z) (unsigned_is lo hi e.0 (unsigned_accepted d lo hi s e.0 e.1))
form_accepted f (signed d hi) s i h =
    let e = and_then-some (read_signed d hi s) (λ w. Some (number w)) i h in
    let z : number e.0 ≡ i = cc e.2 in
    rw (← z) (signed_accepted d hi s e.0 e.1)
form_accepted f weekdaynum s i h = weekday_accepted f s i h

-- ---- an item of a part of a given name

table_sound : every (λ (r : Part). is_sound r.form) part_table ≡ true
unfolding every octets_compute
table_sound = refl

part_sound : (n : List ℕ) (r : Part) → part_of n ≡ Some r → is_sound r.form ≡ true
part_sound n r e = row_passes (λ (r : Part). r.name) n (λ (r : Part). is_sound r.form) part_table r table_sound e

item_written : (f : Format) (n : List ℕ) (i : RuleItem) → is_item n i ≡ true →
    (read_item f n (write_item f i) ≡ Some i) × (all_of is_time_char (write_item ical i) ≡ true)
unfolding and_then
item_written f n i h = go (part_of n) refl h
  where
    go : (o : Option Part) → part_of n ≡ o → is_for o i ≡ true →
        (and_then o (λ r. read_form f r.form (write_item f i)) ≡ Some i) × (all_of is_time_char (write_item ical i) ≡ true)
    go None e k = absurd (false≢true k)
    go (Some r) e k = form_written f r.form i (part_sound n r e) k

pub item_read_back : (f : Format) (n : List ℕ) (i : RuleItem) → is_item n i ≡ true → read_item f n (write_item f i) ≡ Some i
item_read_back f n i h = (item_written f n i h).0

pub item_characters : (n : List ℕ) (i : RuleItem) → is_item n i ≡ true → all_of is_time_char (write_item ical i) ≡ true
item_characters n i h = (item_written ical n i h).1

pub item_accepted : (f : Format) (n s : List ℕ) (i : RuleItem) → read_item f n s ≡ Some i → is_item n i ≡ true
item_accepted f n s i h =
    let e = and_then-some (part_of n) (λ r. read_form f r.form s) i h in
    rw e.1 (form_accepted f e.0.form s i e.2)
