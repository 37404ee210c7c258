-- The characters of values are well formed and hold no CR: clean.
--     is_clean_value    the characters that its type leaves free are clean;   values_clean: those of valid values are;   clean_values: and back
--     is_clean_data, status_clean, clean_status  the parts of a REQUEST-STATUS
--     data_clean        the character data of a value's element;   moment_clean, span_clean, float_clean, item_clean: of the elements inside one
use Rattle.std.specs.Prelude.{◌≡◌, refl, Bool, true, false, not, List, [], ◌∷◌, ℕ, zero, suc, eqb, length, Option, None, Some}
use Rattle.std.proofs.Common.{◌∙◌}
use Rattle.std.proofs.lemmas.Bool.{false≢true, not-true}
use Rattle.octets.specs.Pick.{pick, ◌and◌}
use Rattle.octets.specs.laws.Pick.{pick_no, pick_either, and_both, and_yes}
use Rattle.octets.specs.Scan.{all_of}
use Rattle.octets.specs.laws.Scan.{all_cons, all_split}
use Rattle.octets.specs.Class.{is_visible}
use Rattle.octets.specs.Words.{holds, none_holds}
use Rattle.octets.specs.laws.Words.{none_split, all_without}
use Rattle.octets.specs.Lists.{every}
use Rattle.octets.specs.laws.Lists.{every_both, every_weaker, every-and}
use Rattle.octets.specs.Computing.{octets_compute}
use Rattle.calendar.specs.Calendar.{ical, xcal, RuleItem, moment, number, word, weekday}
use Rattle.calendar.specs.Calendar.{Value, binary, boolean, cal_address, date, date_time, duration, float, integer, period_explicit, period_start, recur, text, time, uri, utc_offset, unknown, geo, request_status}
use Rattle.utf8.specs.Utf8.{well_formed}
use Rattle.utf8.specs.laws.Utf8.{good_well_formed, visible_good}
use Rattle.times.specs.Spelling.{Mark, put_mark, with_marks}
use Rattle.times.specs.laws.Spelling.{chars_visible}
use Rattle.times.specs.Date.{is_date, write_date, date_marks}
use Rattle.times.specs.laws.Date.{date_chars}
use Rattle.times.specs.Time.{write_time, time_marks}
use Rattle.times.specs.laws.Time.{time_chars}
use Rattle.times.specs.DateTime.{is_date_time, write_date_time, date_time_marks}
use Rattle.times.specs.laws.DateTime.{date_time_chars}
use Rattle.times.specs.Duration.{is_duration, write_duration}
use Rattle.times.specs.laws.Duration.{duration_chars}
use Rattle.times.specs.UtcOffset.{write_utc_offset, minute_marks, second_marks}
use Rattle.times.specs.laws.UtcOffset.{utc_offset_chars}
use Rattle.numbers.specs.laws.Boolean.{boolean_visible}
use Rattle.numbers.specs.laws.Integer.{integer_visible}
use Rattle.numbers.specs.Float.{is_normal, write_float}
use Rattle.numbers.specs.laws.FloatLaws.{float_visible}
use Rattle.texts.specs.RequestStatus.{status_parts}
use Rattle.texts.specs.laws.Uri.{uri_visible}
use Rattle.texts.specs.laws.Binary.{binary_visible}
use Rattle.recur.specs.Item.{write_item, is_item}
use Rattle.recur.specs.laws.ItemLaws.{item_characters}
use Rattle.values.specs.WriteValue.{value_characters}
use Rattle.values.specs.ReadBack.{is_value}
use Rattle.values.specs.Characters.{free_in, is_value_text}
use Rattle.values.specs.laws.ReadBack.{is_character_data}
use Rattle.validity.specs.ValidCalendar.{is_permitted}
use Rattle.xcal.proofs.laws.SoundContent.{is_clean}

-- ---- free characters

abbrev pub is_clean_value : Value → Bool
is_clean_value v = every is_clean (free_in v)

parts_clean : (l : List (List ℕ)) → none_holds 13 l ≡ true → every well_formed l ≡ true → every is_clean l ≡ true
unfolding is_clean every
parts_clean [] n h = refl
parts_clean (s ∷ l) n h =
    let a = none_split 13 s l n in
    let b = every_both well_formed s l h in
    and_yes _ _ (and_yes _ _ (rw a.0) b.0) (parts_clean l a.1 b.1)

clean_parts : (l : List (List ℕ)) → every is_clean l ≡ true → (none_holds 13 l ≡ true) × (every well_formed l ≡ true)
unfolding is_clean none_holds every
clean_parts [] h = (refl, refl)
clean_parts (s ∷ l) h =
    let a = every_both is_clean s l h in
    let b = and_both (not (holds 13 s)) (well_formed s) a.0 in
    let r = clean_parts l a.1 in
    (pick_no (holds 13 s) false _ (not-true _ b.0) ∙ r.0, and_yes _ _ b.1 r.1)

pub values_clean : (vs : List Value) → every is_value_text vs ≡ true → every is_permitted vs ≡ true → every is_clean_value vs ≡ true
values_clean vs h k =
    every_weaker (λ v. is_value_text v and is_permitted v) is_clean_value (λ v e. let a = and_both (is_value_text v) _ e in parts_clean (free_in v) a.0 a.1) vs (every-and is_value_text is_permitted vs h k)

pub clean_values : (vs : List Value) → every is_clean_value vs ≡ true → (every is_value_text vs ≡ true) × (every is_permitted vs ≡ true)
clean_values vs h = (every_weaker is_clean_value is_value_text (λ v e. (clean_parts (free_in v) e).0) vs h, every_weaker is_clean_value is_permitted (λ v e. (clean_parts (free_in v) e).1) vs h)

-- one piece
pub one_clean : (s : List ℕ) → is_clean s ≡ true → every is_clean (s ∷ []) ≡ true
unfolding every
one_clean s h = and_yes _ _ h refl

abbrev pub is_clean_data : Option (List ℕ) → Bool
is_clean_data None = true
is_clean_data (Some s) = is_clean s

pub status_clean : (c d : List ℕ) (x : Option (List ℕ)) → is_clean c ≡ true → is_clean d ≡ true → is_clean_data x ≡ true → every is_clean (status_parts c d x) ≡ true
unfolding every
status_clean c d None a b e = and_yes _ _ a (one_clean d b)
status_clean c d (Some x) a b e = and_yes _ _ a (and_yes _ _ b (one_clean x e))

pub clean_status : (c d : List ℕ) (x : Option (List ℕ)) → every is_clean (status_parts c d x) ≡ true → (is_clean c ≡ true) × (is_clean d ≡ true) × (is_clean_data x ≡ true)
clean_status c d None h =
    let a = every_both is_clean c (d ∷ []) h in
    (a.0, (every_both is_clean d [] a.1).0, refl)
clean_status c d (Some x) h =
    let a = every_both is_clean c (d ∷ x ∷ []) h in
    let b = every_both is_clean d (x ∷ []) a.1 in
    (a.0, b.0, (every_both is_clean x [] b.1).0)

-- ---- characters

pub visible_clean : (s : List ℕ) → all_of is_visible s ≡ true → is_clean s ≡ true
unfolding is_clean ◌and◌
visible_clean s h = rw (all_without is_visible 13 refl s h) (good_well_formed s (visible_good s h))

put_visible : (n c : ℕ) (s : List ℕ) → is_visible c ≡ true → all_of is_visible s ≡ true → all_of is_visible (put_mark n c s) ≡ true
unfolding put_mark
put_visible zero c s v h = all_cons is_visible c s v h
put_visible (suc n) c [] v h = all_cons is_visible c [] v h
put_visible (suc n) c (b ∷ s) v h = let a = all_split is_visible b s h in all_cons is_visible b (put_mark n c s) a.0 (put_visible n c s v a.1)

marks_visible : (ms : List Mark) (s : List ℕ) → every (λ (m : Mark). is_visible m.sign) ms ≡ true → all_of is_visible s ≡ true → all_of is_visible (with_marks ms s) ≡ true
unfolding with_marks
marks_visible [] s v h = h
marks_visible (m ∷ ms) s v h = let a = every_both (λ (m : Mark). is_visible m.sign) m ms v in marks_visible ms (put_mark m.place m.sign s) a.1 (put_visible m.place m.sign s a.0 h)

date_clean : (s : List ℕ) → all_of is_visible s ≡ true → all_of is_visible (write_date xcal s) ≡ true
unfolding octets_compute write_date
date_clean s h = marks_visible date_marks s refl h

time_clean : (s : List ℕ) → all_of is_visible s ≡ true → all_of is_visible (write_time xcal s) ≡ true
unfolding octets_compute write_time
time_clean s h = marks_visible time_marks s refl h

date_time_clean : (s : List ℕ) → all_of is_visible s ≡ true → all_of is_visible (write_date_time xcal s) ≡ true
unfolding octets_compute write_date_time
date_time_clean s h = marks_visible date_time_marks s refl h

offset_clean : (s : List ℕ) → all_of is_visible s ≡ true → all_of is_visible (write_utc_offset xcal s) ≡ true
unfolding octets_compute write_utc_offset
offset_clean s h = pick_either (λ ms. all_of is_visible (with_marks ms s) ≡ true) (eqb (length s) 5) minute_marks second_marks (marks_visible minute_marks s refl h) (marks_visible second_marks s refl h)

duration_clean : (s : List ℕ) → all_of is_visible s ≡ true → all_of is_visible (write_duration xcal s) ≡ true
unfolding write_duration
duration_clean s h = h

pub moment_clean : (s : List ℕ) → is_date_time s ≡ true → is_clean (write_date_time xcal s) ≡ true
moment_clean s h = visible_clean _ (date_time_clean s (chars_visible s (date_time_chars s h)))

pub span_clean : (s : List ℕ) → is_duration s ≡ true → is_clean (write_duration xcal s) ≡ true
span_clean s h = visible_clean _ (duration_clean s (chars_visible s (duration_chars s h)))

pub float_clean : (d : _) → is_normal d ≡ true → is_clean (write_float d) ≡ true
float_clean d h = visible_clean _ (float_visible d h)

pub data_clean : (v : Value) → is_character_data v ≡ true → is_value v ≡ true → is_clean_value v ≡ true → is_clean (value_characters v) ≡ true
unfolding value_characters
data_clean (binary s) c h k = visible_clean s (binary_visible s h)
data_clean (boolean b) c h k = visible_clean _ (boolean_visible xcal b)
data_clean (cal_address s) c h k = visible_clean s (uri_visible s h)
data_clean (date s) c h k = visible_clean _ (date_clean s (chars_visible s (date_chars s h)))
data_clean (date_time s) c h k = moment_clean s h
data_clean (duration s) c h k = span_clean s h
data_clean (float d) c h k = float_clean d h
data_clean (integer w) c h k = visible_clean _ (integer_visible w)
data_clean (period_explicit s e) c h k = absurd (false≢true c)
data_clean (period_start s d) c h k = absurd (false≢true c)
data_clean (recur ps) c h k = absurd (false≢true c)
data_clean (text s) c h k = (every_both is_clean s [] k).0
data_clean (time s) c h k = visible_clean _ (time_clean s (chars_visible s (time_chars s h)))
data_clean (uri s) c h k = visible_clean s (uri_visible s h)
data_clean (utc_offset s) c h k = visible_clean _ (offset_clean s (chars_visible s (utc_offset_chars s h)))
data_clean (unknown s) c h k = (every_both is_clean s [] k).0
data_clean (geo la lo) c h k = absurd (false≢true c)
data_clean (request_status a b x) c h k = absurd (false≢true c)

item_visible : (n : List ℕ) (i : RuleItem) → is_item n i ≡ true → all_of is_visible (write_item xcal i) ≡ true
unfolding write_date write_date_time pick
item_visible n i h = go i (chars_visible _ (item_characters n i h))
  where
    either : (m : List ℕ) (t : Bool) → all_of is_visible (pick t (write_date ical m) (write_date_time ical m)) ≡ true → all_of is_visible (pick t (write_date xcal m) (write_date_time xcal m)) ≡ true
    either m true k = date_clean m k
    either m false k = date_time_clean m k

    go : (i : RuleItem) → all_of is_visible (write_item ical i) ≡ true → all_of is_visible (write_item xcal i) ≡ true
    go (moment m) k = either m (is_date m) k
    go (number w) k = k
    go (word w) k = k
    go (weekday o d) k = k

pub item_clean : (n : List ℕ) (i : RuleItem) → is_item n i ≡ true → is_clean (write_item xcal i) ≡ true
item_clean n i h = visible_clean _ (item_visible n i h)
