-- Laws of what specs/Shown.antt defines.
--     shown_is          it is what the definitions write
--     item_shown_lem    the same by the part's name;   number_at: a part whose items are numbers
--     end_day, end_moment    UNTIL
use Rattle.std.specs.Prelude.{◌≡◌, refl, Bool, true, false, List, [], ◌∷◌, map, ℕ, zero, suc, ◌≤◌, ◌<◌, eqb, leb, ltb, length, get_or, Option, None, Some}
use Rattle.std.proofs.Common.{sym, ap, ◌∙◌, arith, leb-true, le-leb, ne_eqb}
use Rattle.std.proofs.lemmas.Bool.{false≢true}
use Rattle.octets.specs.Pick.{pick, ◌and◌, ◌or◌}
use Rattle.octets.specs.laws.Pick.{and_both, pick_either, within_range}
use Rattle.octets.specs.Append.{◌⊕◌}
use Rattle.octets.specs.Scan.{all_of}
use Rattle.octets.specs.laws.Scan.{all_split}
use Rattle.octets.specs.Class.{is_digit, is_alpha}
use Rattle.octets.specs.Words.{same, is_one_of, row_of}
use Rattle.octets.specs.Lists.{every}
use Rattle.octets.specs.laws.Lists.{every_both}
use Rattle.octets.specs.Decimal.{value}
use Rattle.octets.specs.Reading.{and_then, is_read, or_nothing}
use Rattle.octets.specs.laws.Reading.{none-some}
use Rattle.octets.specs.Front.{up_to, from_on}
use Rattle.calendar.specs.Calendar.{Format, ical, Whole, moment}
use Rattle.times.specs.Date.{is_date, read_date, write_date}
use Rattle.times.specs.laws.Date.{date_accepted, date_read_back}
use Rattle.times.specs.DateTime.{is_date_time, read_date_time, write_date_time}
use Rattle.times.specs.laws.DateTime.{date_time_accepted, date_time_no_date}
use Rattle.numbers.specs.Sign.{has_minus, after_sign}
use Rattle.numbers.specs.Integer.{write_whole}
use Rattle.recur.specs.Parts.{ItemForm, word_of, enddate, counting, unsigned, signed, weekdaynum, Part, part_of, part_table, weekdays}
use Rattle.recur.specs.Item.{in_capitals, is_numeral, is_short, or_other, read_enddate, write_enddate, read_form, read_item, write_item, whole_number, read_ordinal, write_ordinal}
use Rattle.recur.specs.Numeral.{numeral_in}
use Rattle.recur.specs.Fits.{fits_ordinal, fits_form}
use Rattle.recur.specs.laws.Fits.{form_read}
use Rattle.recur.specs.Shown.{shown_number, shown_ordinal, shown, shown_at}

-- ---- numbers

-- a number in range is the number in the widest range
numeral_wide : (lo hi : ℕ) (s : List ℕ) → hi ≤ 2147483647 → is_numeral lo hi s ≡ true → numeral_in 0 2147483647 s ≡ Some (value 0 s)
unfolding numeral_in pick ◌and◌
numeral_wide lo hi s l h =
    let a = and_both (ltb 0 (length s) and all_of is_digit s and leb (value 0 s) hi) (leb lo (value 0 s)) h in
    let b = and_both (ltb 0 (length s)) (all_of is_digit s and leb (value 0 s) hi) a.0 in
    let d = and_both (all_of is_digit s) (leb (value 0 s) hi) b.1 in
    let v : value 0 s ≤ hi = leb-true (value 0 s) hi d.1 in
    rw (b.0, d.0, le-leb (value 0 s) 2147483647 (omega arith), le-leb 0 (value 0 s) (omega arith))

digit_sign : (b : ℕ) → is_digit b ≡ true → (eqb b 43 ≡ false) × (eqb b 45 ≡ false)
digit_sign b h = let g = within_range 48 57 b h in (ne_eqb b 43 (λ e. omega arith), ne_eqb b 45 (λ e. omega arith))

-- digits have no sign
plain_number : (lo hi : ℕ) (s : List ℕ) → is_numeral lo hi s ≡ true → (has_minus s ≡ false) × (after_sign s ≡ s)
unfolding has_minus after_sign pick ◌or◌
plain_number lo hi [] h = (refl, refl)
plain_number lo hi (b ∷ s) h =
    let a = and_both (ltb 0 (length (b ∷ s)) and all_of is_digit (b ∷ s) and leb (value 0 (b ∷ s)) hi) (leb lo (value 0 (b ∷ s))) h in
    let q = and_both (ltb 0 (length (b ∷ s))) (all_of is_digit (b ∷ s) and leb (value 0 (b ∷ s)) hi) a.0 in
    let d = and_both (all_of is_digit (b ∷ s)) (leb (value 0 (b ∷ s)) hi) q.1 in
    let g = digit_sign b (all_split is_digit b s d.0).0 in
    (g.1, rw (g.0, g.1))

shown_plain : (lo hi : ℕ) (s : List ℕ) → hi ≤ 2147483647 → is_numeral lo hi s ≡ true → write_whole (whole_number false (value 0 s)) ≡ shown_number s
shown_plain lo hi s l h = let p = plain_number lo hi s h in sym (rw (p.0, p.1, numeral_wide lo hi s l h))

shown_signed : (hi : ℕ) (s : List ℕ) → hi ≤ 2147483647 → is_numeral 1 hi (after_sign s) ≡ true → write_whole (whole_number (has_minus s) (value 0 (after_sign s))) ≡ shown_number s
shown_signed hi s l h = sym (rw (numeral_wide 1 hi (after_sign s) l h))

-- ---- ends

not_date : (m : List ℕ) → is_date_time m ≡ true → is_date m ≡ false
unfolding write_date write_date_time
not_date m h = go (is_date m) refl
  where
    go : (t : Bool) → is_date m ≡ t → t ≡ false
    go true e = none-some (sym (date_time_no_date ical m h) ∙ date_read_back ical m e)
    go false e = refl

pub end_day : (g f : Format) (s : List ℕ) → is_read (read_date f s) ≡ true → or_nothing (write_date g) (read_date f s) ≡ or_nothing (write_enddate g) (read_enddate f s)
unfolding is_read pick
end_day g f s h = go (read_date f s) refl h
  where
    go : (o : Option (List ℕ)) → read_date f s ≡ o → is_read o ≡ true → or_nothing (write_date g) o ≡ or_nothing (write_enddate g) (or_other o (read_date_time f s))
    go None e k = absurd (false≢true k)
    go (Some d) e k = sym (rw (date_accepted f s d e))

pub end_moment : (g f : Format) (s : List ℕ) → read_date f s ≡ None → or_nothing (write_date_time g) (read_date_time f s) ≡ or_nothing (write_enddate g) (read_enddate f s)
unfolding pick
end_moment g f s h = rw h (go (read_date_time f s) refl)
  where
    go : (o : Option (List ℕ)) → read_date_time f s ≡ o → or_nothing (write_date_time g) o ≡ or_nothing (write_enddate g) o
    go None e = refl
    go (Some m) e = sym (rw (not_date m (date_time_accepted f s m e)))

-- ---- an item by its form

abbrev pub is_small : ItemForm → Bool
is_small (word_of ws) = true
is_small enddate = true
is_small counting = true
is_small (unsigned d lo hi) = leb hi 2147483647
is_small (signed d hi) = leb hi 2147483647
is_small weekdaynum = true

ordinal_shown : (t : List ℕ) → fits_ordinal t ≡ true → (o : Option Whole) × (read_ordinal t ≡ Some o) × (write_ordinal o ≡ shown_ordinal t)
unfolding pick ◌or◌ and_then
ordinal_shown [] h = (None, refl, refl)
ordinal_shown (b ∷ t) h =
    (Some (whole_number (has_minus (b ∷ t)) (value 0 (after_sign (b ∷ t)))), rw h, shown_signed 53 (b ∷ t) (omega arith) (and_both (is_short 2 (after_sign (b ∷ t))) (is_numeral 1 53 (after_sign (b ∷ t))) h).1)

end_shown : (g f : Format) (s : List ℕ) → or_nothing (write_item g) (read_form f enddate s) ≡ or_nothing (write_enddate g) (read_enddate f s)
unfolding and_then
end_shown g f s = go (read_enddate f s)
  where
    go : (o : Option (List ℕ)) → or_nothing (write_item g) (and_then o (λ m. Some (moment m))) ≡ or_nothing (write_enddate g) o
    go None = refl
    go (Some m) = refl

weekday_shown : (g f : Format) (s : List ℕ) (o : Option Whole) (l : List ℕ) → read_ordinal (up_to is_alpha s) ≡ Some o → write_ordinal o ≡ l →
    is_one_of (in_capitals f (from_on is_alpha s)) weekdays ≡ true → or_nothing (write_item g) (read_form f weekdaynum s) ≡ l ⊕ in_capitals f (from_on is_alpha s)
unfolding and_then pick
weekday_shown g f s o l p q h = rw (p, h) (ap (λ (x : List ℕ). x ⊕ in_capitals f (from_on is_alpha s)) q)

shown_is : (g f : Format) (k : ItemForm) (s : List ℕ) → is_small k ≡ true → fits_form f k s ≡ true → or_nothing (write_item g) (read_form f k s) ≡ shown g f k s
unfolding and_then pick
shown_is g f (word_of ws) s z h = rw h
shown_is g f enddate s z h = end_shown g f s
shown_is g f counting s z h = rw h (shown_plain 1 2147483647 s (omega arith) h)
shown_is g f (unsigned d lo hi) s z h = rw h (shown_plain lo hi s (leb-true hi 2147483647 z) (and_both (is_short d s) (is_numeral lo hi s) h).1)
shown_is g f (signed d hi) s z h = rw h (shown_signed hi s (leb-true hi 2147483647 z) (and_both (is_short d (after_sign s)) (is_numeral 1 hi (after_sign s)) h).1)
shown_is g f weekdaynum s z h =
    let a = and_both (fits_ordinal (up_to is_alpha s)) (is_one_of (in_capitals f (from_on is_alpha s)) weekdays) h in
    let e = ordinal_shown (up_to is_alpha s) a.0 in
    weekday_shown g f s e.0 (shown_ordinal (up_to is_alpha s)) e.1 e.2 a.1

-- ---- an item by its part

abbrev is_small_at : Option Part → Bool
is_small_at None = true
is_small_at (Some r) = is_small r.form

small_row : (n : List ℕ) (l : List Part) → every (λ (r : Part). is_small r.form) l ≡ true → is_small_at (row_of (λ (r : Part). r.name) n l) ≡ true
unfolding row_of
small_row n [] h = refl
small_row n (r ∷ l) h =
    let q = every_both (λ (r : Part). is_small r.form) r l h in
    pick_either (λ (o : Option Part). is_small_at o ≡ true) (same n r.name) (Some r) (row_of (λ (r : Part). r.name) n l) q.0 (small_row n l q.1)

table_small : every (λ (r : Part). is_small r.form) part_table ≡ true
unfolding every ◌and◌
table_small = refl

pub item_shown_lem : (g f : Format) (n s : List ℕ) → is_read (read_item f n s) ≡ true → or_nothing (write_item g) (read_item f n s) ≡ shown_at g f (part_of n) s
unfolding and_then is_read
item_shown_lem g f n s h = go (part_of n) (small_row n part_table table_small) h
  where
    go : (o : Option Part) → is_small_at o ≡ true → is_read (and_then o (λ r. read_form f r.form s)) ≡ true →
        or_nothing (write_item g) (and_then o (λ r. read_form f r.form s)) ≡ shown_at g f o s
    go None z k = refl
    go (Some r) z k = shown_is g f r.form s z (sym (form_read f r.form s) ∙ k)

-- the part at a place
abbrev pub row_at : ℕ → Option Part
row_at p = get_or (map (λ (r : Part). Some r) part_table) p None

pub number_at : (g f : Format) (s : List ℕ) (p : ℕ) → (p ≡ 0 → ⊥) → (p ≡ 1 → ⊥) → (p ≡ 7 → ⊥) → (p ≡ 13 → ⊥) → p < 14 → shown_at g f (row_at p) s ≡ shown_number s
number_at g f s zero a b c d l = absurd (a refl)
number_at g f s (suc zero) a b c d l = absurd (b refl)
number_at g f s (suc (suc zero)) a b c d l = refl
number_at g f s (suc (suc (suc zero))) a b c d l = refl
number_at g f s (suc (suc (suc (suc zero)))) a b c d l = refl
number_at g f s (suc (suc (suc (suc (suc zero))))) a b c d l = refl
number_at g f s (suc (suc (suc (suc (suc (suc zero)))))) a b c d l = refl
number_at g f s (suc (suc (suc (suc (suc (suc (suc zero))))))) a b c d l = absurd (c refl)
number_at g f s (suc (suc (suc (suc (suc (suc (suc (suc zero)))))))) a b c d l = refl
number_at g f s (suc (suc (suc (suc (suc (suc (suc (suc (suc zero))))))))) a b c d l = refl
number_at g f s (suc (suc (suc (suc (suc (suc (suc (suc (suc (suc zero)))))))))) a b c d l = refl
number_at g f s (suc (suc (suc (suc (suc (suc (suc (suc (suc (suc (suc zero))))))))))) a b c d l = refl
number_at g f s (suc (suc (suc (suc (suc (suc (suc (suc (suc (suc (suc (suc zero)))))))))))) a b c d l = refl
number_at g f s (suc (suc (suc (suc (suc (suc (suc (suc (suc (suc (suc (suc (suc zero))))))))))))) a b c d l = absurd (d refl)
number_at g f s (suc (suc (suc (suc (suc (suc (suc (suc (suc (suc (suc (suc (suc (suc p)))))))))))))) a b c d l = absurd (omega arith)
