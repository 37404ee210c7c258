-- Laws of what specs/Fits.antt defines.
--     form_read    it is that
--     item_at            an item of the part at a place in the schema's order;   item_beyond: of no part
--     item_good, item_bad     the answer of `read_item`;   item_yes, item_no: what it says
use Rattle.times.specs.declared.date_time.DateTime.{DateTime}
use Rattle.times.specs.declared.date.Date.{Date}
use Rattle.times.specs.DateTimeAlong.{moment_of}
use Rattle.times.specs.DateAlong.{day_of}
use Rattle.std.specs.Prelude.{◌≡◌, refl, Bool, true, false, List, [], ◌∷◌, map, ℕ, zero, suc, ◌≤◌, ltb, length, get_or, Option, None, Some, is_some}
use Rattle.std.proofs.Math.Path.{sym}
use Rattle.std.proofs.Common.{ap, ◌∙◌, arith}
use Rattle.std.proofs.lemmas.Bool.{false≢true}
use Rattle.std.proofs.Math.ListN.{get_or-map}
use Rattle.octets.specs.Ascii.{ascii}
use Rattle.octets.specs.Pick.{pick, ◌and◌, ◌or◌}
use Rattle.octets.specs.Class.{is_alpha}
use Rattle.octets.specs.Words.{is_one_of}
use Rattle.octets.specs.Reading.{provided, and_then, is_read}
use Rattle.octets.specs.Computing.{octets_compute}
use Rattle.octets.specs.Front.{up_to, from_on}
use Rattle.calendar.specs.Calendar.{Format, format_of}
use Rattle.source.specs.Source.{rest, Reads}
use Rattle.source.specs.laws.Facts.{rest_byte, rest_end}
use Rattle.source.specs.declared.points.Unit.{Unit}
use Rattle.names.specs.Case.{cased, case_of}
use Rattle.times.specs.Date.{read_date}
use Rattle.times.specs.DateTime.{read_date_time}
use Rattle.names.specs.Table.{place_of, names_in}
use Rattle.names.specs.laws.Table.{one_of_place}
use Rattle.numbers.specs.Sign.{after_sign}
use Rattle.recur.specs.Parts.{ItemForm, word_of, enddate, counting, unsigned, signed, weekdaynum, Part, part_of, part_table, part_names, frequencies, weekdays}
use Rattle.recur.specs.Item.{in_capitals, is_numeral, read_ordinal, or_other, read_enddate, read_word, read_form, read_item}
use Rattle.recur.specs.Fits.{is_numeral_of, fits_ordinal, fits_form, item_read}

-- ---- an item by its form

provided_read : {A B : Type 0} (t : Bool) (a : A) (g : A → B) → is_read (and_then (provided t a) (λ x. Some (g x))) ≡ t
unfolding pick and_then is_read
provided_read true a g = refl
provided_read false a g = refl

pub read_then : {A B : Type 0} (o : Option A) (g : A → B) → is_read (and_then o (λ x. Some (g x))) ≡ is_read o
unfolding and_then is_read
read_then None g = refl
read_then (Some a) g = refl

both_read : {A B C : Type 0} (o : Option A) (q : Option B) (g : A → B → C) → is_read (and_then o (λ a. and_then q (λ b. Some (g a b)))) ≡ (is_read o and is_read q)
unfolding and_then is_read ◌and◌
both_read None q g = refl
both_read (Some a) None g = refl
both_read (Some a) (Some b) g = refl

pub provided_is : {A : Type 0} (t : Bool) (a : A) → is_read (provided t a) ≡ t
unfolding pick is_read
provided_is true a = refl
provided_is false a = refl

ordinal_read : (s : List ℕ) → is_read (read_ordinal s) ≡ fits_ordinal s
unfolding is_read ◌or◌
ordinal_read [] = refl
ordinal_read (b ∷ s) = provided_read (is_numeral_of 2 1 53 (after_sign (b ∷ s))) _ (λ w. Some w)

pub form_read : (f : Format) (k : ItemForm) (s : List ℕ) → is_read (read_form f k s) ≡ fits_form f k s
form_read f (word_of ws) s = provided_read (is_one_of (in_capitals f s) ws) _ _
form_read f enddate s = read_then (read_enddate f s) _
form_read f counting s = provided_read (is_numeral 1 2147483647 s) _ _
form_read f (unsigned d lo hi) s = provided_read (is_numeral_of d lo hi s) _ _
form_read f (signed d hi) s = provided_read (is_numeral_of d 1 hi (after_sign s)) _ _
form_read f weekdaynum s =
    both_read (read_ordinal (up_to is_alpha s)) (read_word f weekdays (from_on is_alpha s)) _
    ∙ rw (ordinal_read (up_to is_alpha s), provided_is (is_one_of (in_capitals f (from_on is_alpha s)) weekdays) (in_capitals f (from_on is_alpha s)))

-- ---- an item by its part's place

parts_are : map part_of part_names ≡ map (λ (r : Part). Some r) part_table
unfolding octets_compute
parts_are = refl

pub part_at : (p : ℕ) → part_of (get_or part_names p []) ≡ get_or (map (λ (r : Part). Some r) part_table) p None
unfolding octets_compute
part_at p = sym (get_or-map part_of part_names p []) ∙ ap (λ (l : List (Option Part)). get_or l p None) parts_are

pub beyond : {A : Type 0} (l : List (Option A)) (k : ℕ) → length l ≤ k → get_or l k None ≡ None
beyond [] k h = refl
beyond (x ∷ l) zero h = absurd (omega arith)
beyond (x ∷ l) (suc k) h = beyond l k (omega arith)

module _ (f : Format) (s : List ℕ) where
  pub item_at : (p k : ℕ) {r : Bool} {g : Part} → p ≡ k → get_or (map (λ (r : Part). Some r) part_table) k None ≡ Some g → r ≡ fits_form f g.form s → r ≡ is_read (read_item f (get_or part_names p []) s)
  unfolding and_then
  item_at p k {r} {g} e h t = t ∙ sym (form_read f g.form s) ∙ sym (rw (part_at p, e, h))

  pub item_beyond : (p : ℕ) → 14 ≤ p → false ≡ is_read (read_item f (get_or part_names p []) s)
  unfolding and_then is_read
  item_beyond p h = sym (rw (part_at p, beyond (map (λ (r : Part). Some r) part_table) p h))

-- ---- the answer

module _ (p : ℕ) {b r : Bool} (e : r ≡ b) where
  pub item_good : r ≡ true → Some p ≡ item_read p b
  item_good h = rw (← e, h)

  pub item_bad : r ≡ false → None ≡ item_read p b
  item_bad h = rw (← e, h)

item_is : (p : ℕ) (b : Bool) → is_some (item_read p b) ≡ b
item_is p true = refl
item_is p false = refl

module _ (p : ℕ) {b : Bool} {r : Option ℕ} (e : r ≡ item_read p b) where
  pub item_yes : {i : ℕ} → r ≡ Some i → b ≡ true
  item_yes h = sym (item_is p b) ∙ rw (← e, h)

  pub item_no : r ≡ None → b ≡ false
  item_no h = sym (item_is p b) ∙ rw (← e, h)

-- ---- words

pub word_case : (x : Bool) (s : List ℕ) → cased (case_of x) s ≡ in_capitals (format_of x) s
word_case true s = refl
word_case false s = refl

-- a word looked up in a table of these words
pub word_found : (x : Bool) (s : List ℕ) (ws : List (List ℕ)) {n : ℕ} {l : List (List ℕ)} → l ≡ ws → n ≡ place_of (cased (case_of x) s) l →
    ltb n (length ws) ≡ is_one_of (in_capitals (format_of x) s) ws
word_found x s ws {n} {l} e h = rw (h, e, word_case x s) (sym (one_of_place (in_capitals (format_of x) s) ws))

-- ---- the first letter

pub record Lettered (m : ℕ) (s : List ℕ) (c₀ c : ℕ) : Type 0 where
  pub left : from_on is_alpha (rest m s c₀) ≡ from_on is_alpha (rest m s c)

module _ {m : ℕ} {s : List ℕ} {c₀ c : ℕ} {r : Unit} (t : Lettered m s c₀ c) (p : Reads m s c r) where
  pub letter_end : r.u ≡ 256 → from_on is_alpha (rest m s c₀) ≡ rest m s c
  unfolding from_on
  letter_end h = t.left ∙ rw (rest_end p h)

  pub letter_here : (r.u ≡ 256 → ⊥) → is_alpha r.u ≡ true → from_on is_alpha (rest m s c₀) ≡ rest m s c
  unfolding from_on pick
  letter_here h e = t.left ∙ rw (rest_byte p h, e)

  pub letter_later : (r.u ≡ 256 → ⊥) → is_alpha r.u ≡ false → Lettered m s c₀ r.next
  unfolding from_on pick
  letter_later h e = record { left = t.left ∙ rw (rest_byte p h, e) }

pub frequencies_are : names_in (ascii "SECONDLY\nMINUTELY\nHOURLY\nDAILY\nWEEKLY\nMONTHLY\nYEARLY\n") ≡ frequencies
unfolding names_in octets_compute
frequencies_are = refl

pub weekdays_are : names_in (ascii "SU\nMO\nTU\nWE\nTH\nFR\nSA\n") ≡ weekdays
unfolding names_in octets_compute
weekdays_are = refl

-- ---- ends

day_there : (r : Option Date) → is_read (day_of r) ≡ is_some r
unfolding is_read
day_there None = refl
day_there (Some d) = refl

moment_there : (r : Option DateTime) → is_some r ≡ is_read (moment_of r)
unfolding is_read
moment_there None = refl
moment_there (Some d) = refl

module _ (f : Format) (s : List ℕ) (r : Option Date) (p : read_date f s ≡ day_of r) where
  pub date_there : is_some r ≡ true → is_read (read_date f s) ≡ true
  date_there h = rw p (day_there r ∙ h)

  pub date_missing : is_some r ≡ false → read_date f s ≡ None
  date_missing h = p ∙ go r h
    where
      go : (o : Option Date) → is_some o ≡ false → day_of o ≡ None
      go None k = refl
      go (Some d) k = absurd (false≢true (sym k))

  pub end_there : is_some r ≡ true → true ≡ is_read (read_enddate f s)
  unfolding is_read
  end_there h = go (read_date f s) (date_there h)
    where
      go : (o : Option (List ℕ)) → is_read o ≡ true → true ≡ is_read (or_other o (read_date_time f s))
      go None k = absurd (false≢true k)
      go (Some d) k = refl

  pub end_other : (q : Option DateTime) → is_some r ≡ false → read_date_time f s ≡ moment_of q → is_some q ≡ is_read (read_enddate f s)
  end_other q h e = rw (date_missing h, e) (moment_there q)
