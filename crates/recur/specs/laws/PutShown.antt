-- An item of a rule part as it is put: the rules for each way that the code goes.
--     put_shown_at, put_shown_number, put_shown_beyond     by the part's place
--     put_item_shown, put_item_none                        where there is an item, and where there is none
--     put_number, put_no_ordinal, put_an_ordinal           numbers
--     put_kept, put_raised, put_end_day, put_end_moment    words and ends
use Rattle.times.specs.declared.date.Date.{Date}
use Rattle.std.specs.Prelude.{◌≡◌, Bool, ℕ, ◌≤◌, ◌<◌, get_or, Option, None, Some, is_some, unwrap_or}
use Rattle.std.proofs.Math.Path.{refl, subst}
use Rattle.std.proofs.Common.{sym, arith}
use Rattle.std.proofs.Math.Bool.{true, false}
use Rattle.std.proofs.lemmas.Bool.{false≢true}
use mathlib.Core.List.{List, [], ◌∷◌, map}
use Rattle.std.proofs.Math.Dec.{eqb}
use borrow.Author.Tests.{ne_eqb, eqb-true}
use Rattle.octets.specs.Pick.{pick}
use Rattle.octets.specs.Class.{is_alpha, upper}
use Rattle.octets.specs.Words.{is_empty}
use Rattle.octets.specs.Decimal.{digits}
use Rattle.octets.specs.Reading.{is_read, or_nothing}
use Rattle.octets.specs.Front.{up_to}
use Rattle.calendar.specs.Calendar.{Format, format_of, RuleItem}
use Rattle.sink.specs.Sink.{Put}
use Rattle.sink.specs.laws.Sink.{put_no}
use Rattle.source.specs.Source.{rest, spell}
use Rattle.source.specs.declared.points.Unit.{Unit}
use Rattle.times.specs.Date.{read_date, write_date}
use Rattle.times.specs.DateAlong.{day_of}
use Rattle.times.specs.DateTime.{read_date_time, write_date_time}
use Rattle.numbers.specs.Numeral.{front, Fronts}
use Rattle.numbers.specs.laws.Numeral.{fronts_byte, fronts_end}
use Rattle.numbers.specs.Sign.{has_minus, after_sign, minus_if}
use Rattle.recur.specs.Parts.{Part, part_of, part_table, part_names}
use Rattle.recur.specs.Item.{in_capitals, read_enddate, write_enddate, read_item, write_item}
use Rattle.recur.specs.Numeral.{numeral_in}
use Rattle.recur.specs.laws.Fits.{part_at, beyond, date_there, date_missing}
use Rattle.recur.specs.Shown.{shown_number, shown_ordinal, shown_at}
use Rattle.recur.specs.laws.Shown.{end_day, end_moment, row_at, item_shown_lem, number_at}

-- ---- an item by its part's place

module _ (g f : Format) (s : List ℕ) {d e : List ℕ} {o r : ℕ} where
  pub put_shown_at : (p k : ℕ) → p ≡ k → Put d e o r (shown_at g f (row_at k) s) → Put d e o r (shown_at g f (part_of (get_or part_names p [])) s)
  put_shown_at p k h w = rw (part_at p, h) w

  pub put_shown_number : (p : ℕ) → (p ≡ 0 → ⊥) → (p ≡ 1 → ⊥) → (p ≡ 7 → ⊥) → (p ≡ 13 → ⊥) → p < 14 → Put d e o r (shown_number s) → Put d e o r (shown_at g f (part_of (get_or part_names p [])) s)
  put_shown_number p a b c y l w = rw (part_at p, number_at g f s p a b c y l) w

  pub put_shown_beyond : (p : ℕ) → 14 ≤ p → Put d e o r [] → Put d e o r (shown_at g f (part_of (get_or part_names p [])) s)
  put_shown_beyond p h w = rw (part_at p, beyond (map (λ (r : Part). Some r) part_table) p h) w

  pub put_item_shown : (p : ℕ) → is_read (read_item f (get_or part_names p []) s) ≡ true → Put d e o r (shown_at g f (part_of (get_or part_names p [])) s) →
      Put d e o r (or_nothing (write_item g) (read_item f (get_or part_names p []) s))
  put_item_shown p h w = rw (item_shown_lem g f (get_or part_names p []) s h) w

  pub put_item_none : (p : ℕ) → is_read (read_item f (get_or part_names p []) s) ≡ false → Put d e o r [] → Put d e o r (or_nothing (write_item g) (read_item f (get_or part_names p []) s))
  unfolding is_read
  put_item_none p h w = go (read_item f (get_or part_names p []) s) h
    where
      go : (q : Option RuleItem) → is_read q ≡ false → Put d e o r (or_nothing (write_item g) q)
      go None k = w
      go (Some i) k = absurd (false≢true (sym k))

-- ---- numbers, as they are put

module _ {l : Bool} {m : ℕ} {s : List ℕ} {c : ℕ} {r : Unit} (p : Fronts l m s c r) where
  pub minus_is : eqb r.u 45 ≡ has_minus (front l (rest m s c))
  unfolding has_minus spell pick
  minus_is = rw p.is (go (eqb r.u 256) refl)
    where
      go : (t : Bool) → eqb r.u 256 ≡ t → eqb r.u 45 ≡ has_minus (pick t [] (r.u ∷ front l (rest m s r.next)))
      go true e = ne_eqb r.u 45 (λ h. let q = eqb-true r.u 256 e in omega arith)
      go false e = refl

pub put_number : (t : List ℕ) {d e : List ℕ} {o q : ℕ} {v : List ℕ} {r : Option ℕ} {n : ℕ} (neg : Bool) → neg ≡ has_minus t → after_sign t ≡ v → numeral_in 0 2147483647 v ≡ r → n ≡ unwrap_or r 4294967295 →
    Put d e o q (minus_if neg (digits 9 n)) → Put d e o q (shown_number t)
put_number t neg a b c h w = rw (← a, b, c, ← h) w

-- ---- words and ends, as they are put

module _ {d e : List ℕ} {o r : ℕ} (f : Bool) (l : List ℕ) where
  pub put_kept : f ≡ true → Put d e o r l → Put d e o r (in_capitals (format_of f) l)
  put_kept h w = rw h w

  pub put_raised : f ≡ false → Put d e o r (upper l) → Put d e o r (in_capitals (format_of f) l)
  put_raised h w = rw h w

module _ {d e : List ℕ} {o q : ℕ} {m : ℕ} {s : List ℕ} {c : ℕ} {r : Unit} (p : Fronts true m s c r) where
  pub put_no_ordinal : r.u ≡ 256 → Put d e o q [] → Put d e o q (shown_ordinal (up_to is_alpha (rest m s c)))
  unfolding pick
  put_no_ordinal h w = rw (fronts_end p h) w

  pub put_an_ordinal : (r.u ≡ 256 → ⊥) → Put d e o q (shown_number (front true (rest m s c))) → Put d e o q (shown_ordinal (up_to is_alpha (rest m s c)))
  put_an_ordinal h w = put_no (is_empty (up_to is_alpha (rest m s c))) [] (shown_number (up_to is_alpha (rest m s c))) (rw (fronts_byte p h)) w

module _ {d e : List ℕ} {o q : ℕ} (g f : Format) (s : List ℕ) (r : Option Date) (p : read_date f s ≡ day_of r) where
  pub put_end_day : is_some r ≡ true → Put d e o q (or_nothing (write_date g) (read_date f s)) → Put d e o q (or_nothing (write_enddate g) (read_enddate f s))
  put_end_day h w = subst (Put d e o q) (end_day g f s (date_there f s r p h)) w

  pub put_end_moment : is_some r ≡ false → Put d e o q (or_nothing (write_date_time g) (read_date_time f s)) → Put d e o q (or_nothing (write_enddate g) (read_enddate f s))
  put_end_moment h w = subst (Put d e o q) (end_moment g f s (date_missing f s r p h)) w
