-- Laws of what specs/DurationAt.antt defines.
--     counting       the rules for digits and a letter, for a letter, and for what may be missing
use Rattle.std.specs.Prelude.{◌≡◌, Bool, List, [], ◌∷◌, eqb, ltb, length, drop, Option, None, Some}
use Rattle.std.proofs.Math.Path.{refl, sym}
use Rattle.std.proofs.Common.{ap, ◌∙◌, arith, rules}
use Rattle.std.proofs.Math.Bool.{true, false}
use Prim.Native.Nat.{ℕ, suc, ◌-◌, ◌*◌, ◌<◌}
use borrow.Author.Tests.{eqb-true, eq-eqb, ne_eqb, lt-ltb, ltb-true, leb-true}
use Rattle.octets.specs.Pick.{pick, ◌and◌, ◌or◌}
use Rattle.octets.specs.laws.Pick.{flag_yes, flag_no, or_take, or_skip, and_both, or_right, or-false}
use Rattle.octets.specs.Append.{◌⊕◌}
use Rattle.octets.specs.Scan.{span_len}
use Rattle.octets.specs.Class.{is_digit}
use Rattle.octets.specs.Words.{is_empty}
use Rattle.octets.specs.Reading.{or_nothing, is_read}
use Rattle.octets.specs.laws.Reading.{none-some}
use Rattle.calendar.specs.Calendar.{format_of}
use Rattle.source.specs.Source.{rest, spell}
use Rattle.source.specs.laws.Facts.{spell_byte, spell_end}
use Rattle.source.specs.declared.points.Unit.{Unit}
use Rattle.sink.specs.Sink.{Put, Todo}
use Rattle.sink.specs.laws.Sink.{todo_step, todo_done, writing}
use Rattle.times.specs.Spelling.{keep, begins}
use Rattle.times.specs.Letters.{cased, Spells}
use Rattle.times.specs.laws.Letters.{cased_empty}
use Rattle.times.specs.Written.{mark_bytes}
use Rattle.times.specs.Duration.{counted, optional, unsigned_duration, is_duration, duration_of, read_duration, write_duration}
use Rattle.times.specs.DurationAt.{Runs, span_if, span_of}
use Rattle.times.specs.declared.duration.Duration.{Duration}

-- the loop: digits from `at` to c are passed
pub record Running (e : Bool) (m : ℕ) (s : List ℕ) (at : ℕ) (any : Bool) (c : ℕ) : Type 0 where
  pub some_digit : ltb 0 (span_len is_digit (cased e (rest m s at))) ≡ (any or ltb 0 (span_len is_digit (cased e (rest m s c))))
  pub left : drop (span_len is_digit (cased e (rest m s at))) (cased e (rest m s at)) ≡ drop (span_len is_digit (cased e (rest m s c))) (cased e (rest m s c))

-- ---- digits

digit_byte : (u : ℕ) → is_digit u ≡ true → u ≡ 256 → ⊥
unfolding ◌and◌
digit_byte u h e = let z : ◌≡◌ {A = Bool} false true = ap is_digit (sym e) ∙ h in let y : ◌≡◌ {A = ℕ} 0 1 = cc in omega arith

span_digit : (u : ℕ) (r : List ℕ) → is_digit u ≡ true → span_len is_digit (spell u r) ≡ suc (span_len is_digit r)
unfolding span_len pick
span_digit u r h = rw (spell_byte u r (digit_byte u h), h)

span_other : (u : ℕ) (r : List ℕ) → is_digit u ≡ false → span_len is_digit (spell u r) ≡ 0
unfolding span_len spell pick
span_other u r h = go (eqb u 256)
  where
    go : (t : Bool) → span_len is_digit (pick t [] (u ∷ r)) ≡ 0
    go true = refl
    go false = rw h

module _ {e : Bool} {m : ℕ} {s : List ℕ} {at : ℕ} where
  pub run_start : Running e m s at false at
  unfolding ◌or◌
  run_start = record { some_digit = refl; left = refl }

  module _ {any : Bool} {c : ℕ} {a : Unit} (f : Running e m s at any c) (p : Spells e m s c a) where
    pub run_more : is_digit a.u ≡ true → Running e m s at true a.next
    unfolding ◌or◌
    run_more h =
        let k : span_len is_digit (cased e (rest m s c)) ≡ suc (span_len is_digit (cased e (rest m s a.next))) = rw p.is (span_digit a.u _ h) in
        let b : cased e (rest m s c) ≡ a.u ∷ cased e (rest m s a.next) = p.is ∙ spell_byte a.u _ (digit_byte a.u h) in record {
          some_digit = f.some_digit ∙ rw (k, lt-ltb 0 (suc (span_len is_digit (cased e (rest m s a.next)))) (omega arith)) (or_right any true refl);
          left = f.left ∙ rw (k, b);
        }

    none_left : is_digit a.u ≡ false → span_len is_digit (cased e (rest m s c)) ≡ 0
    none_left h = rw p.is (span_other a.u _ h)

    so_far : is_digit a.u ≡ false → ltb 0 (span_len is_digit (cased e (rest m s at))) ≡ any
    so_far h = f.some_digit ∙ rw (none_left h) (or-false any)

    pub run_done : is_digit a.u ≡ false → any ≡ true → Runs e m s at (Some a)
    unfolding is_read
    run_done h y = record {
      some_digit = so_far h ∙ y;
      is = λ b q. f.left ∙ rw (none_left h) (p.is ∙ ap (λ (x : Unit). spell x.u (cased e (rest m s x.next))) cc);
    }

    pub run_none : is_digit a.u ≡ false → any ≡ false → Runs e m s at None
    unfolding is_read
    run_none h y = record { some_digit = so_far h ∙ y; is = λ b q. none-some q }

-- a turn moves on
pub run_less : {e : Bool} {m : ℕ} {s : List ℕ} {c : ℕ} {a : Unit} → Spells e m s c a → is_digit a.u ≡ true → 4 * length s - a.next < 4 * length s - c
run_less {e} {m} {s} {c} {a} p h = omega (arith, leb-true a.u 57 (and_both _ _ h).1, p.moved, p.inside)

pub ruleset running = (run_start, run_more, run_done, run_none, flag_yes, flag_no, rules)

-- ---- digits and a letter, a letter, what may be missing

begins-spell : (k u : ℕ) (rule : List ℕ → Bool) (r : List ℕ) → ltb k 256 ≡ true → begins k rule (spell u r) ≡ (eqb u k and rule r)
unfolding begins spell pick ◌and◌
begins-spell k u rule r h = go (eqb u 256) refl
  where
    go : (t : Bool) → eqb u 256 ≡ t → begins k rule (pick t [] (u ∷ r)) ≡ (eqb u k and rule r)
    go true e = rw (ne_eqb u k (λ q. omega (arith, eqb-true u 256 e, ltb-true k 256 h)))
    go false e = refl

module _ (k : ℕ) (rule : List ℕ → Bool) {e : Bool} {m : ℕ} {s : List ℕ} {c : ℕ} where
  module _ {r : Option Unit} (p : Runs e m s c r) where
    found : {a : Unit} → r ≡ Some a → ltb k 256 ≡ true → counted k rule (cased e (rest m s c)) ≡ (eqb a.u k and rule (cased e (rest m s a.next)))
    unfolding counted is_read ◌and◌
    found {a} h l = rw (p.some_digit, h, p.is a h) (begins-spell k a.u rule (cased e (rest m s a.next)) l)

    pub counted_more : {a : Unit} {t : Bool} → ltb k 256 ≡ true → r ≡ Some a → a.u ≡ k → t ≡ rule (cased e (rest m s a.next)) → t ≡ counted k rule (cased e (rest m s c))
    unfolding ◌and◌
    counted_more {a} l h q g = g ∙ sym (found h l ∙ rw (eq-eqb a.u k q))

    pub counted_other : {a : Unit} → ltb k 256 ≡ true → r ≡ Some a → (a.u ≡ k → ⊥) → eqb a.u k ≡ counted k rule (cased e (rest m s c))
    unfolding ◌and◌
    counted_other {a} l h q = ne_eqb a.u k q ∙ sym (found h l ∙ rw (ne_eqb a.u k q))

    pub counted_none : r ≡ None → false ≡ counted k rule (cased e (rest m s c))
    unfolding counted is_read ◌and◌
    counted_none h = rw (p.some_digit, h)

  module _ {a : Unit} (p : Spells e m s c a) where
    pub begins_more : {t : Bool} → ltb k 256 ≡ true → a.u ≡ k → t ≡ rule (cased e (rest m s a.next)) → t ≡ begins k rule (cased e (rest m s c))
    unfolding ◌and◌
    begins_more l q g = g ∙ sym (ap (begins k rule) p.is ∙ begins-spell k a.u rule _ l ∙ rw (eq-eqb a.u k q))

    pub begins_other : ltb k 256 ≡ true → (a.u ≡ k → ⊥) → false ≡ begins k rule (cased e (rest m s c))
    unfolding ◌and◌
    begins_other l q = sym (ap (begins k rule) p.is ∙ begins-spell k a.u rule _ l ∙ rw (ne_eqb a.u k q))

module _ (rule : List ℕ → Bool) (e : Bool) (m : ℕ) (s : List ℕ) (c : ℕ) where
  pub optional_end : {t : Bool} → t ≡ is_empty (rest m s c) → t ≡ true → true ≡ optional rule (cased e (rest m s c))
  unfolding optional ◌or◌
  optional_end g h = rw (cased_empty, ← g, h)

  pub optional_more : {t u : Bool} → t ≡ is_empty (rest m s c) → t ≡ false → u ≡ rule (cased e (rest m s c)) → u ≡ optional rule (cased e (rest m s c))
  unfolding optional ◌or◌
  optional_more g h q = rw (cased_empty, ← g, h) q

pub end_cased : (e : Bool) (m : ℕ) (s : List ℕ) (c : ℕ) {t : Bool} → t ≡ is_empty (rest m s c) → t ≡ is_empty (cased e (rest m s c))
end_cased e m s c h = rw cased_empty h

pub ruleset counting = (counted_more, counted_other, counted_none, begins_more, begins_other, optional_end, optional_more, end_cased, or_take, or_skip, flag_yes, flag_no, rules)

-- ---- the sign

of_format : (x : Bool) (l : List ℕ) → read_duration (format_of x) l ≡ duration_of (cased x l)
unfolding read_duration cased
of_format true l = refl
of_format false l = refl

module _ (l : List ℕ) where
  plus_yes : unsigned_duration l ≡ true → duration_of (43 ∷ l) ≡ Some ([] ⊕ l)
  unfolding duration_of begins pick ◌and◌ ◌⊕◌
  plus_yes h = rw h

  plus_no : unsigned_duration l ≡ false → duration_of (43 ∷ l) ≡ None
  unfolding duration_of is_duration unsigned_duration keep begins pick ◌and◌ ◌or◌
  plus_no h = rw h

  minus_yes : unsigned_duration l ≡ true → duration_of (45 ∷ l) ≡ Some ((45 ∷ []) ⊕ l)
  unfolding duration_of is_duration unsigned_duration keep begins pick ◌and◌ ◌or◌ ◌⊕◌
  minus_yes h = rw h

  minus_no : unsigned_duration l ≡ false → duration_of (45 ∷ l) ≡ None
  unfolding duration_of is_duration unsigned_duration keep begins pick ◌and◌ ◌or◌
  minus_no h = rw h

  plain_yes : unsigned_duration l ≡ true → begins 43 unsigned_duration l ≡ false → duration_of l ≡ Some ([] ⊕ l)
  unfolding duration_of is_duration keep pick ◌or◌ ◌⊕◌
  plain_yes h k = rw (k, h)

  plain_no : unsigned_duration l ≡ false → begins 43 unsigned_duration l ≡ false → begins 45 unsigned_duration l ≡ false → duration_of l ≡ None
  unfolding duration_of is_duration keep pick ◌or◌
  plain_no h k g = rw (k, h, g)

module _ {x : Bool} {m : ℕ} {s : List ℕ} {c : ℕ} {a : Unit} {r : Option Duration} (p : Spells x m s c a) where
  pub duration_plus : a.u ≡ 43 → r ≡ span_if (unsigned_duration (cased x (rest m s a.next))) false a.next → read_duration (format_of x) (rest m s c) ≡ span_of x m s r
  unfolding pick
  duration_plus h k = of_format x (rest m s c) ∙ rw (k, p.is, spell_byte a.u (cased x (rest m s a.next)) (omega arith), h) (go (unsigned_duration (cased x (rest m s a.next))) refl)
    where
      go : (t : Bool) → t ≡ unsigned_duration (cased x (rest m s a.next)) → duration_of (43 ∷ cased x (rest m s a.next)) ≡ span_of x m s (span_if t false a.next)
      go true e = plus_yes _ (sym e)
      go false e = plus_no _ (sym e)

  pub duration_minus : a.u ≡ 45 → r ≡ span_if (unsigned_duration (cased x (rest m s a.next))) true a.next → read_duration (format_of x) (rest m s c) ≡ span_of x m s r
  unfolding pick
  duration_minus h k = of_format x (rest m s c) ∙ rw (k, p.is, spell_byte a.u (cased x (rest m s a.next)) (omega arith), h) (go (unsigned_duration (cased x (rest m s a.next))) refl)
    where
      go : (t : Bool) → t ≡ unsigned_duration (cased x (rest m s a.next)) → duration_of (45 ∷ cased x (rest m s a.next)) ≡ span_of x m s (span_if t true a.next)
      go true e = minus_yes _ (sym e)
      go false e = minus_no _ (sym e)

  pub duration_plain : (a.u ≡ 43 → ⊥) → (a.u ≡ 45 → ⊥) → r ≡ span_if (unsigned_duration (cased x (rest m s c))) false c → read_duration (format_of x) (rest m s c) ≡ span_of x m s r
  unfolding pick
  duration_plain h l k =
      of_format x (rest m s c) ∙ rw k (go (unsigned_duration (cased x (rest m s c))) refl
      (sym (begins_other 43 unsigned_duration p refl h)) (sym (begins_other 45 unsigned_duration p refl l)))
    where
      go : (t : Bool) → t ≡ unsigned_duration (cased x (rest m s c)) → begins 43 unsigned_duration (cased x (rest m s c)) ≡ false → begins 45 unsigned_duration (cased x (rest m s c)) ≡ false →
          duration_of (cased x (rest m s c)) ≡ span_of x m s (span_if t false c)
      go true e n o = plain_yes _ (sym e) n
      go false e n o = plain_no _ (sym e) n o

pub ruleset spanning = (duration_plus, duration_minus, duration_plain, rules)

-- ---- the writer

module _ {d₀ : List ℕ} {o : ℕ} {all d : List ℕ} {p : ℕ} {e : Bool} {m : ℕ} {s : List ℕ} {c : ℕ} {a : Unit} (t : Todo d₀ o all d p (cased e (rest m s c))) (w : Spells e m s c a) where
  pub letters_more : {d' : List ℕ} {q : ℕ} → (a.u ≡ 256 → ⊥) → Put d d' p q (a.u ∷ []) → Todo d₀ o all d' q (cased e (rest m s a.next))
  letters_more h g = todo_step t g (w.is ∙ spell_byte a.u (cased e (rest m s a.next)) h)

  pub letters_done : a.u ≡ 256 → Put d₀ d o p all
  letters_done h = todo_done t (w.is ∙ spell_end a.u (cased e (rest m s a.next)) h)

pub ruleset copying = (letters_more, letters_done, writing)

module _ {d e : List ℕ} {o q : ℕ} (to x : Bool) (m : ℕ) (s : List ℕ) {l : Option (List ℕ)} {r : Option Duration} (p : l ≡ span_of x m s r) where
  pub put_span_read : {t : Duration} → r ≡ Some t → Put d e o q (mark_bytes t.negative 45 ⊕ cased x (rest m s t.at)) → Put d e o q (or_nothing (write_duration (format_of to)) l)
  unfolding write_duration
  put_span_read h w = rw (p, h) w

  pub put_no_span : r ≡ None → Put d e o q [] → Put d e o q (or_nothing (write_duration (format_of to)) l)
  put_no_span h w = rw (p, h) w
