-- The numbers and literals of a JSON text that passes the check, by their bytes (RFC 8259, sections 3 and 6).
--     apart, no_scalar, scalar_no_space    a byte of a number or a literal is no other
--     number_run, literal_run    the check goes on behind its bytes
--     scalar_by    what a byte that begins one leads to;   opened: a level that is not too deep
use Rattle.std.specs.Prelude.{◌≡◌, Bool, eqb, drop, Option, None, Some}
use Rattle.std.proofs.Math.Path.{refl}
use Rattle.std.proofs.Common.{sym, ◌∙◌}
use Rattle.std.proofs.Math.Bool.{true, false}
use Rattle.std.proofs.lemmas.Bool.{false≢true}
use mathlib.Core.List.{List, [], ◌∷◌}
use Prim.Native.Nat.{ℕ, zero, suc, ◌+◌, ◌/◌, ◌%◌}
use Rattle.octets.specs.Pick.{pick, ◌and◌, ◌or◌}
use Rattle.octets.specs.laws.Pick.{pick_case, and_both, or_left, or_no, or_neither, eqb_apart, eqb_passes}
use Rattle.octets.specs.Scan.{span_len}
use Rattle.octets.specs.Class.{is_space, is_digit, is_small}
use Rattle.json_text.specs.Bytes.{after_t, after_f, after_n, minus, is_sign, digit_zero, decimal_point, is_e}
use Rattle.json_text.specs.Check.{number, after, after_by, scalar, Container, around, check}
use Rattle.json_text.specs.Tree.{is_scalar}
use Rattle.json_text.specs.declared.Around.{Around}
use Rattle.json_text.specs.declared.Around.TheVariants.{Nothing, Array, Object}
use Rattle.json_text.specs.declared.Expect.TheVariants.{After}
use Rattle.json_text.specs.declared.Number.{Number}
use Rattle.json_text.specs.declared.Number.TheVariants.{Minus, Zero, Int, Point, Frac, E, Sign, Exp}
use Rattle.json_text.specs.declared.State.{State}
use Rattle.json_text.specs.declared.State.TheVariants.{Expects, InLiteral, InNumber}
use Rattle.json_text.specs.declared.Move.TheVariants.{To, Bad}
use Rattle.jcal.proofs.laws.CheckedStrings.{not_fine, Goes, goes, choose, bad_not, to_state}

-- ---- bytes

-- a byte of a number or a literal is no other
pub apart : (b k : ℕ) → is_scalar b ≡ true → is_scalar k ≡ false → eqb b k ≡ false
apart b k h e = eqb_apart is_scalar b k h e

pub no_scalar : (is_scalar 32 ≡ false) × (is_scalar 9 ≡ false) × (is_scalar 13 ≡ false) × (is_scalar 10 ≡ false) × (is_scalar 44 ≡ false) × (is_scalar 58 ≡ false) × (is_scalar 91 ≡ false) × (is_scalar 93 ≡ false) × (is_scalar 123 ≡ false) × (is_scalar 125 ≡ false) × (is_scalar 34 ≡ false)
unfolding ◌and◌ ◌or◌
no_scalar = (refl, refl, refl, refl, refl, refl, refl, refl, refl, refl, refl)

pub scalar_no_space : (b : ℕ) → is_scalar b ≡ true → is_space b ≡ false
scalar_no_space b h = or_no _ _ (apart b 32 h no_scalar.0) (or_no _ _ (apart b 9 h no_scalar.1) (or_no _ _ (apart b 13 h no_scalar.2) (apart b 10 h no_scalar.3)))

digit_scalar : (b : ℕ) → is_digit b ≡ true → is_scalar b ≡ true
digit_scalar b h = or_left _ _ h

-- the letters of a literal that are still to come, at most n of them
unfoldable pub letters : ℕ → ℕ → Bool
letters zero w = false
letters (suc n) w = is_scalar (w % 256) and pick (eqb (w / 256) 0) true (letters n (w / 256))

words_letters : (letters 4 after_t ≡ true) × (letters 4 after_f ≡ true) × (letters 4 after_n ≡ true)
unfolding letters pick ◌and◌ ◌or◌
words_letters = (refl, refl, refl)

-- ---- behind a number or a literal

-- the check goes on behind its bytes
abbrev pub Behind : ℕ → List ℕ → List Container → Type 0
Behind limit s cs = (at : ℕ) × (check (drop (span_len is_scalar s) s) limit at (Expects After) cs ≡ None)

module _ (limit : ℕ) where
  after_scalar : {X : Type 0} {i : ℕ} {cs : List Container} {rest : State → List Container → Option ℕ} (a : Around) (b : ℕ) → is_scalar b ≡ true → Goes (after a i b) limit i cs rest → X
  after_scalar {X} {i} a b h g = choose (is_space b) _ _ g (λ e k. absurd (false≢true (sym (scalar_no_space b h) ∙ e))) (λ e k. by a k)
    where
      by : {i : ℕ} {cs : List Container} {rest : State → List Container → Option ℕ} (a : Around) → Goes (after_by a i b) limit i cs rest → X
      by {i} Nothing k = bad_not i k
      by {i} Array k = choose (eqb b 44) _ _ k (λ e k. absurd (false≢true (sym (apart b 44 h no_scalar.4) ∙ e))) (λ e k. choose (eqb b 93) _ _ k (λ e k. absurd (false≢true (sym (apart b 93 h no_scalar.7) ∙ e))) (λ e k. bad_not i k))
      by {i} Object k = choose (eqb b 44) _ _ k (λ e k. absurd (false≢true (sym (apart b 44 h no_scalar.4) ∙ e))) (λ e k. choose (eqb b 125) _ _ k (λ e k. absurd (false≢true (sym (apart b 125 h no_scalar.9) ∙ e))) (λ e k. bad_not i k))

  -- a byte of it leads on in it
  number_stays : {X : Type 0} {i : ℕ} {cs : List Container} {rest : State → List Container → Option ℕ} (n : Number) (a : Around) (b : ℕ) → is_scalar b ≡ true → Goes (number n a i b) limit i cs rest →
      ((m : Number) → rest (InNumber m) cs ≡ None → X) → X
  number_stays {X} {i} {cs} {rest} n a b h g f = by n g
    where
      digit : (m : Number) → Goes (pick (is_digit b) (To (InNumber m)) (Bad i)) limit i cs rest → X
      digit m k = choose (is_digit b) _ _ k (λ e k. f m (to_state _ k)) (λ e k. bad_not i k)

      exponent : Goes (pick (is_e b) (To (InNumber E)) (after a i b)) limit i cs rest → X
      exponent k = choose (is_e b) _ _ k (λ e k. f E (to_state _ k)) (λ e k. after_scalar a b h k)

      fraction : Goes (pick (eqb b decimal_point) (To (InNumber Point)) (pick (is_e b) (To (InNumber E)) (after a i b))) limit i cs rest → X
      fraction k = choose (eqb b decimal_point) _ _ k (λ e k. f Point (to_state _ k)) (λ e k. exponent k)

      by : (n : Number) → Goes (number n a i b) limit i cs rest → X
      by Minus k = choose (eqb b digit_zero) _ _ k (λ e k. f Zero (to_state _ k)) (λ e k. digit Int k)
      by Zero k = fraction k
      by Int k = choose (is_digit b) _ _ k (λ e k. f Int (to_state _ k)) (λ e k. fraction k)
      by Point k = digit Frac k
      by Frac k = choose (is_digit b) _ _ k (λ e k. f Frac (to_state _ k)) (λ e k. exponent k)
      by E k = choose (is_sign b) _ _ k (λ e k. f Sign (to_state _ k)) (λ e k. digit Exp k)
      by Sign k = digit Exp k
      by Exp k = choose (is_digit b) _ _ k (λ e k. f Exp (to_state _ k)) (λ e k. after_scalar a b h k)

  -- another byte leads on where one behind a value does
  number_ends : {i : ℕ} {cs : List Container} {rest : State → List Container → Option ℕ} (n : Number) (a : Around) (b : ℕ) → is_scalar b ≡ false → Goes (number n a i b) limit i cs rest → Goes (after a i b) limit i cs rest
  unfolding ◌and◌
  number_ends {i} {cs} {rest} n a b h g = by n g
    where
      no_digit : is_digit b ≡ false
      no_digit = (or_neither (is_digit b) _ h).0

      others : (is_e b ≡ false) × (is_sign b ≡ false) × (eqb b decimal_point ≡ false)
      others =
          let x = or_neither (is_digit b) _ h in
          let y = or_neither (is_small b) _ x.1 in
          let z = or_neither (is_e b) _ y.1 in
          let w = or_neither (is_sign b) _ z.1 in
          (z.0, w.0, w.1)

      digit : {Y : Type 0} (m : Number) → Goes (pick (is_digit b) (To (InNumber m)) (Bad i)) limit i cs rest → Y
      digit m k = choose (is_digit b) _ _ k (λ e k. absurd (false≢true (sym no_digit ∙ e))) (λ e k. bad_not i k)

      exponent : Goes (pick (is_e b) (To (InNumber E)) (after a i b)) limit i cs rest → Goes (after a i b) limit i cs rest
      exponent k = choose (is_e b) _ _ k (λ e k. absurd (false≢true (sym others.0 ∙ e))) (λ e k. k)

      fraction : Goes (pick (eqb b decimal_point) (To (InNumber Point)) (pick (is_e b) (To (InNumber E)) (after a i b))) limit i cs rest → Goes (after a i b) limit i cs rest
      fraction k = choose (eqb b decimal_point) _ _ k (λ e k. absurd (false≢true (sym others.2 ∙ e))) (λ e k. exponent k)

      by : (n : Number) → Goes (number n a i b) limit i cs rest → Goes (after a i b) limit i cs rest
      by Minus k = choose (eqb b digit_zero) _ _ k (λ e k. absurd (false≢true (sym no_digit ∙ eqb_passes is_digit digit_zero b refl e))) (λ e k. digit Int k)
      by Zero k = fraction k
      by Int k = choose (is_digit b) _ _ k (λ e k. absurd (false≢true (sym no_digit ∙ e))) (λ e k. fraction k)
      by Point k = digit Frac k
      by Frac k = choose (is_digit b) _ _ k (λ e k. absurd (false≢true (sym no_digit ∙ e))) (λ e k. exponent k)
      by E k = choose (is_sign b) _ _ k (λ e k. absurd (false≢true (sym others.1 ∙ e))) (λ e k. digit Exp k)
      by Sign k = digit Exp k
      by Exp k = choose (is_digit b) _ _ k (λ e k. absurd (false≢true (sym no_digit ∙ e))) (λ e k. k)

  number_over : (n : Number) (cs : List Container) (i : ℕ) → check [] limit i (InNumber n) cs ≡ None → check [] limit i (Expects After) cs ≡ None
  unfolding check
  number_over Minus cs i h = not_fine i h
  number_over Zero cs i h = h
  number_over Int cs i h = h
  number_over Point cs i h = not_fine i h
  number_over Frac cs i h = h
  number_over E cs i h = not_fine i h
  number_over Sign cs i h = not_fine i h
  number_over Exp cs i h = h

  pub number_run : (s : List ℕ) (n : Number) (i : ℕ) (cs : List Container) → check s limit i (InNumber n) cs ≡ None → Behind limit s cs
  unfolding check span_len pick
  number_run [] n i cs h = (i, number_over n cs i h)
  number_run (b ∷ s) n i cs h = go (is_scalar b) refl (λ m k. number_run s m (i + 1) cs k)
    where
      go : (t : Bool) → is_scalar b ≡ t → ((m : Number) → check s limit (i + 1) (InNumber m) cs ≡ None → Behind limit s cs) → (at : ℕ) × (check (drop (pick t (suc (span_len is_scalar s)) 0) (b ∷ s)) limit at (Expects After) cs ≡ None)
      go true e ih = number_stays n (around cs) b e (goes b s limit i (InNumber n) cs h) ih
      go false e ih = (i, (number_ends n (around cs) b e (goes b s limit i (InNumber n) cs h)).fine)

  -- behind a value no such byte stands
  after_stops : (s : List ℕ) (i : ℕ) (cs : List Container) → check s limit i (Expects After) cs ≡ None → span_len is_scalar s ≡ 0
  unfolding span_len
  after_stops [] i cs h = refl
  after_stops (b ∷ s) i cs h = pick_case (λ (n : ℕ). n ≡ 0) (is_scalar b) _ _ (λ e. after_scalar (around cs) b e (goes b s limit i (Expects After) cs h)) (λ e. refl)

  pub literal_run : (n w : ℕ) → letters n w ≡ true → (s : List ℕ) (i : ℕ) (cs : List Container) → check s limit i (InLiteral w) cs ≡ None → Behind limit s cs
  unfolding check letters span_len pick
  literal_run zero w l s i cs h = absurd (false≢true l)
  literal_run (suc n) w l [] i cs h = not_fine i h
  literal_run (suc n) w l (b ∷ s) i cs h =
      let a = and_both (is_scalar (w % 256)) _ l in
      choose (eqb b (w % 256)) _ _ (goes b s limit i (InLiteral w) cs h)
      (λ e k.
      let z : is_scalar b ≡ true = eqb_passes is_scalar (w % 256) b a.0 e in
      rw z
      (choose (eqb (w / 256) 0) _ _ k (λ q k. let c = to_state _ k in rw (after_stops s (i + 1) cs c) (i + 1, c))
      (λ q k. literal_run n (w / 256) (rw q at a.1) s (i + 1) cs (to_state _ k))))
      (λ e k. bad_not i k)

  -- ---- where one begins

  pub scalar_by : {X : Type 0} (i b : ℕ) {cs : List Container} {rest : State → List Container → Option ℕ} → (is_scalar b ≡ true → (m : Number) → rest (InNumber m) cs ≡ None → X) →
      (is_scalar b ≡ true → (w : ℕ) → letters 4 w ≡ true → rest (InLiteral w) cs ≡ None → X) → Goes (scalar i b) limit i cs rest → X
  unfolding ◌and◌ ◌or◌
  scalar_by i b f g k =
      choose (eqb b minus) _ _ k (λ e k. f (eqb_passes is_scalar minus b refl e) Minus (to_state _ k)) (λ e k.
      choose (eqb b digit_zero) _ _ k (λ e k. f (eqb_passes is_scalar digit_zero b refl e) Zero (to_state _ k)) (λ e k.
      choose (is_digit b) _ _ k (λ e k. f (digit_scalar b e) Int (to_state _ k)) (λ e k.
      choose (eqb b 0x74) _ _ k (λ e k. g (eqb_passes is_scalar 0x74 b refl e) after_t words_letters.0 (to_state _ k)) (λ e k.
      choose (eqb b 0x66) _ _ k (λ e k. g (eqb_passes is_scalar 0x66 b refl e) after_f words_letters.1 (to_state _ k)) (λ e k.
      choose (eqb b 0x6E) _ _ k (λ e k. g (eqb_passes is_scalar 0x6E b refl e) after_n words_letters.2 (to_state _ k)) (λ e k.
      bad_not i k))))))

-- ---- a level that is not too deep

pub opened : (t : Bool) (v : Option ℕ) (i : ℕ) → pick t v (Some i) ≡ None → v ≡ None
unfolding pick
opened true v i h = h
opened false v i h = not_fine i h
