-- What single bytes do in the check, as equations.
--     fault_not_fine                       a fault is not None
--     hexdig_value, unit_grown             the value of hexadecimal digits
--     space_step, opens_array, marks ..    between tokens
--     not_after, digit_steps ..            in numbers
--     hex_step, hex_last, unit_on ..       in strings
use Rattle.std.specs.Prelude.{◌≡◌, Bool, not, ℕ, ◌+◌, ◌-◌, ◌*◌, ◌≤◌, ◌<◌, length, Option, None, Some}
use Rattle.std.proofs.Math.Path.{refl}
use Rattle.std.proofs.Common.{sym, ap, ◌∙◌, arith}
use Rattle.std.proofs.Math.Bool.{true, false}
use Rattle.std.proofs.lemmas.Bool.{false≢true}
use mathlib.Core.List.{List, [], ◌∷◌}
use Rattle.std.proofs.Math.Dec.{eqb}
use borrow.Author.Tests.{ne_eqb, lt-ltb, le-ltb, leb-true, eqb-true}
use Rattle.octets.specs.Pick.{pick, within, ◌or◌, ◌and◌}
use Rattle.octets.specs.laws.Pick.{or_cases, within_range, within_wider, eqb_apart, eqb_passes}
use Rattle.octets.specs.Class.{is_space, is_digit}
use Rattle.json_text.specs.Bytes.{is_e, is_sign, names_good, names_bad, hex_value, grown}
use Rattle.json_text.specs.Check as check
use Rattle.json_text.specs.Check.{Container, check, followed, named, low_pair}
use Rattle.json_text.specs.declared.Expect.{Expect}
use Rattle.json_text.specs.declared.Expect.TheVariants.{Value, ValueOrEnd, Name, NameOrEnd, Colon, After}
use Rattle.json_text.specs.declared.Number.TheVariants.{Minus, Zero, Int, Point, Frac, E, Sign, Exp}
use Rattle.json_text.specs.declared.Inside.TheVariants.{Chars, Hex, High, Low}
use Rattle.json_text.specs.declared.State.TheVariants.{Expects, InNumber, InString}
use Rattle.json_grammar.specs.Grammar.{Byte, is_digit1_9, is_unescaped, is_escaped, is_hexdig, object, array, code_unit}

abbrev is_fine : Option ℕ → Bool
is_fine None = true
is_fine (Some k) = false

pub fault_not_fine : (k : ℕ) → Some k ≡ None → ⊥
fault_not_fine k h = false≢true (ap is_fine h)

-- ---- bytes

pub hexdig_value : (b : ℕ) → is_hexdig b ≡ true → hex_value b < 16
unfolding pick ◌or◌
hexdig_value b h = go (is_digit b) refl (within 0x41 0x46 b) refl (within 0x61 0x66 b) refl h
  where
    go : (t : Bool) → is_digit b ≡ t → (u : Bool) → within 0x41 0x46 b ≡ u → (v : Bool) → within 0x61 0x66 b ≡ v → (t or u or v) ≡ true → pick t (b - 0x30) (pick u (b - 0x37) (pick v (b - 0x57) 16)) < 16
    go true e u f v g h = let r = within_range 48 57 b e in omega arith
    go false e true f v g h = let r = within_range 0x41 0x46 b f in omega arith
    go false e false f true g h = let r = within_range 0x61 0x66 b g in omega arith
    go false e false f false g h = absurd (false≢true h)

-- the code unit of four digits
pub unit_grown : (a b c d : ℕ) → a < 16 → b < 16 → c < 16 → grown (grown (grown (grown 0 a) b) c) d ≡ 0x1000 * a + 0x100 * b + 0x10 * c + d
unit_grown a b c d h k l = omega arith

pub good_named : (b : ℕ) → is_escaped b ≡ true → names_bad b ≡ false → names_good b ≡ true
unfolding ◌or◌
good_named b h n =
    or_cases (eqb b 0x22) _ h (eqb_passes names_good 0x22 b refl)
    (λ h. or_cases (eqb b 0x5C) _ h (eqb_passes names_good 0x5C b refl)
    (λ h. or_cases (eqb b 0x2F) _ h (eqb_passes names_good 0x2F b refl)
    (λ h. or_cases (eqb b 0x62) _ h (λ e. absurd (false≢true (sym n ∙ eqb_passes names_bad 0x62 b refl e)))
    (λ h. or_cases (eqb b 0x66) _ h (λ e. absurd (false≢true (sym n ∙ eqb_passes names_bad 0x66 b refl e)))
    (λ h. or_cases (eqb b 0x6E) _ h (eqb_passes names_good 0x6E b refl)
    (λ h. or_cases (eqb b 0x72) _ h (λ e. absurd (false≢true (sym n ∙ eqb_passes names_bad 0x72 b refl e)))
    (λ e. eqb_passes names_good 0x74 b refl e)))))))

pub unescaped_least : (b : ℕ) → is_unescaped b ≡ true → 32 ≤ b
unescaped_least b h =
    or_cases (within 0x20 0x21 b) _ h (λ e. let r = within_range 0x20 0x21 b e in omega arith)
    (λ h. or_cases (within 0x23 0x5B b) _ h (λ e. let r = within_range 0x23 0x5B b e in omega arith) (λ e. let r = leb-true 0x5D b e in omega arith))

pub not-false : (b : Bool) → not b ≡ true → b ≡ false
not-false true h = absurd (false≢true h)
not-false false h = refl

module _ (limit : ℕ) where
  -- a string, and the quotation mark behind it
  pub quote_steps : (cs : List Container) (i : ℕ) (s : List ℕ) →
      (check (34 ∷ s) limit i (Expects Value) cs ≡ check s limit (i + 1) (InString false Chars) cs)
      × (check (34 ∷ s) limit i (Expects Name) cs ≡ check s limit (i + 1) (InString true Chars) cs)
      × (check (34 ∷ s) limit i (InString false Chars) cs ≡ check s limit (i + 1) (Expects After) cs)
      × (check (34 ∷ s) limit i (InString true Chars) cs ≡ check s limit (i + 1) (Expects Colon) cs)
  unfolding check followed pick ◌and◌ ◌or◌
  quote_steps cs i s = (refl, refl, refl, refl)

  module _ (cs : List Container) where
    pub space_step : (e : Expect) (b : ℕ) → is_space b ≡ true → (i : ℕ) (s : List ℕ) → check (b ∷ s) limit i (Expects e) cs ≡ check s limit (i + 1) (Expects e) cs
    unfolding check followed pick
    space_step e b h i s = rw h

    pub opens_array : length cs < limit → (i : ℕ) (s : List ℕ) → check (91 ∷ s) limit i (Expects Value) cs ≡ check s limit (i + 1) (Expects ValueOrEnd) (check.array ∷ cs)
    unfolding check followed pick ◌and◌ ◌or◌
    opens_array h i s = rw (lt-ltb (length cs) limit h)

    pub opens_object : length cs < limit → (i : ℕ) (s : List ℕ) → check (123 ∷ s) limit i (Expects Value) cs ≡ check s limit (i + 1) (Expects NameOrEnd) (check.object ∷ cs)
    unfolding check followed pick ◌and◌ ◌or◌
    opens_object h i s = rw (lt-ltb (length cs) limit h)

    pub marks : (i : ℕ) (s : List ℕ) →
        (check (44 ∷ s) limit i (Expects After) (check.array ∷ cs) ≡ check s limit (i + 1) (Expects Value) (check.array ∷ cs))
        × (check (93 ∷ s) limit i (Expects After) (check.array ∷ cs) ≡ check s limit (i + 1) (Expects After) cs)
        × (check (93 ∷ s) limit i (Expects ValueOrEnd) (check.array ∷ cs) ≡ check s limit (i + 1) (Expects After) cs)
        × (check (44 ∷ s) limit i (Expects After) (check.object ∷ cs) ≡ check s limit (i + 1) (Expects Name) (check.object ∷ cs))
        × (check (125 ∷ s) limit i (Expects After) (check.object ∷ cs) ≡ check s limit (i + 1) (Expects After) cs)
        × (check (125 ∷ s) limit i (Expects NameOrEnd) (check.object ∷ cs) ≡ check s limit (i + 1) (Expects After) cs)
        × (check (58 ∷ s) limit i (Expects Colon) cs ≡ check s limit (i + 1) (Expects Value) cs)
    unfolding check followed pick ◌and◌ ◌or◌
    marks i s = (refl, refl, refl, refl, refl, refl, refl)

    -- ---- numbers

    -- a byte of a number is not one that may follow a value
    pub not_after : (p : ℕ → Bool) → (p 32 ≡ false) × (p 9 ≡ false) × (p 13 ≡ false) × (p 10 ≡ false) × (p 44 ≡ false) × (p 93 ≡ false) × (p 125 ≡ false) →
        (b : ℕ) (s : List ℕ) (i : ℕ) → check (b ∷ s) limit i (Expects After) cs ≡ None → p b ≡ false
    unfolding check followed pick ◌or◌
    not_after p (q₁, q₂, q₃, q₄, q₅, q₆, q₇) b s i h = go (p b) refl
      where
        fault : p b ≡ true → (ds : List Container) → check (b ∷ s) limit i (Expects After) ds ≡ Some i
        fault e [] = rw (eqb_apart p b 32 e q₁, eqb_apart p b 9 e q₂, eqb_apart p b 13 e q₃, eqb_apart p b 10 e q₄)
        fault e (check.array ∷ ds) = rw (eqb_apart p b 32 e q₁, eqb_apart p b 9 e q₂, eqb_apart p b 13 e q₃, eqb_apart p b 10 e q₄, eqb_apart p b 44 e q₅, eqb_apart p b 93 e q₆)
        fault e (check.object ∷ ds) = rw (eqb_apart p b 32 e q₁, eqb_apart p b 9 e q₂, eqb_apart p b 13 e q₃, eqb_apart p b 10 e q₄, eqb_apart p b 44 e q₅, eqb_apart p b 125 e q₇)

        go : (t : Bool) → p b ≡ t → p b ≡ false
        go true e = absurd (fault_not_fine i (sym (fault e cs) ∙ h))
        go false e = e

    -- digits go on
    pub digit_steps : (b : ℕ) → is_digit b ≡ true → (i : ℕ) (s : List ℕ) →
        (check (b ∷ s) limit i (InNumber Int) cs ≡ check s limit (i + 1) (InNumber Int) cs)
        × (check (b ∷ s) limit i (InNumber Point) cs ≡ check s limit (i + 1) (InNumber Frac) cs)
        × (check (b ∷ s) limit i (InNumber Frac) cs ≡ check s limit (i + 1) (InNumber Frac) cs)
        × (check (b ∷ s) limit i (InNumber E) cs ≡ check s limit (i + 1) (InNumber Exp) cs)
        × (check (b ∷ s) limit i (InNumber Sign) cs ≡ check s limit (i + 1) (InNumber Exp) cs)
        × (check (b ∷ s) limit i (InNumber Exp) cs ≡ check s limit (i + 1) (InNumber Exp) cs)
    unfolding check followed pick ◌and◌ ◌or◌
    digit_steps b h i s = (rw h, rw h, rw h, rw (eqb_apart is_digit b 45 h refl, eqb_apart is_digit b 43 h refl, h), rw h, rw h)

    -- e, of an exponent; a decimal point
    pub e_steps : (b : ℕ) → is_e b ≡ true → (i : ℕ) (s : List ℕ) →
        (check (b ∷ s) limit i (InNumber Zero) cs ≡ check s limit (i + 1) (InNumber E) cs)
        × (check (b ∷ s) limit i (InNumber Int) cs ≡ check s limit (i + 1) (InNumber E) cs)
        × (check (b ∷ s) limit i (InNumber Frac) cs ≡ check s limit (i + 1) (InNumber E) cs)
    unfolding check followed pick ◌and◌ ◌or◌
    e_steps b h i s = or_cases (eqb b 0x65) _ h (λ e. rw (eqb-true b 0x65 e) (refl, refl, refl)) (λ e. rw (eqb-true b 0x45 e) (refl, refl, refl))

    pub point_steps : (i : ℕ) (s : List ℕ) →
        (check (46 ∷ s) limit i (InNumber Zero) cs ≡ check s limit (i + 1) (InNumber Point) cs)
        × (check (46 ∷ s) limit i (InNumber Int) cs ≡ check s limit (i + 1) (InNumber Point) cs)
    unfolding check followed pick ◌and◌ ◌or◌
    point_steps i s = (refl, refl)

    pub sign_step : (b : ℕ) → is_sign b ≡ true → (i : ℕ) (s : List ℕ) → check (b ∷ s) limit i (InNumber E) cs ≡ check s limit (i + 1) (InNumber Sign) cs
    unfolding check followed pick
    sign_step b h i s = rw h

    -- the first byte of int
    pub zero_steps : (i : ℕ) (s : List ℕ) →
        (check (48 ∷ s) limit i (Expects Value) cs ≡ check s limit (i + 1) (InNumber Zero) cs)
        × (check (48 ∷ s) limit i (InNumber Minus) cs ≡ check s limit (i + 1) (InNumber Zero) cs)
        × (check (45 ∷ s) limit i (Expects Value) cs ≡ check s limit (i + 1) (InNumber Minus) cs)
    unfolding check followed pick ◌and◌ ◌or◌
    zero_steps i s = (refl, refl, refl)

    pub digit1_9_steps : (b : ℕ) → is_digit1_9 b ≡ true → (i : ℕ) (s : List ℕ) →
        (check (b ∷ s) limit i (Expects Value) cs ≡ check s limit (i + 1) (InNumber Int) cs)
        × (check (b ∷ s) limit i (InNumber Minus) cs ≡ check s limit (i + 1) (InNumber Int) cs)
    unfolding check followed pick ◌and◌ ◌or◌
    digit1_9_steps b h i s = (
      rw (
        eqb_apart is_digit1_9 b 32 h refl,
        eqb_apart is_digit1_9 b 9 h refl,
        eqb_apart is_digit1_9 b 13 h refl,
        eqb_apart is_digit1_9 b 10 h refl,
        eqb_apart is_digit1_9 b 34 h refl,
        eqb_apart is_digit1_9 b 91 h refl,
        eqb_apart is_digit1_9 b 123 h refl,
        eqb_apart is_digit1_9 b 45 h refl,
        eqb_apart is_digit1_9 b 48 h refl,
        within_wider 49 57 48 57 b (omega arith) (omega arith) h,
      ),
      rw (eqb_apart is_digit1_9 b 48 h refl, within_wider 49 57 48 57 b (omega arith) (omega arith) h),
    )

    -- ---- strings

    module _ (n : Bool) where
      pub hex_step : (from k v b : ℕ) → 0 < k → is_hexdig b ≡ true → (i : ℕ) (s : List ℕ) →
          (check (b ∷ s) limit i (InString n (Hex from k v)) cs ≡ check s limit (i + 1) (InString n (Hex from (k - 1) (grown v (hex_value b)))) cs)
          × (check (b ∷ s) limit i (InString n (Low from k v)) cs ≡ check s limit (i + 1) (InString n (Low from (k - 1) (grown v (hex_value b)))) cs)
      unfolding check followed pick
      hex_step from k v b z h i s =
          let l = hexdig_value b h in
          let d : eqb (hex_value b) 16 ≡ false = ne_eqb (hex_value b) 16 (λ e. omega arith) in
          let m : eqb k 0 ≡ false = ne_eqb k 0 (λ e. omega arith) in
          (rw (d, m), rw (d, m))

      pub hex_last : (from v b : ℕ) → is_hexdig b ≡ true → (i : ℕ) (s : List ℕ) →
          (check (b ∷ s) limit i (InString n (Hex from 0 v)) cs ≡ followed (named n from (grown v (hex_value b))) limit i cs (check s limit (i + 1)))
          × (check (b ∷ s) limit i (InString n (Low from 0 v)) cs ≡ followed (low_pair n from (grown v (hex_value b))) limit i cs (check s limit (i + 1)))
      unfolding check followed pick
      hex_last from v b h i s =
          let l = hexdig_value b h in
          let d : eqb (hex_value b) 16 ≡ false = ne_eqb (hex_value b) 16 (λ e. omega arith) in
          (rw d, rw d)

      module _ (a b c d : Byte is_hexdig) where
        abbrev pub unit_of : ℕ
        unit_of = code_unit a.byte b.byte c.byte d.byte

        pub unit_is : grown (grown (grown (grown 0 (hex_value a.byte)) (hex_value b.byte)) (hex_value c.byte)) (hex_value d.byte) ≡ unit_of
        unit_is = unit_grown (hex_value a.byte) (hex_value b.byte) (hex_value c.byte) (hex_value d.byte) (hexdig_value a.byte a.passes) (hexdig_value b.byte b.passes) (hexdig_value c.byte c.passes)

        -- the four digits of an escape
        pub unit_on : (from i : ℕ) (s : List ℕ) →
            (check (a.byte ∷ b.byte ∷ c.byte ∷ d.byte ∷ s) limit i (InString n (Hex from 3 0)) cs ≡ followed (named n from unit_of) limit (i + 1 + 1 + 1) cs (check s limit (i + 1 + 1 + 1 + 1)))
            × (check (a.byte ∷ b.byte ∷ c.byte ∷ d.byte ∷ s) limit i (InString n (Low from 3 0)) cs ≡ followed (low_pair n from unit_of) limit (i + 1 + 1 + 1) cs (check s limit (i + 1 + 1 + 1 + 1)))
        unit_on from i s = (
          (hex_step from 3 _ a.byte (omega arith) a.passes i _).0
              ∙ (hex_step from 2 _ b.byte (omega arith) b.passes (i + 1) _).0
              ∙ (hex_step from 1 _ c.byte (omega arith) c.passes (i + 1 + 1) _).0
              ∙ (hex_last from _ d.byte d.passes (i + 1 + 1 + 1) s).0
              ∙ ap (λ (v : ℕ). followed (named n from v) limit (i + 1 + 1 + 1) cs (check s limit (i + 1 + 1 + 1 + 1))) unit_is,
          (hex_step from 3 _ a.byte (omega arith) a.passes i _).1
              ∙ (hex_step from 2 _ b.byte (omega arith) b.passes (i + 1) _).1
              ∙ (hex_step from 1 _ c.byte (omega arith) c.passes (i + 1 + 1) _).1
              ∙ (hex_last from _ d.byte d.passes (i + 1 + 1 + 1) s).1
              ∙ ap (λ (v : ℕ). followed (low_pair n from v) limit (i + 1 + 1 + 1) cs (check s limit (i + 1 + 1 + 1 + 1))) unit_is,
        )

      pub escape_steps : (from i : ℕ) (s : List ℕ) →
          (check (92 ∷ 117 ∷ s) limit i (InString n Chars) cs ≡ check s limit (i + 1 + 1) (InString n (Hex i 3 0)) cs)
          × (check (92 ∷ 117 ∷ s) limit i (InString n (High from)) cs ≡ check s limit (i + 1 + 1) (InString n (Low from 3 0)) cs)
      unfolding check followed pick ◌and◌ ◌or◌
      escape_steps from i s = (refl, refl)

      pub plain_step : (b : Byte is_unescaped) (i : ℕ) (s : List ℕ) → check (b.byte ∷ s) limit i (InString n Chars) cs ≡ check s limit (i + 1) (InString n Chars) cs
      unfolding check followed pick ◌and◌ ◌or◌
      plain_step b i s = rw (eqb_apart is_unescaped b.byte 34 b.passes refl, eqb_apart is_unescaped b.byte 92 b.passes refl, le-ltb b.byte 32 (unescaped_least b.byte b.passes))

      pub two_step : (b : Byte is_escaped) → names_bad b.byte ≡ false → (i : ℕ) (s : List ℕ) → check (92 ∷ b.byte ∷ s) limit i (InString n Chars) cs ≡ check s limit (i + 1 + 1) (InString n Chars) cs
      unfolding check followed pick
      two_step b h i s = rw (apart, good_named b.byte b.passes h)
        where
          apart : eqb b.byte 117 ≡ false
          apart = eqb_apart is_escaped b.byte 117 b.passes (unfold ◌or◌ in refl)
