-- Laws of what specs/ReadInteger.antt defines.
use Rattle.std.specs.Prelude.{◌≡◌, refl, Bool, List, [], ◌∷◌, ℕ, eqb, ltb, length, Option, None, option_map}
use Rattle.std.proofs.Math.Bool.{true, false}
use Rattle.std.proofs.Common.{arith, ne_eqb, lt-ltb}
use Rattle.octets.specs.Pick.{pick, ◌and◌, ◌or◌}
use Rattle.octets.specs.Decimal.{value, is_number}
use Rattle.octets.specs.Reading.{provided}
use Rattle.source.specs.Source.{rest, spell, Reads}
use Rattle.source.specs.declared.points.Unit.{Unit}
use Rattle.numbers.specs.Sign.{has_minus, after_sign}
use Rattle.numbers.specs.Integer.{read_integer}
use Rattle.numbers.specs.Numeral.{worth_to}
use Rattle.numbers.specs.ReadInteger.{number_in, whole_is}

-- ---- digits to the end

pub number_none : (m : ℕ) {s : List ℕ} → s ≡ [] → number_in m s ≡ None
unfolding number_in pick ◌and◌
number_none m e = rw e

pub number_some : (m : ℕ) {s t : List ℕ} {b : ℕ} → s ≡ b ∷ t → number_in m s ≡ worth_to m 0 s
unfolding number_in worth_to ◌and◌
number_some m {s} {t} {b} e = rw (lt-ltb 0 (length s) (rw e (omega arith)))

-- ---- the sign

map_provided : {A B : Type 0} (f : A → B) (b : Bool) (a : A) → provided b (f a) ≡ option_map f (provided b a)
unfolding pick
map_provided f true a = refl
map_provided f false a = refl

module _ {s t : List ℕ} {n : Option ℕ} where
  pub integer_minus : s ≡ 45 ∷ t → number_in 2147483648 t ≡ n → read_integer s ≡ option_map (λ k. whole_is (ltb 0 k) k) n
  unfolding has_minus after_sign number_in pick ◌and◌ ◌or◌
  integer_minus e h = rw (e, ← h) (map_provided (λ k. whole_is (ltb 0 k) k) (is_number 2147483648 t) (value 0 t))

  pub integer_plus : s ≡ 43 ∷ t → number_in 2147483647 t ≡ n → read_integer s ≡ option_map (whole_is false) n
  unfolding has_minus after_sign number_in pick ◌and◌ ◌or◌
  integer_plus e h = rw (e, ← h) (map_provided (whole_is false) (is_number 2147483647 t) (value 0 t))

pub integer_plain : {m : ℕ} {s : List ℕ} {c : ℕ} {r : Unit} {n : Option ℕ} →
    Reads m s c r → (r.u ≡ 45 → ⊥) → (r.u ≡ 43 → ⊥) → number_in 2147483647 (rest m s c) ≡ n → read_integer (rest m s c) ≡ option_map (whole_is false) n
unfolding spell has_minus after_sign number_in pick ◌and◌ ◌or◌
integer_plain {m} {s} {c} {r} {n} p h k l = rw (← l, p.is) (go (eqb r.u 256))
  where
    go : (t : Bool) → read_integer (pick t [] (r.u ∷ rest m s r.next)) ≡ option_map (whole_is false) (number_in 2147483647 (pick t [] (r.u ∷ rest m s r.next)))
    go true = refl
    go false =
        rw (ne_eqb r.u 45 h, ne_eqb r.u 43 k)
        (map_provided (whole_is false) (is_number 2147483647 (r.u ∷ rest m s r.next)) (value 0 (r.u ∷ rest m s r.next)))
