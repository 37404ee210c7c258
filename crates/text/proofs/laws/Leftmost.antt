-- The fault that a line's parameters are refused for is the leftmost.
--     faults_from   of each parameter, whether it is faulty
--     leftmost     the parameter that `first_faulty` names is faulty, and none before it is
use Rattle.std.specs.Prelude.{◌≡◌, Bool, not, get_or, take, Some}
use Rattle.std.proofs.Math.Path.{refl}
use Rattle.std.proofs.Math.Bool.{true, false}
use mathlib.Core.List.{List, [], ◌∷◌}
use Prim.Native.Nat.{ℕ, suc, ◌+◌}
use Rattle.std.proofs.Common.{arith}
use Rattle.std.proofs.Math.ListN.{length}
use Rattle.octets.specs.Pick.{pick, ◌and◌}
use Rattle.octets.specs.Class.{upper}
use Rattle.octets.specs.Lists.{every}
use Rattle.octets.specs.laws.Reading.{none-some}
use Rattle.read_text_line.specs.ContentLine.{RawParameter}
use Rattle.text.specs.Faults.{is_faulty, first_faulty}

-- behind parameters of the names `before`
unfoldable pub faults_from : (RawParameter → Bool) → List (List ℕ) → List RawParameter → List Bool
faults_from fit before [] = []
faults_from fit before (r ∷ rs) = is_faulty fit before r ∷ faults_from fit (upper r.name ∷ before) rs

pub record Leftmost (faults : List Bool) (i : ℕ) : Type 0 where
  pub faulty : get_or faults i false ≡ true
  pub sound : every not (take i faults) ≡ true

module _ (fit : RawParameter → Bool) where
  found : (before : List (List ℕ)) (rs : List RawParameter) (i : ℕ) → first_faulty fit before rs ≡ Some i → (k : ℕ) × ((i ≡ k + length before) × Leftmost (faults_from fit before rs) k)
  unfolding first_faulty faults_from pick every ◌and◌
  found before [] i h = none-some h
  found before (r ∷ rs) i h = go (is_faulty fit before r) refl h (found (upper r.name ∷ before) rs i)
    where
      go : (b : Bool) → is_faulty fit before r ≡ b → pick b (Some (length before)) (first_faulty fit (upper r.name ∷ before) rs) ≡ Some i →
          (first_faulty fit (upper r.name ∷ before) rs ≡ Some i → (k : ℕ) × ((i ≡ k + suc (length before)) × Leftmost (faults_from fit (upper r.name ∷ before) rs) k)) →
          (k : ℕ) × ((i ≡ k + length before) × Leftmost (is_faulty fit before r ∷ faults_from fit (upper r.name ∷ before) rs) k)
      go true e h ih = let z : length before ≡ i = cc in (0, (omega (arith, z), record { faulty = e; sound = refl }))
      go false e h ih = let m = ih h in (suc m.0, (omega (arith, m.1.0), record { faulty = m.1.1.faulty; sound = rw e m.1.1.sound }))

  pub leftmost : (rs : List RawParameter) (i : ℕ) → first_faulty fit [] rs ≡ Some i → Leftmost (faults_from fit [] rs) i
  leftmost rs i h = let m = found [] rs i h in let z : i ≡ m.0 = omega (arith, m.1.0) in rw z m.1.1
