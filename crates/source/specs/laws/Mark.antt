-- Laws of where the name of a character begins.
--     mark_found                       a cursor within it finds it again
--     mark_here, mark_one, mark_two    where a byte is found
--     byte_none                        past the end
use Rattle.std.specs.Prelude.{◌≡◌, Bool, List, ℕ, ◌+◌, ◌-◌, ◌≤◌, ◌<◌, length, get_or}
use Rattle.std.proofs.Math.Path.{refl}
use Rattle.std.proofs.Common.{sym, ◌∙◌}
use Rattle.std.proofs.Math.Bool.{true, false}
use native.Mathlib.Omega.{arith}
use Rattle.std.proofs.Math.Dec.{eqb}
use Rattle.std.proofs.Math.ListN.{get_or-eq_default}
use borrow.Author.Tests.{eq-eqb, ne_eqb, eqb-true, eqb-false}
use Rattle.octets.specs.Pick.{pick}
use Rattle.source.specs.Mark.{mark_before}

pub byte_none : (s : List ℕ) (p : ℕ) → length s ≤ p → 0 ≡ get_or s p 0
byte_none s p h = sym (get_or-eq_default s 0 h)

-- of three bytes only the first is the mark
module _ (m : ℕ) (s : List ℕ) (p : ℕ) (a : get_or s p 0 ≡ m) (b : get_or s (p + 1) 0 ≡ m → ⊥) (d : get_or s (p + 2) 0 ≡ m → ⊥) where
  pub mark_found : (j : ℕ) → j < 3 → mark_before m s (p + j) ≡ p
  unfolding mark_before pick
  mark_found j h = go (eqb j 0) refl (eqb j 1) refl
    where
      go : (x : Bool) → eqb j 0 ≡ x → (y : Bool) → eqb j 1 ≡ y → pick (eqb (get_or s (p + j) 0) m) (p + j) (pick (eqb (get_or s (p + j - 1) 0) m) (p + j - 1) (p + j - 2)) ≡ p
      go true e y g =
          let k : p + j ≡ p = omega (arith, eqb-true j 0 e) in
          rw (k, eq-eqb (get_or s p 0) m a)
      go false e true g =
          let k : p + j ≡ p + 1 = omega (arith, eqb-true j 1 g) in
          let l : p + 1 - 1 ≡ p = omega arith in
          rw (k, ne_eqb (get_or s (p + 1) 0) m b, l, eq-eqb (get_or s p 0) m a)
      go false e false g =
          let k : p + j ≡ p + 2 = omega (arith, eqb-false j 0 e, eqb-false j 1 g) in
          let l : p + 2 - 1 ≡ p + 1 = omega arith in
          let n : p + 2 - 2 ≡ p = omega arith in
          rw (k, ne_eqb (get_or s (p + 2) 0) m d, l, ne_eqb (get_or s (p + 1) 0) m b, n)

-- where the mark is found
abbrev Mark : ℕ → List ℕ → ℕ → ℕ → Type 0
Mark m s i r = (r ≡ mark_before m s i) × (r ≤ i) × (i ≤ r + 2)

module _ (m : ℕ) (s : List ℕ) (i b : ℕ) (e : b ≡ get_or s i 0) where
  pub mark_here : b ≡ m → Mark m s i i
  unfolding mark_before pick
  mark_here h = (rw (← e, eq-eqb b m h), omega arith, omega arith)

  module _ (n : b ≡ m → ⊥) (p d : ℕ) (f : p ≡ i - 1) (g : d ≡ get_or s p 0) where
    pub mark_one : d ≡ m → Mark m s i p
    unfolding mark_before pick
    mark_one h = (rw (← e, ne_eqb b m n, ← f, ← g, eq-eqb d m h), omega arith, omega arith)

    pub mark_two : (d ≡ m → ⊥) → (r : ℕ) → r ≡ i - 2 → Mark m s i r
    unfolding mark_before pick
    mark_two k r h = (rw (← e, ne_eqb b m n, ← f, ← g, ne_eqb d m k) h, omega arith, omega arith)
