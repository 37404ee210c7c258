-- Laws of what specs/Cells.antt defines.
--     digit         a test as the character 1 or 0
--     tabled_at    its entries
--     column_at     the entry of a row in the list of a field of each row;   column_past: of a number that is no row
--     cell_at       the entry of two numbers in a table of w to a line
--     at_passes, row_passes    what every row passes;   below_passes: every number of a run
use Rattle.std.specs.Prelude.{◌≡◌, refl, Bool, true, false, eqb, length, get_or}
use Rattle.std.proofs.Common.{sym, ap, ◌∙◌, not-suc-le-zero, le_of_suc-le-suc, arith}
use mathlib.Core.List.{List, [], ◌∷◌, map}
use Prim.Native.Nat.{ℕ, zero, suc, ◌+◌, ◌*◌, ◌/◌, ◌%◌, ◌≤◌, ◌<◌}
use Rattle.std.proofs.Math.ListN.{get_or-eq_default}
use Rattle.octets.specs.laws.Pick.{and_both}
use Rattle.octets.specs.Lists.{every}
use Rattle.schema.specs.Cells.{tabled}
use Rattle.schema.specs.Arrays.{each_from}

abbrev pub digit : Bool → ℕ
digit true = 49
digit false = 48

pub digit_is : (b : Bool) → eqb (digit b) 49 ≡ b
digit_is true = refl
digit_is false = refl

pub tabled_at : (f : ℕ → ℕ) (k i n : ℕ) → n < k → get_or (tabled f i k) n 0 ≡ f (i + n)
unfolding tabled
tabled_at f zero i n h = absurd (not-suc-le-zero h)
tabled_at f (suc k) i zero h = ap f (omega arith)
tabled_at f (suc k) i (suc n) h = tabled_at f k (suc i) n (le_of_suc-le-suc h) ∙ ap f (omega arith)

-- g of the line and the column, in a table of w columns and of b entries
abbrev pub grid : (ℕ → ℕ → ℕ) → ℕ → ℕ → List ℕ
grid g w b = tabled (λ i. g (i / w) (i % w)) 0 b

pub cell_at : (g : ℕ → ℕ → ℕ) (w b k j : ℕ) → k * w + j < b → (k * w + j) / w ≡ k → (k * w + j) % w ≡ j → get_or (grid g w b) (k * w + j) 0 ≡ g k j
cell_at g w b k j h p q = tabled_at (λ i. g (i / w) (i % w)) b 0 (k * w + j) h ∙ line
  where
    line : g ((0 + (k * w + j)) / w) ((0 + (k * w + j)) % w) ≡ g k j
    line = let e : 0 + (k * w + j) ≡ k * w + j = omega arith in rw (e, p, q)

module _ {A : Type 0} where
  pub column_at : (f : A → ℕ) (d : A) (rows : List A) (n : ℕ) → n < length rows → get_or (map f rows) n 0 ≡ f (get_or rows n d)
  column_at f d [] n h = absurd (not-suc-le-zero h)
  column_at f d (a ∷ rows) zero h = refl
  column_at f d (a ∷ rows) (suc n) h = column_at f d rows n (le_of_suc-le-suc h)

  pub column_past : {B : Type 0} (f : A → B) (d : A) (rows : List A) (n : ℕ) → length rows ≤ n → f d ≡ f (get_or rows n d)
  column_past f d rows n h = ap f (sym (get_or-eq_default rows d h))

  pub at_passes : (p : A → Bool) (d : A) (rows : List A) (n : ℕ) → every p rows ≡ true → p d ≡ true → p (get_or rows n d) ≡ true
  unfolding every
  at_passes p d [] n a h = h
  at_passes p d (x ∷ rows) zero a h = (and_both _ _ a).0
  at_passes p d (x ∷ rows) (suc n) a h = at_passes p d rows n (and_both _ _ a).1 h

  pub row_at_passes : (p : A → Bool) (d : A) (rows : List A) (n : ℕ) → every p rows ≡ true → n < length rows → p (get_or rows n d) ≡ true
  unfolding every
  row_at_passes p d [] n a h = absurd (not-suc-le-zero h)
  row_at_passes p d (x ∷ rows) zero a h = (and_both _ _ a).0
  row_at_passes p d (x ∷ rows) (suc n) a h = row_at_passes p d rows n (and_both _ _ a).1 (le_of_suc-le-suc h)

-- what a run of numbers passes
from_passes : (p : ℕ → Bool) (i k n : ℕ) → each_from i k p ≡ true → n < k → p (i + n) ≡ true
unfolding each_from
from_passes p i zero n a h = absurd (not-suc-le-zero h)
from_passes p i (suc k) zero a h = ap p (omega arith) ∙ (and_both _ _ a).0
from_passes p i (suc k) (suc n) a h = ap p (omega arith) ∙ from_passes p (suc i) k n (and_both _ _ a).1 (le_of_suc-le-suc h)

pub below_passes : (p : ℕ → Bool) (k n : ℕ) → each_from 0 k p ≡ true → n < k → p n ≡ true
below_passes p k n a h = let z : n ≡ 0 + n = omega arith in ap p z ∙ from_passes p 0 k n a h
