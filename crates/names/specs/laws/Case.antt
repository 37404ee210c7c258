-- Laws of what specs/Case.antt defines.
--     cased_none, cased_more      what it is, byte by byte
--     same_step, same_empty, empty_unit     a word compared, by the unit found at a cursor
--     cased_small         a byte in another case is a byte
use Rattle.std.specs.Prelude.{◌≡◌, Bool, ℕ, ◌+◌, ◌-◌, ◌<◌, leb}
use Rattle.std.proofs.Math.Path.{refl}
use Rattle.std.proofs.Math.Bool.{true, false}
use mathlib.Core.List.{List, [], ◌∷◌}
use Rattle.std.proofs.Common.{arith}
use Rattle.std.proofs.Math.Dec.{eqb}
use borrow.Author.Tests.{eqb-true, ne_eqb, leb-true}
use Rattle.octets.specs.Pick.{pick, ◌and◌}
use Rattle.octets.specs.Class.{is_small, upper, lower}
use Rattle.octets.specs.Words.{same, is_empty}
use Rattle.source.specs.Source.{spell}
use Rattle.names.specs.Case.{cased, cased_byte}
use Rattle.names.specs.declared.Case.{Case}
use Rattle.names.specs.declared.Case.TheVariants.{Kept, Capital, Small}

pub cased_none : (k : Case) → cased k [] ≡ []
unfolding upper lower
cased_none Kept = refl
cased_none Capital = refl
cased_none Small = refl

pub cased_more : (k : Case) (b : ℕ) (s : List ℕ) → cased k (b ∷ s) ≡ cased_byte k b ∷ cased k s
unfolding upper lower
cased_more Kept b s = refl
cased_more Capital b s = refl
cased_more Small b s = refl

pub same_empty : (k : Case) (s : List ℕ) → same (cased k s) [] ≡ is_empty s
unfolding same
same_empty k [] = rw (cased_none k)
same_empty k (b ∷ s) = rw (cased_more k b s)

-- the sign of the end is no letter
end_cased : (k : Case) → cased_byte k 256 ≡ 256
unfolding pick ◌and◌
end_cased Kept = refl
end_cased Capital = refl
end_cased Small = refl

pub cased_small : (k : Case) (b : ℕ) → b < 256 → cased_byte k b < 256
unfolding pick ◌and◌
cased_small Kept b h = h
cased_small Capital b h = go (is_small b)
  where
    go : (t : Bool) → pick t (b - 32) b < 256
    go true = omega arith
    go false = h
cased_small Small b h = go (leb 65 b) (leb b 90) refl
  where
    go : (t u : Bool) → leb b 90 ≡ u → pick (t and u) (b + 32) b < 256
    go true true e = omega (arith, leb-true b 90 e)
    go true false e = h
    go false u e = h

-- ---- a word that is compared with t and what follows, by the unit u at a cursor

module _ (k : Case) (u : ℕ) (r : List ℕ) where
  pub same_step : (t : ℕ) (w : List ℕ) → t < 256 → same (cased k (spell u r)) (t ∷ w) ≡ (eqb (cased_byte k u) t and same (cased k r) w)
  unfolding spell pick same ◌and◌
  same_step t w h = go (eqb u 256) refl
    where
      go : (b : Bool) → eqb u 256 ≡ b → same (cased k (pick b [] (u ∷ r))) (t ∷ w) ≡ (eqb (cased_byte k u) t and same (cased k r) w)
      go true e = rw (cased_none k, eqb-true u 256 e, end_cased k, ne_eqb 256 t (omega arith))
      go false e = rw (cased_more k u r)

pub empty_unit : (u : ℕ) (r : List ℕ) → is_empty (spell u r) ≡ eqb u 256
unfolding spell pick
empty_unit u r = go (eqb u 256)
  where
    go : (b : Bool) → is_empty (pick b [] (u ∷ r)) ≡ b
    go true = refl
    go false = refl
