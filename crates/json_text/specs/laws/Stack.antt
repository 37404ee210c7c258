-- Laws of what specs/Stack.antt defines.
--     around_is, coded-outer the innermost, and the number without it, from the number
--     coded_low, coded_high  fewer than k are open, or not, from the number
use Rattle.std.specs.Prelude.{◌≡◌, refl, List, [], ◌∷◌, ℕ, zero, suc, ◌+◌, ◌*◌, ◌%◌, ◌^◌, ◌≤◌, ◌<◌, length}
use Rattle.std.proofs.Math.Nat.{pow-succ'}
use Rattle.std.proofs.Common.{arith, eq-eqb, ne_eqb, le-ltb}
use Rattle.octets.specs.Pick.{pick}
use Rattle.json_text.specs.Check.{Container, array, object, around, outer}
use Rattle.json_text.specs.Stack.{coded, around_of, outer_of}

coded_some : (cs : List Container) → 1 ≤ coded cs
unfolding coded
coded_some [] = omega arith
coded_some (array ∷ cs) = let h = coded_some cs in omega arith
coded_some (object ∷ cs) = let h = coded_some cs in omega arith

pub around_is : (cs : List Container) → around_of (coded cs) ≡ around cs
unfolding coded pick
around_is [] = refl
around_is (array ∷ cs) = let h = coded_some cs in rw (le-ltb (coded cs * 2) 2 (omega arith), eq-eqb (coded cs * 2 % 2) 0 (omega arith))
around_is (object ∷ cs) = let h = coded_some cs in rw (le-ltb (coded cs * 2 + 1) 2 (omega arith), ne_eqb ((coded cs * 2 + 1) % 2) 0 (λ q. omega arith))

pub coded-outer : (cs : List Container) → outer_of (coded cs) ≡ coded (outer cs)
unfolding coded pick
coded-outer [] = refl
coded-outer (array ∷ cs) = let h = coded_some cs in rw (le-ltb (coded cs * 2) 2 (omega arith)) (omega arith)
coded-outer (object ∷ cs) = let h = coded_some cs in rw (le-ltb (coded cs * 2 + 1) 2 (omega arith)) (omega arith)

-- fewer than k are open
pub coded_low : (cs : List Container) (k : ℕ) → coded cs < 2 ^ k → length cs < k
unfolding coded
coded_low cs zero h = let g = coded_some cs in absurd (omega arith)
coded_low [] (suc k) h = omega arith
coded_low (array ∷ cs) (suc k) h = let i = coded_low cs k (omega (arith, rw pow-succ' at h)) in omega arith
coded_low (object ∷ cs) (suc k) h = let i = coded_low cs k (omega (arith, rw pow-succ' at h)) in omega arith

pub coded_high : (cs : List Container) (k : ℕ) → 2 ^ k ≤ coded cs → k ≤ length cs
unfolding coded
coded_high cs zero h = omega arith
coded_high [] (suc k) h = absurd (big k (rw pow-succ' at h))
  where
    some : (k : ℕ) → 1 ≤ 2 ^ k
    some zero = omega arith
    some (suc k) = rw pow-succ' (let h = some k in omega arith)

    big : (k : ℕ) → 2 * 2 ^ k ≤ 1 → ⊥
    big k h = let g = some k in omega arith
coded_high (array ∷ cs) (suc k) h = let i = coded_high cs k (omega (arith, rw pow-succ' at h)) in omega arith
coded_high (object ∷ cs) (suc k) h = let i = coded_high cs k (omega (arith, rw pow-succ' at h)) in omega arith
