-- Laws of what specs/Followed.antt defines.
use Rattle.std.specs.Prelude.{◌≡◌, refl, Bool, true, false, List, ℕ, ◌+◌, ◌*◌, ◌^◌, ◌≤◌, ◌<◌, eqb, length, drop, get_or, None, Some}
use Rattle.std.proofs.Common.{◌∙◌, arith, pow-suc, add-one, drop_of_length-le, rules}
use Rattle.std.proofs.Math.Nat.{pow-le-pow_right}
use Rattle.octets.specs.Pick.{pick}
use Rattle.octets.specs.laws.Pick.{flag_yes, flag_no}
use Rattle.octets.specs.laws.Scan.{drop_next}
use Rattle.octets.specs.Decimal.{digit_of}
use Rattle.source.specs.Source.{rest}
use Rattle.source.specs.declared.points.Unit.{Unit}
use Rattle.times.specs.Letters.{cased, Spells}
use Rattle.times.specs.Pattern.{lost, passes, tally, along}
use Rattle.times.specs.laws.Pattern.{along-spell}
use Rattle.times.specs.laws.Digits.{digit_small}
use Rattle.times.specs.Followed.{Walks}

-- the loop: i characters of p are passed, n is the number of their digits, c the cursor after them
pub record Following (p : List ℕ) (e : Bool) (m : ℕ) (s : List ℕ) (at n c i : ℕ) : Type 0 where
  pub inside : i ≤ length p
  pub small : n < 10 ^ i
  pub left : along p 0 (cased e (rest m s at)) ≡ along (drop i p) n (cased e (rest m s c))

tally_small : (k n u i : ℕ) → n < 10 ^ i → tally k n u < 10 ^ (i + 1)
unfolding tally pick
tally_small k n u i h = rw (add-one, pow-suc) (go (eqb k 48))
  where
    go : (t : Bool) → pick t (n * 10 + digit_of u) n < 10 ^ i * 10
    go true = omega (arith, digit_small u)
    go false = omega arith

module _ {p : List ℕ} {e : Bool} {m : ℕ} {s : List ℕ} {at : ℕ} where
  pub follow_start : Following p e m s at 0 at 0
  follow_start = record { inside = omega arith; small = omega arith; left = refl }

  pub follow_small : {n c i : ℕ} → Following p e m s at n c i → i < length p → length p ≤ 19 → n < 10 ^ 18
  follow_small {n} {c} {i} f h l =
      let b : i ≤ 18 = omega arith in
      let g : 10 ^ i ≤ 10 ^ 18 = pow-le-pow_right {n = 10} (omega arith) b in
      omega (arith, f.small)

  module _ {n c i k : ℕ} {a : Unit} (f : Following p e m s at n c i) (h : i < length p) (q : k ≡ get_or p i 0) (l : k < 256) (t : Spells e m s c a) where
    step : along p 0 (cased e (rest m s at)) ≡ pick (passes k a.u) (along (drop (i + 1) p) (tally k n a.u) (cased e (rest m s a.next))) lost
    step = f.left ∙ rw (drop_next p i h, ← q, t.is) (along-spell k (drop (i + 1) p) n a.u _ l)

    pub follow_more : {w : ℕ} → passes k a.u ≡ true → w ≡ tally k n a.u → Following p e m s at w a.next (i + 1)
    unfolding pick
    follow_more g z = rw z (record { inside = omega arith; small = tally_small k n a.u i f.small; left = step ∙ rw g })

    pub follow_lost : passes k a.u ≡ false → Walks p e m s at None
    unfolding pick
    follow_lost g = record { is = step ∙ rw g }

  pub follow_done : {n c i : ℕ} → Following p e m s at n c i → length p ≤ i → Walks p e m s at (Some (record { number = n; next = c }))
  unfolding along
  follow_done {n} {c} {i} f h = record { is = f.left ∙ rw (drop_of_length-le p h) }

pub ruleset following = (follow_start, follow_small, follow_more, follow_lost, follow_done, flag_yes, flag_no, rules)
