-- The bytes that are left, counted.
--     Counting    n bytes stand between two cursors;   counting_start, -more, -end: its laws
use Rattle.std.specs.Prelude.{◌≡◌, refl, List, ℕ, ◌+◌, ◌-◌, ◌*◌, ◌≤◌, ◌<◌, length}
use Rattle.std.proofs.Common.{sym, ap, ◌∙◌, arith}
use Rattle.source.specs.Source.{rest, Reads}
use Rattle.source.specs.laws.Facts.{rest_byte, rest_end, byte_small}
use Rattle.source.specs.declared.points.Unit.{Unit}

pub record Counting (m : ℕ) (s : List ℕ) (from n c : ℕ) : Type 0 where
  pub left : length (rest m s from) ≡ n + length (rest m s c)
  pub count : n ≤ c

pub counting_start : (m : ℕ) (s : List ℕ) (from : ℕ) → Counting m s from 0 from
counting_start m s from = record { left = omega arith; count = omega arith }

module _ {m : ℕ} {s : List ℕ} {from n c : ℕ} {x : Unit} (j : Counting m s from n c) (p : Reads m s c x) where
  pub counting_on : (x.u ≡ 256 → ⊥) → c < x.next
  counting_on h = let u = byte_small p h in omega (arith, p.moved)

  pub counting_more : (x.u ≡ 256 → ⊥) → Counting m s from (n + 1) x.next
  counting_more h =
      let e : length (rest m s c) ≡ 1 + length (rest m s x.next) = ap length (rest_byte p h) ∙ omega arith in
      record { left = j.left ∙ omega (arith, e); count = let k = counting_on h in omega (arith, k, j.count) }

  pub counting_end : x.u ≡ 256 → n ≡ length (rest m s from)
  counting_end e = let z : length (rest m s c) ≡ 0 = ap length (rest_end p e) in omega (arith, z, j.left)

  pub counting_less : (x.u ≡ 256 → ⊥) → 4 * length s - x.next < 4 * length s - c
  counting_less h = let u = byte_small p h in omega (arith, p.moved, p.inside)
