-- The step over characters that may be named by their code points, by a reference in XML and by an escape of digits in JSON.
--     Placed s p u n       at the place p stands nothing, where u is 256; the byte u; or, from p to n, a name of the code point u - 257
--     Apart m              an encoding with no folds, which is not cut
--     Inner m s p v n      the cursors within the character v, which is named from p to n
--     Named m s p u n      what is placed so, in the encoding m
--     Found m s p u n q    what stands at the cursor 2 * q + 1, which finds it at p
--     Left                 the step within a named character, j bytes of which are read
use Rattle.std.specs.Prelude.{◌≡◌, false, List, [], ◌∷◌, ℕ, ◌+◌, ◌-◌, ◌*◌, ◌/◌, ◌^◌, ◌≤◌, ◌<◌, eqb, ltb, length, drop}
use Rattle.octets.specs.Pick.{pick}
use Rattle.octets.specs.Append.{◌⊕◌}
use Rattle.utf8.specs.Spell.{spell as spelled}
use Rattle.source.specs.Source.{rest, cuts, spell}
use Rattle.source.specs.declared.points.Unit.{Unit}

pub record Placed (s : List ℕ) (p u n : ℕ) : Type 0 where
  pub high : u < 257 + 0x110000
  pub inside : (u ≡ 256 → ⊥) → (p < n) × (n ≤ length s)
  pub wide : 256 < u → p + 4 ≤ n

pub record Apart (m : ℕ) : Type 0 where
  pub uncut : cuts m ≡ false
  pub unfolded : eqb m 2 ≡ false

-- after byte j, where more follow
pub record Inner (m : ℕ) (s : List ℕ) (p v n : ℕ) : Type 0 where
  pub is : (j : ℕ) → j + 1 < length (spelled v) → rest m s (2 * (p + j) + 1) ≡ drop (j + 1) (spelled v) ⊕ rest m s (2 * n)

pub record Named (m : ℕ) (s : List ℕ) (p u n : ℕ) : Type 0 where
  pub none : u ≡ 256 → rest m s (2 * p) ≡ []
  pub byte : u < 256 → rest m s (2 * p) ≡ u ∷ rest m s (2 * n)
  pub point : 256 < u → rest m s (2 * p) ≡ spelled (u - 257) ⊕ rest m s (2 * n)
  pub inner : 256 < u → Inner m s p (u - 257) n

pub record Found (m : ℕ) (s : List ℕ) (p u n q : ℕ) : Type 0 where
  pub none : u ≤ 256 → rest m s (2 * q + 1) ≡ []
  pub left : 256 < u → rest m s (2 * q + 1) ≡ pick (ltb (q - p + 1) (length (spelled (u - 257)))) (drop (q - p + 1) (spelled (u - 257)) ⊕ rest m s (2 * n)) []
  pub inner : 256 < u → Inner m s p (u - 257) n

pub record Left (m : ℕ) (s : List ℕ) (p v n j : ℕ) (r : Unit) : Type 0 where
  pub is : pick (ltb j (length (spelled v))) (drop j (spelled v) ⊕ rest m s (2 * n)) [] ≡ spell r.u (rest m s r.next)
  pub small : r.u ≤ 256
  pub moved : 2 * (p + j) < r.next + r.u / 256 * 2 ^ 64
  pub inside : r.next ≤ 2 * length s + r.u / 256 * 2 ^ 64
