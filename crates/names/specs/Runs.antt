-- A run of bytes at a cursor, and a word compared or written from one.
--     RunEnds p m s c r    the run of the bytes that pass p, from the cursor c on, ends at the cursor r
use Rattle.std.specs.Prelude.{◌≡◌, Bool, true, List, ℕ, ◌*◌, max, ◌≤◌, length}
use Rattle.octets.specs.Append.{◌⊕◌}
use Rattle.octets.specs.Runs.{run_of, after_run}
use Rattle.source.specs.Source.{rest, cuts, Reach}

-- ---- a run

-- the run ends at r: `left` is what stands behind it
pub record RunEnds (p : ℕ → Bool) (m : ℕ) (s : List ℕ) (c r : ℕ) : Type 0 where
  pub is : rest m s c ≡ run_of p (rest m s c) ⊕ rest m s r
  pub left : rest m s r ≡ after_run p (rest m s c)
  pub onward : c ≤ r
  pub inside : r ≤ max c (4 * length s)
  pub plain : cuts m ≡ true → c ≤ length s → r ≤ length s
  pub reach : Reach m s c r
