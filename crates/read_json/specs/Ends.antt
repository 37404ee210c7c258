-- Where a string ends.
--     EndAt    the contract of `string_end`
use Rattle.std.specs.Prelude.{◌≡◌, List, ℕ, ◌+◌, ◌≤◌, length, drop}
use Rattle.json_text.specs.Strings.{quoted_length}

pub record EndAt (s : List ℕ) (from r : ℕ) : Type 0 where
  pub is : r ≡ from + quoted_length (drop from s)
  pub onward : from ≤ r
  pub inside : r ≤ length s
