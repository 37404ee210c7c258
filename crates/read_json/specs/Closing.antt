-- The end of an open array or object, and what follows it.
--     EndedAt     the contract of `container_end`;   place_by, behind_by: the place of the bracket, 0 without one, and the place behind it, the end without one
--     BehindAt    the contract of `behind_container`
use Rattle.std.specs.Prelude.{◌≡◌, List, ℕ, ◌≤◌, length, Option, None, Some}
use Rattle.json_text.specs.Tree.{end_place, elements, members}
use Rattle.read_json.specs.TreeAt.{tokens_at, elements_at, members_at}
use Rattle.read_json.specs.declared.Ended.{Ended}

abbrev pub place_by : Option Ended → ℕ
place_by None = 0
place_by (Some e) = e.place

abbrev pub behind_by : List ℕ → Option Ended → ℕ
behind_by s None = length s
behind_by s (Some e) = e.next

pub record BehindAt (s : List ℕ) (from r : ℕ) : Type 0 where
  pub elements_after : elements (tokens_at s from) 1 ≡ elements_at s r
  pub members_after : members (tokens_at s from) 1 ≡ members_at s r
  pub onward : from ≤ r
  pub inside : r ≤ length s

pub record EndedAt (s : List ℕ) (from : ℕ) (r : Option Ended) : Type 0 where
  pub place : end_place (tokens_at s from) 0 ≡ place_by r
  pub behind : BehindAt s from (behind_by s r)
