-- The first child of a name.
--     ChildAt     the contract of `find_child`;   TextAt: that of `child_inside`
use Rattle.std.specs.Prelude.{◌≡◌, List, ℕ, ◌≤◌, length, Option, IfSome, option_map}
use Rattle.xml.specs.Nodes.{characters_of}
use Rattle.xcal.specs.ValueNodes.{child_named, text_of}
use Rattle.xml.specs.NodesAt.{nodes_at}

pub record ChildAt (n s : List ℕ) (from : ℕ) (r : Option ℕ) : Type 0 where
  pub is : child_named n (nodes_at s from) ≡ option_map (λ i. characters_of (nodes_at s i)) r
  pub within : IfSome r (λ i. i ≤ length s)

pub record TextAt (n s : List ℕ) (from r : ℕ) : Type 0 where
  pub is : text_of n (nodes_at s from) ≡ characters_of (nodes_at s r)
  pub within : r ≤ length s
