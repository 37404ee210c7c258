-- The first child of a name.
--     name_in     a name between two cursors
--     InsideAt    its content: the contract of `inside_of`
use Rattle.std.specs.Prelude.{◌≡◌, List, ℕ, ◌-◌, ◌≤◌, length, take}
use Rattle.source.specs.Source.{rest}
use Rattle.xcal.specs.ComponentNodes.{inside_of}
use Rattle.xml.specs.NodesAt.{nodes_at}

-- the name from the cursor c to e
abbrev pub name_in : List ℕ → ℕ → ℕ → List ℕ
name_in s c e = rest 0 (take e s) c

pub record InsideAt (w s : List ℕ) (from r : ℕ) : Type 0 where
  pub is : inside_of w (nodes_at s from) ≡ nodes_at s r
  pub within : r ≤ length s
  pub onward : length s - r ≤ length s - from
