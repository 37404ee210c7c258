-- The number of a property and what its word names, for its tallies.
--     WordAt      the contract of `word_of`: what its word names, where it is an ACTION
use Rattle.std.specs.Prelude.{◌≡◌, List, ℕ, Option}
use Rattle.octets.specs.Class.{upper}
use Rattle.names.specs.Table.{place_of}
use Rattle.schema.specs.Properties.{property_names}
use Rattle.schema.specs.declared.Action.{Action}
use Rattle.tallies.specs.Counting.{Numbered}
use Rattle.xml.specs.Nodes.{Nodes}
use Rattle.xcal.specs.PropertyNodes.{property_in}

pub record WordAt (p : ℕ) (kids : Nodes) (r : Option Action) : Type 0 where
  pub is : (m : List ℕ) → p ≡ place_of (upper m) property_names → Numbered (property_in m kids) p r
