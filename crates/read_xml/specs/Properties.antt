-- A property's element, and the children of `properties`.
--     PropertyAt   the contract of `property_verdict`
--     verdict_of   the verdict of a check that keeps something
--     ListedAt     the contract of `properties_verdict`: what is kept of them, or the refusal
use Rattle.std.specs.Prelude.{◌≡◌, ⊤, Bool, not, List, ℕ, ◌≤◌, Result, Ok, Err, IfOk}
use Rattle.octets.specs.Pick.{◌and◌}
use Rattle.names.specs.Table.{place_of}
use Rattle.schema.specs.Components.{component_names, may_stand}
use Rattle.schema.specs.Properties.{property_names, is_known_property}
use Rattle.schema.specs.Numbers.{type_at}
use Rattle.schema.specs.Coded.{row_at}
use Rattle.schema.specs.declared.table.Row.{Row}
use Rattle.xml.specs.Nodes.{Nodes}
use Rattle.xcal.specs.ValueNodes.{type_of_nodes}
use Rattle.xcal.specs.PropertyNodes.{lacks_encoding, property_verdict, properties_verdict, read_properties}
use Rattle.xml.specs.NodesAt.{nodes_at}
use Rattle.calendar.specs.Refusal.{Verdict, fine}
use Rattle.refusals.specs.Fault.{judged_as}
use Rattle.refusals.specs.declared.Fault.{Fault}
use Rattle.read_xml_nodes.specs.declared.Node.{Node}
use Rattle.edition.specs.declared.Edition.{Edition}
use Rattle.read_xml.specs.Children.{name_of}
use Rattle.tallies.specs.Counting.{Counted}
use Rattle.tallies.specs.declared.Kept.{Kept}

-- the verdict of a check that keeps something
abbrev pub verdict_of : {A : Type 0} → Result A Fault → Verdict
verdict_of (Ok x) = fine
verdict_of (Err f) = judged_as (Err f)

-- ---- a value of type BINARY with no ENCODING

pub record LacksAt (p t : ℕ) (kids : Nodes) (r : Bool) : Type 0 where
  pub is : (w : List ℕ) → p ≡ place_of w property_names → t ≤ 14 → type_at t ≡ type_of_nodes w kids → r ≡ lacks_encoding w kids

-- ---- its name, and whether it may stand there

pub record OffAt (k : ℕ) (row : Row) (r : Bool) : Type 0 where
  pub is : (c w : List ℕ) → k ≡ place_of c component_names → row ≡ row_at (place_of w property_names) → r ≡ (is_known_property w and not (may_stand c w))

module _ (ed : Edition) where
  -- ---- the element

  pub record PropertyAt (k : ℕ) (s : List ℕ) (at : ℕ) (n : Node) (r : Result ⊤ Fault) : Type 0 where
    pub is : (c : List ℕ) → k ≡ place_of c component_names → property_verdict ed c at (name_of s n) n.end (nodes_at s n.inside) ≡ judged_as r

  -- ---- the children of `properties`

  pub record ListedAt (k : ℕ) (s : List ℕ) (from : ℕ) (r : Result Kept Fault) : Type 0 where
    pub is : (c : List ℕ) → k ≡ place_of c component_names → properties_verdict ed c (nodes_at s from) ≡ verdict_of r
    pub counted : IfOk r (λ t. Counted (read_properties (nodes_at s from)) t)
