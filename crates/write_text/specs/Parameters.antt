-- A property's `parameters`, which stands before its value.
--     value_names p   the names of the children that are the value of the property of the number p
--     ParametersAt    the content of `parameters`: the contract of `parameters_inside`
use Rattle.std.specs.Prelude.{◌≡◌, List, ℕ, ◌≤◌, eqb, length}
use Rattle.octets.specs.Pick.{pick}
use Rattle.names.specs.Table.{place_of}
use Rattle.schema.specs.Properties.{property_names}
use Rattle.xcal.specs.ValueNodes.{type_elements, geo_elements, status_elements}
use Rattle.schema.specs.Property as property
use Rattle.xcal.specs.PropertyNodes.{parameters_in}
use Rattle.xml.specs.NodesAt.{nodes_at}

-- ---- the children that are the value

abbrev pub value_names : ℕ → List (List ℕ)
value_names p = pick (eqb p property.GEO) geo_elements (pick (eqb p property.REQUEST-STATUS) status_elements type_elements)

-- ---- `parameters`

pub record ParametersAt (p : ℕ) (s : List ℕ) (from r : ℕ) : Type 0 where
  pub is : (w : List ℕ) → p ≡ place_of w property_names → parameters_in w (nodes_at s from) ≡ nodes_at s r
  pub within : r ≤ length s
