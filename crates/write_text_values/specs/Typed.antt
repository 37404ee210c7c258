-- Values in elements that are named as their type.
--     TypedAt         the contract of `find_typed`
use Rattle.std.specs.Prelude.{◌≡◌, List, [], ◌∷◌, ℕ, ◌≤◌, ◌<◌, length, Option, None, Some, IfSome}
use Rattle.calendar.specs.Calendar.{Value}
use Rattle.schema.specs.Numbers.{type_at}
use Rattle.xcal.specs.ValueNodes.{value_of, typed_values}
use Rattle.xml.specs.NodesAt.{nodes_at}
use Rattle.read_xml_nodes.specs.HeadFound.{after_tag}
use Rattle.write_text_values.specs.declared.typed.Typed.{Typed}

-- ---- the walk to a value

abbrev pub values_from : List ℕ → Option Typed → List Value
values_from s (Some v) = value_of (type_at v.value_type) (nodes_at s v.inside) ∷ typed_values (after_tag s v.opens v.next)
values_from s None = []

pub record Within (s : List ℕ) (at : ℕ) (v : Typed) : Type 0 where
  pub known : v.value_type ≤ 14
  pub inside : v.inside ≤ length s
  pub next : v.next ≤ length s
  pub onward : at < v.next

pub record TypedAt (s : List ℕ) (at : ℕ) (r : Option Typed) : Type 0 where
  pub is : typed_values (nodes_at s at) ≡ values_from s r
  pub within : IfSome r (Within s at)
