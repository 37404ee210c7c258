-- The type that an element's name names, by its number.
--     TypeNamed         the contract of `element_type`
use Rattle.std.specs.Prelude.{◌≡◌, List, ℕ, ◌≤◌, Option, IfSome, option_map}
use Rattle.schema.specs.Numbers.{type_at}
use Rattle.xcal.specs.ValueNodes.{element_type}

pub record TypeNamed (n : List ℕ) (r : Option ℕ) : Type 0 where
  pub is : element_type n ≡ option_map type_at r
  pub small : IfSome r (λ t. t ≤ 14)
