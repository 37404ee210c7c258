-- The type that an element names, by its number.
--     TypeAt      the contract of `type_of`
use Prim.{Unit}
use Rattle.std.specs.Prelude.{◌≡◌, List, ℕ, ◌≤◌, Option, None, Some, option_map}
use Rattle.schema.specs.Numbers.{type_at}
use Rattle.read_json.specs.declared.Head.{Head}
use Rattle.read_jcal.specs.Arrays.{type_found}

abbrev pub Small : Option ℕ → Type 0
Small (Some t) = t ≤ 14
Small None = Unit {0}

pub record TypeAt (s : List ℕ) (h : Head) (r : Option ℕ) : Type 0 where
  pub is : type_found s h ≡ option_map type_at r
  pub small : Small r
