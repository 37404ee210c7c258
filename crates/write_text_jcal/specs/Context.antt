-- The context of a property's values, from its array.
--     ContextAt     the contract of `context_at`
use Rattle.std.specs.Prelude.{◌≡◌, List, ℕ, ◌≤◌}
use Rattle.names.specs.Table.{place_of}
use Rattle.schema.specs.Properties.{property_names}
use Rattle.schema.specs.Numbers.{type_at}
use Rattle.schema.specs.Coded.{row_at}
use Rattle.schema.specs.declared.Context.{Context}
use Rattle.jcal.specs.Property.{property_name, value_type_of}
use Rattle.write_text_jcal_values.specs.Elements.{list_at}

pub record ContextAt (k : ℕ) (s : List ℕ) (inside : ℕ) (r : Context) : Type 0 where
  pub component : r.component ≡ k
  pub row : r.row ≡ row_at (place_of (property_name (list_at s inside)) property_names)
  pub type : type_at r.value_type ≡ value_type_of (list_at s inside)
  pub small : r.value_type ≤ 14
