-- The walk over a line's parameters, of a property by its name: what the code finds is what crate text says.
--     fault_place, stated_place     the place of the fault, and the type
use Rattle.std.specs.Prelude.{◌≡◌, refl, Bool, ℕ, Option, None, Some, option_map}
use Rattle.std.proofs.Common.{ap, ◌∙◌}
use mathlib.Core.List.{List, [], ◌∷◌}
use Rattle.octets.specs.Class.{upper}
use Rattle.octets.specs.Reading.{read_or}
use Rattle.calendar.specs.Calendar.{ValueType, DURATION}
use Rattle.names.specs.Table.{place_of}
use Rattle.schema.specs.Types.{type_place, same_type}
use Rattle.schema.specs.Properties.{property_names, default_type}
use Rattle.schema.specs.Coded.{row_at}
use Rattle.schema.specs.laws.Columns.{default_place, permits_place}
use Rattle.schema.specs.declared.table.Row.{Row}
use Rattle.read_text_line.specs.ContentLine.{RawParameter}
use Rattle.text.specs.Parameters.{stated_type}
use Rattle.text.specs.Faults.{is_binary, fits, is_faulty, first_faulty, parameters_fault}
use Rattle.read_text_parameters.specs.Stating.{stated_at}
use Rattle.read_text_parameters.specs.laws.Stating.{stated_same}
use Rattle.read_text_parameters.specs.Walking.{is_binary_at, fits_at, fault_as}

-- the same test, the same answer
first_same : (f g : RawParameter → Bool) → ((r : RawParameter) → f r ≡ g r) → (before : List (List ℕ)) (rs : List RawParameter) → first_faulty f before rs ≡ first_faulty g before rs
unfolding first_faulty is_faulty
first_same f g h before [] = refl
first_same f g h before (r ∷ rs) = rw (h r, first_same f g h (upper r.name ∷ before) rs)

type_for_lem : (o : Option ValueType) → read_or 5 (option_map type_place o) ≡ type_place (read_or DURATION o)
unfolding read_or
type_for_lem None = refl
type_for_lem (Some t) = refl

binary_for : (o : Option ValueType) → is_binary_at (option_map type_place o) ≡ is_binary o
unfolding same_type
binary_for None = refl
binary_for (Some t) = refl

module _ (w : List ℕ) {row : Row} (e : row ≡ row_at (place_of w property_names)) where
  fits_place : (o : Option ValueType) (r : RawParameter) → fits_at row (option_map type_place o) r ≡ fits w o r
  unfolding fits_at
  fits_place o r = rw (e, type_for_lem o, binary_for o, permits_place w (upper r.name) (read_or DURATION o))

  pub fault_place : (o : Option ValueType) (rs : List RawParameter) → fault_as row (option_map type_place o) rs ≡ parameters_fault w o rs
  unfolding fault_as parameters_fault
  fault_place o rs = rw (first_same (fits_at row (option_map type_place o)) (fits w o) (fits_place o) [] rs, binary_for o)

  default_is : row.default ≡ type_place (default_type w)
  default_is = ap (λ (r : Row). r.default) e ∙ default_place w

  pub stated_place : (rs : List RawParameter) → stated_at row.default rs ≡ option_map type_place (stated_type w rs)
  stated_place rs = stated_same row.default w default_is rs
