-- The type that a line states, by its number.
--     NumberOf, TypeOf    contracts of functions that read a type
--     stated_at      the type that parameters state, where the property's default has a number;   StatedAt: those from a cursor on
use Rattle.std.specs.Prelude.{◌≡◌, List, [], ◌∷◌, ℕ, Option, Some, option_map}
use Rattle.octets.specs.Pick.{pick}
use Rattle.calendar.specs.Calendar.{ValueType}
use Rattle.schema.specs.Types.{type_place}
use Rattle.read_text_line.specs.ContentLine.{RawParameter}
use Rattle.edition.specs.declared.Edition.{Edition}
use Rattle.read_text_line.specs.Decoded.{params_in}
use Rattle.text.specs.Parameters.{is_value_parameter, type_in}

-- the number is the answer's;   the same of a type
pub record NumberOf (o : Option ℕ) (r : Option ℕ) : Type 0 where
  pub is : r ≡ o

pub record TypeOf (o : Option ValueType) (r : Option ℕ) : Type 0 where
  pub is : option_map type_place o ≡ r

-- ---- the parameters of a line

unfoldable pub stated_at : ℕ → List RawParameter → Option ℕ
stated_at d [] = Some d
stated_at d (r ∷ rs) = pick (is_value_parameter r) (option_map type_place (type_in r.values)) (stated_at d rs)

pub record StatedAt (ed : Edition) (d m : ℕ) (s : List ℕ) (e : ℕ) (r : Option ℕ) : Type 0 where
  pub is : stated_at d (params_in ed m s e) ≡ r
