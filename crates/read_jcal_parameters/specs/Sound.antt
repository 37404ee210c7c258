-- What parameters must be, by the property's row and the number of the type of its value.
--     sound_by         one parameter: permitted, with good values
--     encoded_for      with a value of type BINARY, the one of the number 0, ENCODING is BASE64
--     good_by          what `parameters_good` asks for
use Rattle.std.specs.Prelude.{Bool, not, List, ℕ, eqb}
use Rattle.octets.specs.Pick.{◌and◌, ◌or◌}
use Rattle.octets.specs.Class.{upper}
use Rattle.octets.specs.Lists.{every, any_one, distinct}
use Rattle.names.specs.Table.{place_of}
use Rattle.schema.specs.Parameters.{parameter_names}
use Rattle.schema.specs.Columns.{permits_at}
use Rattle.schema.specs.declared.table.Row.{Row}
use Rattle.edition.specs.declared.Edition.{Edition}
use Rattle.json_text.specs.Tree.{Json, Member}
use Rattle.json_text.specs.Kinds.{or_alone}
use Rattle.read_jcal_parameters.specs.Values.{row_at, good_values}
use Rattle.read_jcal_parameters.specs.Apart.{names_of}
use Rattle.read_jcal_parameters.specs.Encoded.{is_encoded}

unfoldable pub encoded_for : ℕ → List Member → Bool
encoded_for t ms = not (eqb t 0) or any_one is_encoded ms

module _ (ed : Edition) (row : Row) (t : ℕ) where
  -- the parameter n with these values
  unfoldable pub sound_by : List ℕ → List Json → Bool
  sound_by n vs = permits_at row t (place_of (upper n) parameter_names) and good_values ed (row_at (place_of (upper n) parameter_names)) vs

  abbrev pub is_sound : Member → Bool
  is_sound m = sound_by m.name (or_alone m.value)

  unfoldable pub good_by : List Member → Bool
  good_by ms = distinct (names_of ms) and every is_sound ms and encoded_for t ms
