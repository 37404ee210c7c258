-- Parameters as text.
--     plain_shown             one value, by its characters
--     item_shown, list_shown  a value with a comma before it where it is a later one; all values
--     member_shown            one parameter;   members_shown: all of them
--     is_read_member          a parameter that can be read
use Rattle.std.specs.Prelude.{Bool, true, false, List, [], ◌∷◌, ℕ}
use Rattle.octets.specs.Pick.{pick, ◌or◌}
use Rattle.octets.specs.Append.{◌⊕◌}
use Rattle.octets.specs.Class.{upper}
use Rattle.octets.specs.Reading.{is_read, read_or}
use Rattle.texts.specs.Quoting.{needs_quotes}
use Rattle.names.specs.Table.{place_of}
use Rattle.schema.specs.Parameters.{ParameterRow, parameter_names}
use Rattle.edition.specs.declared.Edition.{Edition}
use Rattle.edition.specs.declared.Edition.TheVariants.{Rfc6868}
use Rattle.read_text_line.specs.Write.{write_param_value}
use Rattle.read_text_line.specs.Decoded.{encoded_value}
use Rattle.read_text_line.specs.Written.{opening}
use Rattle.json_text.specs.Tree.{Json, Member}
use Rattle.json_text.specs.Kinds.{as_string, or_alone}
use Rattle.read_jcal_parameters.specs.Values.{row_at, good_values}

-- whether a value stands between quotes
unfoldable pub quoted_at : ParameterRow → List ℕ → Bool
quoted_at r l = r.quoted or needs_quotes l

module _ (ed : Edition) where
  unfoldable pub plain_shown : ParameterRow → List ℕ → List ℕ
  plain_shown r l = write_param_value (encoded_value ed (record { quoted = quoted_at r l; chars = l }))

  unfoldable pub item_shown : ParameterRow → Bool → List ℕ → List ℕ
  item_shown r later l = pick later (44 ∷ []) [] ⊕ plain_shown r l

  -- the values of a parameter, as strings
  unfoldable pub list_shown : ParameterRow → Bool → List Json → List ℕ
  list_shown r later [] = []
  list_shown r later (v ∷ vs) = pick (is_read (as_string v)) (item_shown r later (read_or [] (as_string v)) ⊕ list_shown r true vs) []

  -- the parameter n with these values
  unfoldable pub member_shown : List ℕ → List Json → List ℕ
  member_shown n vs = opening (upper n) ⊕ list_shown (row_at (place_of (upper n) parameter_names)) false vs

  unfoldable pub members_shown : List Member → List ℕ
  members_shown [] = []
  members_shown (m ∷ ms) = member_shown m.name (or_alone m.value) ⊕ members_shown ms

-- ---- what can be read

unfoldable pub is_read_by : List ℕ → List Json → Bool
is_read_by n vs = good_values Rfc6868 (row_at (place_of (upper n) parameter_names)) vs

abbrev pub is_read_member : Member → Bool
is_read_member m = is_read_by m.name (or_alone m.value)
