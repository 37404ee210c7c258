-- The values of a parameter as text.
--     value_shown             one value, by its characters
--     item_shown, list_shown  a value with a comma before it where it is a later one; all values
--     values_shown            the same, or nothing where they can't be read
use Rattle.std.specs.Prelude.{Bool, true, List, [], ◌∷◌, map, ℕ}
use Rattle.octets.specs.Pick.{pick, ◌or◌}
use Rattle.octets.specs.Append.{◌⊕◌}
use Rattle.octets.specs.Words.{joined_by}
use Rattle.octets.specs.Reading.{read_or, or_nothing}
use Rattle.calendar.specs.Calendar.{ical, xcal, BOOLEAN, Value}
use Rattle.numbers.specs.Boolean.{read_boolean, write_boolean}
use Rattle.texts.specs.Quoting.{needs_quotes}
use Rattle.schema.specs.Types.{same_type}
use Rattle.schema.specs.Parameters.{ParameterRow}
use Rattle.read_text_line.specs.ContentLine.{ParamValue}
use Rattle.read_text_line.specs.Write.{write_param_value}
use Rattle.read_text_line.specs.Decoded.{encoded_value}
use Rattle.text.specs.WriteText.{param_chars}
use Rattle.xml.specs.Nodes.{Nodes, no_nodes, element, literal, referred, characters_of}
use Rattle.edition.specs.declared.Edition.{Edition}
use Rattle.read_xml_parameters.specs.Rows.{row_at, read_leaves}

-- ---- one value

-- the text of a value of the parameter that has the row r
abbrev pub row_value : ParameterRow → Value → ParamValue
row_value r v = record { quoted = r.quoted or needs_quotes (param_chars v); chars = param_chars v }

-- TRUE or FALSE
unfoldable pub truth_shown : List ℕ → List ℕ
truth_shown l = or_nothing (write_boolean ical) (read_boolean xcal l)

-- ---- for code

-- whether a value stands between quotes
unfoldable pub quoted_at : ℕ → List ℕ → Bool
quoted_at q l = (row_at q).quoted or needs_quotes l

module _ (ed : Edition) where
  abbrev pub plain_shown : Bool → List ℕ → List ℕ
  plain_shown always l = write_param_value (encoded_value ed (record { quoted = always or needs_quotes l; chars = l }))

  unfoldable pub value_shown : ParameterRow → List ℕ → List ℕ
  value_shown r l = pick (same_type r.type BOOLEAN) (truth_shown l) (plain_shown r.quoted l)

  -- ---- all values

  unfoldable pub item_shown : ParameterRow → Bool → List ℕ → List ℕ
  item_shown r later l = pick later (44 ∷ []) [] ⊕ value_shown r l

  unfoldable pub list_shown : ParameterRow → Bool → Nodes → List ℕ
  list_shown r later no_nodes = []
  list_shown r later (literal p b more) = list_shown r later more
  list_shown r later (referred p bs more) = list_shown r later more
  list_shown r later (element p m x kids more) = item_shown r later (characters_of kids) ⊕ list_shown r true more

  abbrev pub texts : ParameterRow → List Value → List (List ℕ)
  texts r vs = map write_param_value (map (encoded_value ed) (map (row_value r) vs))

  unfoldable pub values_shown : ParameterRow → Nodes → List ℕ
  values_shown r kids = joined_by 44 (texts r (read_or [] (read_leaves r kids)))
