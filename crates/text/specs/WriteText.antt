-- The canonical text of a calendar (RFC 5545, sections 3.1 and 3.4): names in capitals, VALUE first and only where it must stand, each line folded;
-- values of parameters as the edition spells them.
--     content_line_of  the content line of a property
--     write_calendar   the canonical text
use Rattle.std.specs.Prelude.{false, List, [], ◌∷◌, map, ℕ}
use Rattle.octets.specs.Ascii.{ascii}
use Rattle.octets.specs.Pick.{pick, ◌or◌}
use Rattle.octets.specs.Append.{◌⊕◌}
use Rattle.octets.specs.Reading.{read_or}
use Rattle.calendar.specs.Calendar.{ValueType, Value, text_in, Parameter, Property, Components, no_more, component}
use Rattle.schema.specs.Types.{type_name, same_type}
use Rattle.schema.specs.Properties.{default_type}
use Rattle.schema.specs.Parameters.{is_quoted_parameter}
use Rattle.texts.specs.Quoting.{needs_quotes}
use Rattle.values.specs.WriteValue.{write_value, write_values, type_of_all}
use Rattle.folding.specs.Fold.{folded_line}
use Rattle.edition.specs.declared.Edition.{Edition}
use Rattle.read_text_line.specs.ContentLine.{ParamValue, RawParameter, ContentLine}
use Rattle.read_text_line.specs.Decoded.{write_line}

-- ---- parameters

-- a parameter's value: TEXT stands as it is there, with no escapes
abbrev pub param_chars : Value → List ℕ
param_chars v = read_or (write_value v) (text_in v)

-- six parameters are always quoted, others exactly where the value holds `:`, `;` or `,`
abbrev pub param_value_of : List ℕ → Value → ParamValue
param_value_of n v = record { quoted = is_quoted_parameter n or needs_quotes (param_chars v); chars = param_chars v }

abbrev pub raw_of : Parameter → RawParameter
raw_of p = record { name = p.name; values = map (param_value_of p.name) p.values }

-- ---- VALUE

-- VALUE stands where the type is not the default of the property's name; an unrecognised property's default is `unknown`
abbrev pub value_parameter : ValueType → RawParameter
value_parameter t = record { name = ascii "VALUE"; values = record { quoted = false; chars = type_name t } ∷ [] }

unfoldable pub with_value : List ℕ → ValueType → List RawParameter → List RawParameter
with_value n t ps = pick (same_type t (default_type n)) ps (value_parameter t ∷ ps)

-- ---- lines

unfoldable pub content_line_of : Property → ContentLine
content_line_of p = record {
  name = p.name;
  parameters = with_value p.name (type_of_all p.values) (map raw_of p.parameters);
  value = write_values p.values;
}

abbrev pub property_line : Edition → Property → List ℕ
property_line ed p = folded_line (write_line ed (content_line_of p))

unfoldable pub property_lines : Edition → List Property → List ℕ
property_lines ed [] = []
property_lines ed (p ∷ ps) = property_line ed p ⊕ property_lines ed ps

abbrev pub begin_line : List ℕ → List ℕ
begin_line n = folded_line (ascii "BEGIN:" ⊕ n)

abbrev pub end_line : List ℕ → List ℕ
end_line n = folded_line (ascii "END:" ⊕ n)

-- ---- components

unfoldable pub write_calendar : Edition → Components → List ℕ
write_calendar ed no_more = []
write_calendar ed (component n ps inner next) =
    begin_line n ⊕ property_lines ed ps ⊕ write_calendar ed inner ⊕ end_line n ⊕ write_calendar ed next
