-- A content line in an edition: the values of its parameters are decoded when it is read, and encoded when it is written (RFC 6868, section 3).
--     read_line ed s     the line that these bytes are in an edition
--     values_in, params_in parameters and their values, read through a cursor
--     write_line ed l    a line written in an edition
use Rattle.std.specs.Prelude.{List, map, ℕ, Option, option_map}
use Rattle.edition.specs.Edition.{decode, encode}
use Rattle.edition.specs.declared.Edition.{Edition}
use Rattle.read_text_line.specs.ContentLine.{ParamValue, RawParameter, ContentLine, content_line}
use Rattle.read_text_line.specs.Cursor.{values_at, params_at}
use Rattle.read_text_line.specs.Write.{write_content_line}

-- ---- reading

abbrev pub decoded_value : Edition → ParamValue → ParamValue
decoded_value ed v = record { quoted = v.quoted; chars = decode ed v.chars }

abbrev pub decoded_parameter : Edition → RawParameter → RawParameter
decoded_parameter ed p = record { name = p.name; values = map (decoded_value ed) p.values }

abbrev pub decoded_line : Edition → ContentLine → ContentLine
decoded_line ed l = record { name = l.name; parameters = map (decoded_parameter ed) l.parameters; value = l.value }

abbrev pub read_line : Edition → List ℕ → Option ContentLine
read_line ed s = option_map (decoded_line ed) (content_line s)

-- by cursors: the values of a parameter from its first on, the parameters of a line
abbrev pub values_in : Edition → ℕ → List ℕ → ℕ → List ParamValue
values_in ed m s c = map (decoded_value ed) (values_at m s c)

abbrev pub params_in : Edition → ℕ → List ℕ → ℕ → List RawParameter
params_in ed m s c = map (decoded_parameter ed) (params_at m s c)

-- ---- writing

abbrev pub encoded_value : Edition → ParamValue → ParamValue
encoded_value ed v = record { quoted = v.quoted; chars = encode ed v.chars }

abbrev pub encoded_parameter : Edition → RawParameter → RawParameter
encoded_parameter ed p = record { name = p.name; values = map (encoded_value ed) p.values }

abbrev pub encoded_line : Edition → ContentLine → ContentLine
encoded_line ed l = record { name = l.name; parameters = map (encoded_parameter ed) l.parameters; value = l.value }

abbrev pub write_line : Edition → ContentLine → List ℕ
write_line ed l = write_content_line (encoded_line ed l)
