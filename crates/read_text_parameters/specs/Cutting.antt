-- Parameters and values cut out of a line, in bytes as they stand.
--     cut-least                 a slice cut at its length where the cut is to be past it
--     param_cut, value_cut      a parameter, a value, by cursors;   name_cut: a name in capitals;   param_read: a parameter in an edition
use Rattle.std.specs.Prelude.{Bool, List, ℕ, take}
use Rattle.octets.specs.Class.{upper}
use Rattle.source.specs.Source.{rest}
use Rattle.read_text_line.specs.ContentLine.{ParamValue, RawParameter}
use Rattle.edition.specs.declared.Edition.{Edition}
use Rattle.read_text_line.specs.Decoded.{decoded_parameter}
use Rattle.read_text_line.specs.Cursor.{values_at}

-- ---- parameters

abbrev pub name_cut : ℕ → List ℕ → ℕ → ℕ → List ℕ
name_cut m s name end = upper (rest m (take end s) name)

abbrev pub param_cut : ℕ → List ℕ → ℕ → ℕ → ℕ → RawParameter
param_cut m s name end first = record { name = rest m (take end s) name; values = values_at m s first }

-- ---- values

abbrev pub value_cut : ℕ → List ℕ → Bool → ℕ → ℕ → ParamValue
value_cut m s quoted from to = record { quoted = quoted; chars = rest m (take to s) from }

-- ---- as an edition reads them

abbrev pub param_read : Edition → ℕ → List ℕ → ℕ → ℕ → ℕ → RawParameter
param_read ed m s name end first = decoded_parameter ed (param_cut m s name end first)
