-- ENCODING=BASE64.
--     first_is       the characters of the first value are a word
--     is_encoded     a parameter that is ENCODING, the one of the number 6, with BASE64
use Rattle.std.specs.Prelude.{Bool, false, List, [], ◌∷◌, ℕ, eqb}
use Rattle.octets.specs.Ascii.{ascii}
use Rattle.octets.specs.Pick.{◌and◌}
use Rattle.octets.specs.Class.{upper}
use Rattle.octets.specs.Words.{same}
use Rattle.octets.specs.Reading.{read_or}
use Rattle.names.specs.Table.{place_of}
use Rattle.schema.specs.Parameters.{parameter_names}
use Rattle.json_text.specs.Tree.{Json, Member}
use Rattle.json_text.specs.Kinds.{as_string, or_alone}

unfoldable pub first_is : List ℕ → List Json → Bool
first_is w [] = false
first_is w (v ∷ vs) = same (read_or [] (as_string v)) w

-- the parameter n with these values
unfoldable pub encoded_by : List ℕ → List Json → Bool
encoded_by n vs = eqb (place_of (upper n) parameter_names) 6 and first_is (ascii "BASE64") vs

abbrev pub is_encoded : Member → Bool
is_encoded m = encoded_by m.name (or_alone m.value)
