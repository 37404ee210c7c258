-- Names of properties, parameters and components that can be carried (refusal 5): a name becomes an XML element's, so it may not begin with a digit, a hyphen or XML.
--     is_carried_name       in any letter case
--     is_component_name     the name of a component is the value of its BEGIN, so that its characters are judged too
use Rattle.std.specs.Prelude.{Bool, true, false, List, [], ◌∷◌, ℕ, eqb}
use Rattle.octets.specs.Ascii.{ascii}
use Rattle.octets.specs.Pick.{pick, ◌and◌, ◌or◌}
use Rattle.octets.specs.Class.{is_digit, upper}
use Rattle.octets.specs.Words.{starts}
use Rattle.read_text_line.specs.ContentLine.{is_name}

-- a digit or a hyphen at the front
unfoldable pub starts_off_name : List ℕ → Bool
starts_off_name [] = false
starts_off_name (b ∷ n) = is_digit b or eqb b 45

unfoldable pub is_carried_name : List ℕ → Bool
is_carried_name n = pick (starts_off_name n or starts (ascii "XML") (upper n)) false true

abbrev pub is_component_name : List ℕ → Bool
is_component_name n = is_name n and is_carried_name n
