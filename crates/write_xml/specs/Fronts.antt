-- What stands before the components, by its pieces.
--     quoted_xml      a value between quotation marks
--     attribute_xml   a space, an attribute's name and its value
use Rattle.std.specs.Prelude.{List, ℕ}
use Rattle.octets.specs.Ascii.{ascii}
use Rattle.octets.specs.Append.{◌⊕◌}

abbrev pub quoted_xml : List ℕ → List ℕ
quoted_xml v = ascii "\"" ⊕ v ⊕ ascii "\""

abbrev pub attribute_xml : List ℕ → List ℕ → List ℕ
attribute_xml n v = ascii " " ⊕ n ⊕ ascii "=" ⊕ quoted_xml v
