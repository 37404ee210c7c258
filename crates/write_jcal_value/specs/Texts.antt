-- Texts between bare separators written as JSON strings with commas between them, as the code writes them: a byte at a time.
--     byte_json after b      what a byte writes, whether a backslash stands open before it
--     strings_from after l   what all of them write: the strings, without the quotation marks before the first and behind the last
--     strings_of             the strings of texts
use Rattle.std.specs.Prelude.{Bool, List, [], ◌∷◌, map, ℕ, eqb}
use Rattle.octets.specs.Ascii.{ascii}
use Rattle.octets.specs.Pick.{pick}
use Rattle.octets.specs.Append.{◌⊕◌}
use Rattle.octets.specs.Words.{joined_by}
use Rattle.texts.specs.Text.{opens}
use Rattle.json_text.specs.Bytes.{value_separator}
use Rattle.json_text.specs.Write.{escaped_byte, quoted}

-- after a backslash: n and N are LF
abbrev pub meant_json : ℕ → List ℕ
meant_json b = pick (eqb b 110) (ascii "\\n") (pick (eqb b 78) (ascii "\\n") (escaped_byte b))

-- any other byte: a backslash (92) writes nothing, comma (44) and semicolon (59) end a string and begin the next
abbrev pub bare_json : ℕ → List ℕ
bare_json b = pick (eqb b 92) [] (pick (eqb b 44) (ascii "\",\"") (pick (eqb b 59) (ascii "\",\"") (escaped_byte b)))

abbrev pub byte_json : Bool → ℕ → List ℕ
byte_json after b = pick after (meant_json b) (bare_json b)

unfoldable pub strings_from : Bool → List ℕ → List ℕ
strings_from after [] = []
strings_from after (b ∷ s) = byte_json after b ⊕ strings_from (opens after b) s

abbrev pub strings_of : List (List ℕ) → List ℕ
strings_of ts = joined_by value_separator (map quoted ts)
