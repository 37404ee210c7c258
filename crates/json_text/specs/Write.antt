-- JSON written (RFC 8259), with no white space, and with escapes for quotation mark, reverse solidus, LF and TAB alone.
--     quoted               a string
--     array_of, object_of  an array of written values, an object of written members;   member_of: a member
use Rattle.std.specs.Prelude.{List, [], ◌∷◌, ℕ, eqb}
use Rattle.octets.specs.Ascii.{ascii}
use Rattle.octets.specs.Pick.{pick}
use Rattle.octets.specs.Append.{◌⊕◌}
use Rattle.octets.specs.Words.{joined_by}
use Rattle.json_text.specs.Bytes.{quotation_mark, escape, value_separator}

-- section 7; 10 is LF, 9 TAB
abbrev pub escaped_byte : ℕ → List ℕ
escaped_byte b =
    pick (eqb b quotation_mark) (ascii "\\\"")
    (pick (eqb b escape) (ascii "\\\\")
    (pick (eqb b 10) (ascii "\\n")
    (pick (eqb b 9) (ascii "\\t") (b ∷ []))))

unfoldable pub escaped : List ℕ → List ℕ
escaped [] = []
escaped (b ∷ s) = escaped_byte b ⊕ escaped s

abbrev pub quoted : List ℕ → List ℕ
quoted s = ascii "\"" ⊕ escaped s ⊕ ascii "\""

-- section 5
abbrev pub array_of : List (List ℕ) → List ℕ
array_of vs = ascii "[" ⊕ joined_by value_separator vs ⊕ ascii "]"

-- section 4
abbrev pub member_of : List ℕ → List ℕ → List ℕ
member_of n v = quoted n ⊕ ascii ":" ⊕ v

abbrev pub object_of : List (List ℕ) → List ℕ
object_of ms = ascii "{" ⊕ joined_by value_separator ms ⊕ ascii "}"
