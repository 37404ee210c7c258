-- The token at the front of a list of bytes (XML 1.0, sections 2.4, 2.11, 3.1, 4.1, as the rules' "XML profile for reading" narrows them).
--     Token       the kinds of tokens, each with how many bytes it takes after its first
--     token b s   the token that begins with the byte b, s being the bytes after b, in the content of an element or after the root
--     root_tag b s the same where the root's tag has to stand: it alone has an attribute, the default namespace
--     namespace   the name of the default namespace
use Rattle.std.specs.Prelude.{Bool, List, [], ◌∷◌, ℕ, ◌+◌, ◌-◌, ◌*◌, eqb, ltb, take, Option, None, Some}
use Rattle.octets.specs.Ascii.{ascii}
use Rattle.octets.specs.Pick.{pick, ◌and◌, ◌or◌, within}
use Rattle.octets.specs.Scan.{span_len}
use Rattle.octets.specs.Class.{is_digit}
use Rattle.octets.specs.Words.{starts}
use Rattle.octets.specs.Decimal.{value}
use Rattle.utf8.specs.Spell.{is_character}
use Rattle.xml.specs.Pieces.{from, Piece, exactly, some_space, any_space, xml_name, name_of, ◌then◌, quoted, equals_sign}

pub data Token : Type 0 where
  s_tag : List ℕ → ℕ → Token  -- a start tag's name
  empty_elem_tag : List ℕ → ℕ → Token  -- an empty tag's name
  e_tag : List ℕ → ℕ → Token  -- an end tag's name
  char_byte : ℕ → ℕ → Token  -- a byte of a literal character
  reference_to : ℕ → ℕ → Token  -- the code point that a reference names
  no_token : Token  -- none of these

-- ---- tags

abbrev pub namespace : List ℕ
namespace = ascii "urn:ietf:params:xml:ns:icalendar-2.0"

-- S Attribute, Attribute ::= Name Eq AttValue: the default namespace, compared literally
unfoldable pub namespace_attribute : Piece
namespace_attribute = some_space then exactly (ascii "xmlns") then equals_sign then quoted (exactly namespace)

-- after `<`, of which n bytes are the tag up to its `>` or `/>`
-- STag ::= '<' Name (S Attribute)* S? '>'
-- EmptyElemTag ::= '<' Name (S Attribute)* S? '/>'
unfoldable pub start_by : Option ℕ → List ℕ → Token
start_by None s = no_token
start_by (Some n) s =
    pick (starts (ascii ">") (from n s)) (s_tag (name_of s) (n + 1))
    (pick (starts (ascii "/>") (from n s)) (empty_elem_tag (name_of s) (n + 2)) no_token)

-- after `</`, of which n bytes are the rest of the tag
-- ETag ::= '</' Name S? '>'
unfoldable pub end_by : Option ℕ → List ℕ → Token
end_by None s = no_token
end_by (Some n) s = e_tag (name_of s) (n + 1)

-- after `<`, in the content
unfoldable pub tag : List ℕ → Token
tag s =
    pick (starts (ascii "/") s) (end_by ((xml_name then any_space then exactly (ascii ">")) (from 1 s)) (from 1 s))
    (start_by ((xml_name then any_space) s) s)

unfoldable pub root_tag : ℕ → List ℕ → Token
root_tag b s = pick (eqb b 60) (start_by ((xml_name then namespace_attribute then any_space) s) s) no_token

-- ---- references

-- [0-9a-fA-F]
abbrev pub is_hex_digit : ℕ → Bool
is_hex_digit b = is_digit b or within 97 102 b or within 65 70 b

abbrev pub hex_digit_of : ℕ → ℕ
hex_digit_of b = pick (is_digit b) (b - 48) (pick (within 97 102 b) (b - 87) (b - 55))

-- what hexadecimal digits are worth after digits that are worth n
unfoldable pub hex_value : ℕ → List ℕ → ℕ
hex_value n [] = n
hex_value n (b ∷ s) = hex_value (n * 16 + hex_digit_of b) s

-- after `&#` or `&#x`, which take k bytes after the first: d digits, worth v, and a semicolon
unfoldable pub char_ref : ℕ → ℕ → ℕ → List ℕ → Token
char_ref k d v s = pick (ltb 0 d and starts (ascii ";") (from d s) and is_character v) (reference_to v (k + d + 1)) no_token

-- after `&`
-- EntityRef ::= '&' Name ';', of the five entities of section 4.6
abbrev pub entity_ref : List ℕ → Token
entity_ref s =
    pick (starts (ascii "amp;") s) (reference_to 38 4)
    (pick (starts (ascii "lt;") s) (reference_to 60 3)
    (pick (starts (ascii "gt;") s) (reference_to 62 3)
    (pick (starts (ascii "apos;") s) (reference_to 39 5)
    (pick (starts (ascii "quot;") s) (reference_to 34 5) no_token))))

-- CharRef ::= '&#' [0-9]+ ';' | '&#x' [0-9a-fA-F]+ ';'
unfoldable pub reference : List ℕ → Token
reference s =
    pick (starts (ascii "#x") s) (let r = from 2 s in let d = span_len is_hex_digit r in char_ref 2 d (hex_value 0 (take d r)) r)
    (pick (starts (ascii "#") s) (let r = from 1 s in let d = span_len is_digit r in char_ref 1 d (value 0 (take d r)) r)
    (entity_ref s))

-- ---- characters

-- CharData ::= [^<&]* - ([^<&]* ']]>' [^<&]*)
-- section 2.11: CR LF, and a CR with no LF after it, are read as LF
unfoldable pub literal_byte : ℕ → List ℕ → Token
literal_byte b s =
    pick (eqb b 13) (pick (starts (10 ∷ []) s) (char_byte 10 1) (char_byte 10 0))
    (pick (eqb b 93 and starts (ascii "]>") s) no_token (char_byte b 0))

unfoldable pub token : ℕ → List ℕ → Token
token b s = pick (eqb b 60) (tag s) (pick (eqb b 38) (reference s) (literal_byte b s))
