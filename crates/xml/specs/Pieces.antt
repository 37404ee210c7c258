-- Pieces of markup: how many bytes at the front of a list are such a piece, if one stands there. XML 1.0's productions are written with them.
--     from                   what is left after so many bytes
--     first                  the first byte, 256 where there is none
--     exactly                given bytes;   in_any_case: given bytes, their letters in any case
--     some_space, any_space  white space, at least one byte or also none
--     xml_name               a name: ASCII letters, digits, hyphens, beginning with a letter (the rules, "XML profile for reading")
--     ◌then◌                 one piece and another after it
--     quoted                 a piece between two quotes of one kind
--     equals_sign            an equals sign, with white space round it
use Rattle.std.specs.Prelude.{List, [], ◌∷◌, ℕ, ◌+◌, ltb, length, get_or, take, drop, Option, None, Some}
use Rattle.octets.specs.Ascii.{ascii}
use Rattle.octets.specs.Pick.{pick}
use Rattle.octets.specs.Scan.{span_len}
use Rattle.octets.specs.Class.{is_alpha, is_name_char, is_space, lower}
use Rattle.octets.specs.Words.{same, starts}
use Rattle.octets.specs.Reading.{provided, and_then}

unfoldable pub from : ℕ → List ℕ → List ℕ
from n xs = drop n xs

unfoldable pub first : List ℕ → ℕ
first xs = get_or xs 0 256

abbrev pub Piece : Type 0
Piece = List ℕ → Option ℕ

unfoldable pub exactly : List ℕ → Piece
exactly w xs = provided (starts w xs) (length w)

-- w is given in small letters
unfoldable pub in_any_case : List ℕ → Piece
in_any_case w xs = provided (same (lower (take (length w) xs)) w) (length w)

-- S ::= (#x20 | #x9 | #xD | #xA)+
unfoldable pub some_space : Piece
some_space xs = provided (ltb 0 (span_len is_space xs)) (span_len is_space xs)

unfoldable pub any_space : Piece
any_space xs = Some (span_len is_space xs)

unfoldable pub xml_name : Piece
xml_name xs = provided (is_alpha (first xs)) (span_len is_name_char xs)

-- the bytes of the name at the front
unfoldable pub name_of : List ℕ → List ℕ
name_of xs = take (span_len is_name_char xs) xs

-- the sum of what two pieces take
unfoldable pub both : ℕ → Option ℕ → Option ℕ
both n None = None
both n (Some m) = Some (n + m)

infixr 45 ◌then◌
unfoldable pub ◌then◌ : Piece → Piece → Piece
(a then b) xs = and_then (a xs) (λ n. both n (b (from n xs)))

-- Eq ::= S? '=' S?
unfoldable pub equals_sign : Piece
equals_sign = any_space then exactly (ascii "=") then any_space

-- between quotation marks, or between apostrophes
unfoldable pub quoted : Piece → Piece
quoted a xs = pick (starts (34 ∷ []) xs) ((exactly (34 ∷ []) then a then exactly (34 ∷ [])) xs) ((exactly (39 ∷ []) then a then exactly (39 ∷ [])) xs)
