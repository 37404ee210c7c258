-- The editions of iCalendar text, and the values of parameters in them. Edition 0 is RFC 5545 alone: a value stands as it is. Edition 1 has the carets of
-- RFC 6868, section 3:
--   o  the character sequence ^n (U+005E, U+006E) is decoded into an appropriate formatted line break
--   o  the character sequence ^^ (U+005E, U+005E) is decoded into the ^ character (U+005E)
--   o  the character sequence ^' (U+005E, U+0027) is decoded into the " character (U+0022)
--   o  if a ^ (U+005E) character is followed by any character other than the ones above, parsers MUST leave both the ^ and the following character in place
--     edition_of       the edition that a number names;   edition_number: its number
--     decode e s       the value that s spells;   encode e s: a value spelled
use Rattle.std.specs.Prelude.{Bool, true, false, List, [], ◌∷◌, ℕ, eqb, Option, None, Some}
use Rattle.octets.specs.Pick.{pick, ◌or◌}
use Rattle.octets.specs.Append.{◌⊕◌}
use Rattle.edition.specs.declared.Edition.{Edition}
use Rattle.edition.specs.declared.Edition.TheVariants.{Rfc5545, Rfc6868}

-- ---- the editions by number

abbrev pub edition_of : ℕ → Option Edition
edition_of n = pick (eqb n 0) (Some Rfc5545) (pick (eqb n 1) (Some Rfc6868) None)

abbrev pub edition_number : Edition → ℕ
edition_number Rfc5545 = 0
edition_number Rfc6868 = 1

-- ---- carets

-- a letter behind a caret: n, ' and ^
abbrev pub is_letter : ℕ → Bool
is_letter b = eqb b 110 or eqb b 39 or eqb b 94

-- the character that it means: LF, a double quote, a caret
abbrev pub meant : ℕ → ℕ
meant b = pick (eqb b 110) 10 (pick (eqb b 39) 34 94)

-- a value whose caret, if one stands open before it, is to be decoded with what follows
unfoldable pub decoding : List ℕ → Bool → List ℕ
decoding [] false = []
decoding [] true = 94 ∷ []
decoding (b ∷ s) false = pick (eqb b 94) (decoding s true) (b ∷ decoding s false)
decoding (b ∷ s) true = pick (is_letter b) (meant b ∷ decoding s false) (94 ∷ b ∷ decoding s false)

-- a character encoded
abbrev pub encode_byte : ℕ → List ℕ
encode_byte b = pick (eqb b 10) (94 ∷ 110 ∷ []) (pick (eqb b 34) (94 ∷ 39 ∷ []) (pick (eqb b 94) (94 ∷ 94 ∷ []) (b ∷ [])))

unfoldable pub encoding : List ℕ → List ℕ
encoding [] = []
encoding (b ∷ s) = encode_byte b ⊕ encoding s

-- ---- values of parameters

unfoldable pub decode : Edition → List ℕ → List ℕ
decode Rfc5545 s = s
decode Rfc6868 s = decoding s false

unfoldable pub encode : Edition → List ℕ → List ℕ
encode Rfc5545 s = s
encode Rfc6868 s = encoding s
