-- TEXT of RFC 5545, section 3.3.11, as iCalendar text writes it, and the one splitter of escaped text that serves single TEXT, lists of TEXT (TextList)
-- and REQUEST-STATUS (RequestStatus). In xCal a TEXT is the element's characters as they stand.
--     split_text c s   the unescaped texts between bare separators c (44 comma, 59 semicolon, 0 none); a bare comma or semicolon that is not c is a fault
--     read_text s      one TEXT, unescaped
--     write_text s     escaped
-- It goes a byte at a time, as the code does. TextGrammar says the same as the RFC does.
use Rattle.std.specs.Prelude.{Bool, false, List, [], ◌∷◌, ℕ, eqb, Option, None, Some}
use Rattle.octets.specs.Pick.{pick, ◌or◌}
use Rattle.octets.specs.Append.{◌⊕◌}
use Rattle.octets.specs.Words.{onto}
use Rattle.octets.specs.Reading.{and_then, cons_read}

--   text         = *(TSAFE-CHAR / ":" / DQUOTE / ESCAPED-CHAR)
--   ESCAPED-CHAR = ("\\" / "\;" / "\," / "\N" / "\n")
--     ; \\ encodes \, \N or \n encodes newline, \; encodes ;, \, encodes ,
--   TSAFE-CHAR   = any character except CONTROLs not needed by the current character set, DQUOTE, ";", ":", "\", ","

-- what a byte is in escaped text: a character of the text, a backslash that opens an escape, a separator, or against the grammar
pub data Sign : Type 0 where
  char : ℕ → Sign
  opening separator fault : Sign

-- comma or semicolon
abbrev pub is_break : ℕ → Bool
is_break b = eqb b 44 or eqb b 59

-- a character that is written with a backslash before it: comma, semicolon, backslash
abbrev pub is_escaped : ℕ → Bool
is_escaped b = is_break b or eqb b 92

-- the byte after a backslash: n and N are LF
abbrev pub escaped_sign : ℕ → Sign
escaped_sign b = pick (eqb b 110 or eqb b 78) (char 10) (pick (is_escaped b) (char b) fault)

-- any other byte, where c separates
abbrev pub bare_sign : ℕ → ℕ → Sign
bare_sign c b = pick (eqb b 92) opening (pick (is_break b) (pick (eqb b c) separator fault) (char b))

-- the sign of b: whether a backslash stands open before it, and the separator
abbrev pub sign_of : Bool → ℕ → ℕ → Sign
sign_of after c b = pick after (escaped_sign b) (bare_sign c b)

-- whether a backslash stands open after b
abbrev pub opens : Bool → ℕ → Bool
opens after b = pick after false (eqb b 92)

-- one byte more in the first piece
unfoldable pub onto_read : ℕ → Option (List (List ℕ)) → Option (List (List ℕ))
onto_read b None = None
onto_read b (Some ps) = Some (onto b ps)

-- the pieces that follow a sign, with what it adds
abbrev pub with_sign : Sign → Option (List (List ℕ)) → Option (List (List ℕ))
with_sign (char b) ps = onto_read b ps
with_sign opening ps = ps
with_sign separator ps = cons_read [] ps
with_sign fault ps = None

unfoldable pub split_from : Bool → ℕ → List ℕ → Option (List (List ℕ))
split_from after c [] = pick after None (Some ([] ∷ []))
split_from after c (b ∷ s) = with_sign (sign_of after c b) (split_from (opens after b) c s)

abbrev pub split_text : ℕ → List ℕ → Option (List (List ℕ))
split_text c s = split_from false c s

-- the only one of a list
abbrev pub with_none : List ℕ → List (List ℕ) → Option (List ℕ)
with_none p [] = Some p
with_none p (q ∷ ps) = None

abbrev pub alone : List (List ℕ) → Option (List ℕ)
alone [] = None
alone (p ∷ ps) = with_none p ps

abbrev pub read_text : List ℕ → Option (List ℕ)
read_text s = and_then (split_text 0 s) alone

-- a character escaped
abbrev pub escape_text : ℕ → List ℕ
escape_text b = pick (eqb b 10) (92 ∷ 110 ∷ []) (pick (is_escaped b) (92 ∷ b ∷ []) (b ∷ []))

unfoldable pub write_text : List ℕ → List ℕ
write_text [] = []
write_text (b ∷ s) = escape_text b ⊕ write_text s

-- ---- what is written is read back

-- the bytes of p in the first piece
unfoldable pub front_read : List ℕ → Option (List (List ℕ)) → Option (List (List ℕ))
front_read [] ps = ps
front_read (b ∷ p) ps = onto_read b (front_read p ps)
