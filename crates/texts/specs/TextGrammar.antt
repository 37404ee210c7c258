-- TEXT and lists of it by the grammar of RFC 5545, section 3.3.11. `Text` goes a byte at a time; it reads exactly these, with this meaning (laws/TextGrammar).
--     TextChar           one of the alternatives of `text`
--     spelling, meaning  the bytes that stand for them, the characters that are meant
--     TextOf s p         s spells the text p
--     TextsOf c s ps     s spells the texts ps with the separator c between them
use Rattle.std.specs.Prelude.{◌≡◌, Bool, true, false, List, [], ◌∷◌, map, ℕ, eqb}
use Rattle.octets.specs.Pick.{pick, ◌or◌}
use Rattle.octets.specs.Append.{◌⊕◌}
use Rattle.octets.specs.Lists.{every}
use Rattle.octets.specs.Words.{joined_by}

--   text         = *(TSAFE-CHAR / ":" / DQUOTE / ESCAPED-CHAR)
--   ESCAPED-CHAR = ("\\" / "\;" / "\," / "\N" / "\n")
--     ; \\ encodes \, \N or \n encodes newline, \; encodes ;, \, encodes ,
--   TSAFE-CHAR   = any character except CONTROLs not needed by the current character set, DQUOTE, ";", ":", "\", ","

-- `safe b` is TSAFE-CHAR, ":" or DQUOTE, which stand for themselves; `escape b` is ESCAPED-CHAR, a backslash and b
pub data TextChar : Type 0 where
  safe escape : ℕ → TextChar

-- controls are refused before a value is read, in any line (utf8/specs)
abbrev pub is_text_char : TextChar → Bool
is_text_char (safe b) = pick (eqb b 59 or eqb b 92 or eqb b 44) false true
is_text_char (escape b) = eqb b 92 or eqb b 59 or eqb b 44 or eqb b 78 or eqb b 110

abbrev pub spelled : TextChar → List ℕ
spelled (safe b) = b ∷ []
spelled (escape b) = 92 ∷ b ∷ []

-- N and n are LF
abbrev pub stands_for : TextChar → ℕ
stands_for (safe b) = b
stands_for (escape b) = pick (eqb b 78 or eqb b 110) 10 b

unfoldable pub spelling : List TextChar → List ℕ
spelling [] = []
spelling (u ∷ us) = spelled u ⊕ spelling us

abbrev pub meaning : List TextChar → List ℕ
meaning us = map stands_for us

abbrev pub is_text : List TextChar → Bool
is_text us = every is_text_char us

pub record TextOf (s p : List ℕ) : Type 0 where
  pub chars : List TextChar
  pub good : is_text chars ≡ true
  pub is : s ≡ spelling chars
  pub means : p ≡ meaning chars

--   text *("," text)          CATEGORIES, RESOURCES; the parts of a REQUEST-STATUS have ";" between them
pub record TextsOf (c : ℕ) (s : List ℕ) (ps : List (List ℕ)) : Type 0 where
  pub first : List TextChar
  pub others : List (List TextChar)
  pub good : every is_text (first ∷ others) ≡ true
  pub is : s ≡ joined_by c (map spelling (first ∷ others))
  pub means : ps ≡ map meaning (first ∷ others)
