-- Computed examples of folding, unfolding and lines.
use Rattle.std.specs.Prelude.{◌≡◌, ℕ, replicate}
use Rattle.std.proofs.Math.Path.{refl}
use mathlib.Core.List.{List, [], ◌∷◌, ◌++◌, map}
use Rattle.octets.specs.Ascii.{ascii}
use Rattle.folding.specs.Unfold.{unfolded, places, origin, crlf}
use Rattle.folding.specs.Lines.{whole, loose, lines}
use Rattle.folding.specs.Fold.{folded_line}
use Rattle.folding.specs.Text.{folded_text}
use Rattle.folding.specs.Computing.{folding_compute}

-- a fold with a space, one with a TAB, a line's end; folds before the first line and after the last one; a letter in two parts; unfolding is not repeated
unfolding_once : map unfolded (
    ascii "A\r\n B\r\n\tC\r\nD\r\n" ∷
    ascii "\r\n AB\r\n\r\n " ∷
    (0xC3 ∷ 13 ∷ 10 ∷ 32 ∷ 0xA9 ∷ []) ∷
    ascii "\r\n\r\n  A" ∷
    ascii "\r\r\n \nA" ∷
    ascii "\r\r\n \n B" ∷
    ascii "A\r B\n C\r\n" ∷ [])
    ≡ (ascii "ABC\r\nD\r\n" ∷
    ascii "AB\r\n" ∷
    (0xC3 ∷ 0xA9 ∷ []) ∷
    ascii "\r\n A" ∷
    ascii "\r\nA" ∷
    ascii "\r\n B" ∷
    ascii "A\r B\n C\r\n" ∷ [])
unfolding folding_compute
unfolding_once = refl

-- the place of each kept byte, and the places asked for of a refusal: a kept byte's, and the length past the last
kept_places : map places (ascii "A\r\n B\r\n" ∷ ascii "\r\n A" ∷ ascii "\r\n " ∷ []) ≡ (0 ∷ 4 ∷ 5 ∷ 6 ∷ []) ∷ (3 ∷ []) ∷ [] ∷ []
unfolding folding_compute
kept_places = refl

origins : map (origin (ascii "\r\n A\r\n\r\n B")) (0 ∷ 1 ∷ 2 ∷ 3 ∷ 4 ∷ []) ≡ 3 ∷ 4 ∷ 5 ∷ 9 ∷ 10 ∷ []
unfolding folding_compute
origins = refl

-- whole lines, an empty one, bare CR and LF inside a line, a loose end; a text that ends with CRLF has no loose line
texts_of_lines : map lines (ascii "A\r\n\r\nBC\r\n" ∷ ascii "A\rB\nC\r\r\nD" ∷ ascii "A\r" ∷ [] ∷ [])
    ≡ (whole 0 (ascii "A") ∷ whole 3 [] ∷ whole 5 (ascii "BC") ∷ []) ∷ (whole 0 (ascii "A\rB\nC\r") ∷ loose 8 ∷ []) ∷ (loose 0 ∷ []) ∷ [] ∷ []
unfolding folding_compute
texts_of_lines = refl

-- so many letters A
abbrev letters : ℕ → List ℕ
letters n = replicate n 65

-- 75 octets stay whole; 76 give 75, then a space and 1; 149 fill two lines, 150 begin a third
folded_octets : map folded_line ([] ∷ letters 75 ∷ letters 76 ∷ letters 149 ∷ letters 150 ∷ [])
    ≡ crlf
    ∷ (letters 75 ++ crlf)
    ∷ (letters 75 ++ ascii "\r\n A\r\n")
    ∷ (letters 75 ++ ascii "\r\n " ++ letters 74 ++ crlf)
    ∷ (letters 75 ++ ascii "\r\n " ++ letters 74 ++ ascii "\r\n A\r\n") ∷ []
unfolding folding_compute
folded_octets = refl

-- a character is not parted: after 74, 73 and 72 octets one of two, three and four octets goes to the next line, after one octet less it stays
folded_characters : map folded_line ((letters 74 ++ (0xC3 ∷ 0xA9 ∷ [])) ∷ (letters 73 ++ (0xC3 ∷ 0xA9 ∷ 65 ∷ [])) ∷
    (letters 73 ++ (0xE2 ∷ 0x82 ∷ 0xAC ∷ [])) ∷ (letters 72 ++ (0xF0 ∷ 0x9F ∷ 0x98 ∷ 0x80 ∷ [])) ∷ (letters 71 ++ (0xF0 ∷ 0x9F ∷ 0x98 ∷ 0x80 ∷ [])) ∷ [])
    ≡ (letters 74 ++ ascii "\r\n " ++ (0xC3 ∷ 0xA9 ∷ 13 ∷ 10 ∷ []))
    ∷ (letters 73 ++ (0xC3 ∷ 0xA9 ∷ []) ++ ascii "\r\n A\r\n")
    ∷ (letters 73 ++ ascii "\r\n " ++ (0xE2 ∷ 0x82 ∷ 0xAC ∷ 13 ∷ 10 ∷ []))
    ∷ (letters 72 ++ ascii "\r\n " ++ (0xF0 ∷ 0x9F ∷ 0x98 ∷ 0x80 ∷ 13 ∷ 10 ∷ []))
    ∷ (letters 71 ++ (0xF0 ∷ 0x9F ∷ 0x98 ∷ 0x80 ∷ 13 ∷ 10 ∷ [])) ∷ []
unfolding folding_compute
folded_characters = refl

-- written and unfolded, a line is itself and CRLF; a text of 6000 octets is unfolded and parted into lines
back : map (λ l. unfolded (folded_line l)) (letters 200 ∷ (letters 74 ++ (0xC3 ∷ 0xA9 ∷ [])) ∷ []) ≡ (letters 200 ++ crlf) ∷ (letters 74 ++ (0xC3 ∷ 0xA9 ∷ 13 ∷ 10 ∷ [])) ∷ []
unfolding folding_compute
back = refl

large : map lines (unfolded (folded_text (letters 3000 ∷ letters 3000 ∷ [])) ∷ []) ≡ (whole 0 (letters 3000) ∷ whole 3002 (letters 3000) ∷ []) ∷ []
unfolding folding_compute
large = refl
