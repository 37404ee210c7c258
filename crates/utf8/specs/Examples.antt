-- Computed examples of the character check and of spelling.
use Rattle.std.specs.Prelude.{◌≡◌, refl, true, false, [], ◌∷◌, map, None, Some}
use Rattle.octets.specs.Ascii.{ascii}
use Rattle.utf8.specs.Utf8.{first_bad}
use Rattle.utf8.specs.Spell.{spell, is_character}
use Rattle.utf8.specs.Computing.{utf8_compute}

-- ASCII with TAB, CR, LF; U+00E9, U+20AC, U+1F600; U+0080, U+FEFF, U+FFFD; the last before and the first after the surrogates; the first and the last of each length
allowed : map first_bad (
    [] ∷ ascii "a\tb\r\n" ∷
    (0xC3 ∷ 0xA9 ∷ 0xE2 ∷ 0x82 ∷ 0xAC ∷ 0xF0 ∷ 0x9F ∷ 0x98 ∷ 0x80 ∷ []) ∷
    (0xC2 ∷ 0x80 ∷ 0xEF ∷ 0xBB ∷ 0xBF ∷ 0xEF ∷ 0xBF ∷ 0xBD ∷ []) ∷
    (0xED ∷ 0x9F ∷ 0xBF ∷ 0xEE ∷ 0x80 ∷ 0x80 ∷ []) ∷
    (0xDF ∷ 0xBF ∷ 0xE0 ∷ 0xA0 ∷ 0x80 ∷ 0xF0 ∷ 0x90 ∷ 0x80 ∷ 0x80 ∷ 0xF4 ∷ 0x8F ∷ 0xBF ∷ 0xBF ∷ []) ∷
    (0xF0 ∷ 0x9F ∷ 0xBF ∷ 0xBF ∷ 0xEF ∷ 0xBE ∷ 0xBF ∷ []) ∷ [])
    ≡ None ∷ None ∷ None ∷ None ∷ None ∷ None ∷ None ∷ []
unfolding utf8_compute
allowed = refl

-- NUL, US, DEL; U+FFFE, U+FFFF
forbidden : map first_bad ((97 ∷ 0 ∷ []) ∷ (97 ∷ 98 ∷ 0x1F ∷ []) ∷ (0x7F ∷ []) ∷ (97 ∷ 0xEF ∷ 0xBF ∷ 0xBE ∷ []) ∷ (0xC3 ∷ 0xA9 ∷ 0xEF ∷ 0xBF ∷ 0xBF ∷ []) ∷ [])
    ≡ Some 1 ∷ Some 2 ∷ Some 0 ∷ Some 1 ∷ Some 2 ∷ []
unfolding utf8_compute
forbidden = refl

-- a tail byte alone; cut off by the end, and by another character; overlong; a surrogate; past U+10FFFF; a lead byte of older forms
ill_formed : map first_bad (
    (97 ∷ 0x80 ∷ []) ∷ (97 ∷ 0xE2 ∷ 0x82 ∷ []) ∷ (0xE2 ∷ 0x82 ∷ 97 ∷ []) ∷
    (0xC0 ∷ 0x80 ∷ []) ∷ (0xC1 ∷ 0xBF ∷ []) ∷ (97 ∷ 0xE0 ∷ 0x9F ∷ 0xBF ∷ []) ∷ (0xF0 ∷ 0x8F ∷ 0xBF ∷ 0xBF ∷ []) ∷
    (0xED ∷ 0xA0 ∷ 0x80 ∷ []) ∷ (0xF4 ∷ 0x90 ∷ 0x80 ∷ 0x80 ∷ []) ∷ (97 ∷ 98 ∷ 0xF5 ∷ 0x80 ∷ 0x80 ∷ 0x80 ∷ []) ∷ (0xC3 ∷ 0xC3 ∷ 0xA9 ∷ []) ∷ [])
    ≡ Some 1 ∷ Some 1 ∷ Some 0 ∷ Some 0 ∷ Some 0 ∷ Some 1 ∷ Some 0 ∷ Some 0 ∷ Some 0 ∷ Some 2 ∷ Some 0 ∷ []
unfolding utf8_compute
ill_formed = refl

spellings : map spell (0x41 ∷ 0x7F ∷ 0x80 ∷ 0xE9 ∷ 0x7FF ∷ 0x800 ∷ 0x20AC ∷ 0xFFFD ∷ 0x10000 ∷ 0x1F600 ∷ 0x10FFFF ∷ [])
    ≡ (0x41 ∷ []) ∷ (0x7F ∷ []) ∷ (0xC2 ∷ 0x80 ∷ []) ∷ (0xC3 ∷ 0xA9 ∷ []) ∷ (0xDF ∷ 0xBF ∷ []) ∷ (0xE0 ∷ 0xA0 ∷ 0x80 ∷ []) ∷ (0xE2 ∷ 0x82 ∷ 0xAC ∷ [])
    ∷ (0xEF ∷ 0xBF ∷ 0xBD ∷ []) ∷ (0xF0 ∷ 0x90 ∷ 0x80 ∷ 0x80 ∷ []) ∷ (0xF0 ∷ 0x9F ∷ 0x98 ∷ 0x80 ∷ []) ∷ (0xF4 ∷ 0x8F ∷ 0xBF ∷ 0xBF ∷ []) ∷ []
unfolding utf8_compute
spellings = refl

-- TAB, LF, space, tilde, U+0080, the ends round the surrogates, U+FFFD, U+10000, U+10FFFF
characters : map is_character (9 ∷ 10 ∷ 32 ∷ 126 ∷ 0x80 ∷ 0xD7FF ∷ 0xE000 ∷ 0xFEFF ∷ 0xFFFD ∷ 0x10000 ∷ 0x1FFFF ∷ 0x10FFFF ∷ [])
    ≡ true ∷ true ∷ true ∷ true ∷ true ∷ true ∷ true ∷ true ∷ true ∷ true ∷ true ∷ true ∷ []
unfolding utf8_compute
characters = refl

-- NUL, CR, US, DEL, surrogates, U+FFFE, U+FFFF, past U+10FFFF
no_characters : map is_character (0 ∷ 8 ∷ 11 ∷ 13 ∷ 31 ∷ 127 ∷ 0xD800 ∷ 0xDFFF ∷ 0xFFFE ∷ 0xFFFF ∷ 0x110000 ∷ [])
    ≡ false ∷ false ∷ false ∷ false ∷ false ∷ false ∷ false ∷ false ∷ false ∷ false ∷ false ∷ []
unfolding utf8_compute
no_characters = refl
