-- The UTF-8 bytes of a code point (RFC 3629, section 3), and the code points that a reference may name.
--     spell c          the bytes of code point c
--     is_character c   a Unicode scalar value that CHARACTER does not refuse, and not CR
use Rattle.std.specs.Prelude.{Bool, List, [], ◌∷◌, ℕ, ◌+◌, ◌/◌, ◌%◌, eqb, ltb}
use Rattle.octets.specs.Pick.{pick, within, ◌or◌}

-- the tail byte with the last six bits of n
abbrev pub tail_of : ℕ → ℕ
tail_of n = 0x80 + n % 64

-- 0000 0000-0000 007F  0xxxxxxx
-- 0000 0080-0000 07FF  110xxxxx 10xxxxxx
-- 0000 0800-0000 FFFF  1110xxxx 10xxxxxx 10xxxxxx
-- 0001 0000-0010 FFFF  11110xxx 10xxxxxx 10xxxxxx 10xxxxxx
unfoldable pub spell : ℕ → List ℕ
spell c =
    pick (ltb c 0x80) (c ∷ []) (
    pick (ltb c 0x800) ((0xC0 + c / 64) ∷ tail_of c ∷ []) (
    pick (ltb c 0x10000) ((0xE0 + c / 4096) ∷ tail_of (c / 64) ∷ tail_of c ∷ [])
    ((0xF0 + c / 262144) ∷ tail_of (c / 4096) ∷ tail_of (c / 64) ∷ tail_of c ∷ [])))

-- XML 1.0's Char ::= #x9 | #xA | #xD | [#x20-#xD7FF] | [#xE000-#xFFFD] | [#x10000-#x10FFFF], without CR and U+007F
unfoldable pub is_character : ℕ → Bool
is_character c =
    within 0x20 0x7E c or eqb c 9 or eqb c 10
    or within 0x80 0xD7FF c or within 0xE000 0xFFFD c or within 0x10000 0x10FFFF c
