-- BINARY by the grammar of RFC 5545, section 3.3.1, group by group. `Binary` goes a character at a time; it accepts exactly these (laws/BinaryGrammar).
--     is_binary_grammar s   groups of four characters, and perhaps a last group that is filled up with `=`
use Rattle.std.specs.Prelude.{Bool, true, false, List, [], ◌∷◌, ℕ, ◌%◌, eqb}
use Rattle.octets.specs.Pick.{◌and◌, ◌or◌}
use Rattle.octets.specs.Words.{is_empty}
use Rattle.texts.specs.Binary.{is_base64_char, base64_value}

--   binary = *(4b-char) [b-end]
--   b-end  = (2b-char "==") / (3b-char "=")
--   b-char = ALPHA / DIGIT / "+" / "/"

-- 4b-char
abbrev pub is_group : ℕ → ℕ → ℕ → ℕ → Bool
is_group a b c d = is_base64_char a and is_base64_char b and is_base64_char c and is_base64_char d

-- 2b-char "==", one byte: of the second character the last four bits are over, and zero
abbrev pub is_byte : ℕ → ℕ → ℕ → ℕ → Bool
is_byte a b c d = is_base64_char a and is_base64_char b and eqb c 61 and eqb d 61 and eqb (base64_value b % 16) 0

-- 3b-char "=", two bytes: of the third character the last two bits are over, and zero
abbrev pub is_pair : ℕ → ℕ → ℕ → ℕ → Bool
is_pair a b c d = is_base64_char a and is_base64_char b and is_base64_char c and eqb d 61 and eqb (base64_value c % 4) 0

-- b-end
abbrev pub is_end : ℕ → ℕ → ℕ → ℕ → Bool
is_end a b c d = is_byte a b c d or is_pair a b c d

-- binary: a group and what follows it, or the last group and nothing behind it
unfoldable pub is_binary_grammar : List ℕ → Bool
is_binary_grammar [] = true
is_binary_grammar (a ∷ []) = false
is_binary_grammar (a ∷ b ∷ []) = false
is_binary_grammar (a ∷ b ∷ c ∷ []) = false
is_binary_grammar (a ∷ b ∷ c ∷ d ∷ s) = (is_group a b c d and is_binary_grammar s) or (is_end a b c d and is_empty s)
