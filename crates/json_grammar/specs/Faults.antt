-- What is told of the place of a fault (laws/Places).
--     InDigits most s k     k stands among the digits of an escape, which can name nothing any more that they may
--     Stops most s k        what tells the fault at k: the byte there, a byte behind the escape that begins there, or the end of the text
use Rattle.std.specs.Prelude.{◌≡◌, List, [], ◌∷◌, ℕ, ◌+◌, ◌-◌, ◌≤◌, ◌<◌, length, take, drop, None, Some}
use Rattle.octets.specs.Append.{◌⊕◌}
use Rattle.json_text.specs.Bytes.{escape, letter_u}
use Rattle.json_text.specs.Check.{verdict}
use Rattle.json_grammar.specs.Grammar.{Byte, spelled_bytes, is_hexdig, GrammarText}

pub record InDigits (most : ℕ) (s : List ℕ) (k : ℕ) : Type 0 where
  -- the escape, and its digits before k
  pub from : ℕ
  pub digits : List (Byte is_hexdig)
  pub before : from ≤ k
  pub few : length digits ≤ 3
  pub is : take (k - from) (drop from s) ≡ escape ∷ letter_u ∷ spelled_bytes digits
  -- the bytes before the escape can go on, those before k can't
  pub goes_on : (t : List ℕ) × (verdict most (take from s ⊕ t) ≡ None)
  pub never : (t : List ℕ) → verdict most (take k s ⊕ t) ≡ None → ⊥

pub data Stops (most : ℕ) (s : List ℕ) (k : ℕ) : Type 0 where
  -- the byte at k: whatever follows it, the fault is the same, and the text is none of the grammar
  by_byte : k < length s → ((t : List ℕ) → verdict most (take (k + 1) s ⊕ t) ≡ Some k) → ((t : List ℕ) → GrammarText most (take (k + 1) s ⊕ t) → ⊥) → Stops most s k
  -- a reverse solidus stands at k, and can stand there; the byte at j behind it, or the end of the text, shows that the escape names what it may not
  by_escape : take 1 (drop k s) ≡ escape ∷ [] → (t : List ℕ) × (verdict most (take (k + 1) s ⊕ t) ≡ None) →
      (j : ℕ) → k < j → j ≤ length s → (j < length s → (t : List ℕ) → verdict most (take (j + 1) s ⊕ t) ≡ Some k) → Stops most s k
  -- the text is cut short
  by_end : k ≡ length s → Stops most s k
