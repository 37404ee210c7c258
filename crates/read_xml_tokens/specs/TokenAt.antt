-- A token found by code at a place.
--     token_of s at t    the token that t says stands at the place `at` of s
--     name_in s t        the name of a tag
--     token_in, root_in  the token at the front of bytes, in the content or where the root's tag has to stand; none at their end
--     Reads f s at i t   t is what f finds at the place i, for a token that begins at `at`;  the contract of token_at is  Reads token_in s at at t
use Rattle.std.specs.Prelude.{◌≡◌, List, [], ◌∷◌, ℕ, ◌+◌, ◌-◌, min, max, ◌≤◌, ◌<◌, length, take}
use Rattle.source.specs.Source.{rest}
use Rattle.xml.specs.Pieces.{from}
use Rattle.xml.specs.Token.{Token, s_tag, empty_elem_tag, e_tag, char_byte, reference_to, no_token, token, root_tag}
use Rattle.read_xml_tokens.specs.declared.TokenAt.{TokenAt}
use Rattle.read_xml_tokens.specs.declared.TokenKind.{TokenKind}
use Rattle.read_xml_tokens.specs.declared.TokenKind.TheVariants.{Start, Empty, End, Char, Reference, Fault}

abbrev pub name_in : List ℕ → TokenAt → List ℕ
name_in s t = rest 0 (take t.name_end s) t.name

-- how many bytes the token takes after its first
abbrev pub taken : ℕ → TokenAt → ℕ
taken at t = t.next - (at + 1)

abbrev pub token_by : TokenKind → List ℕ → ℕ → TokenAt → Token
token_by Start s at t = s_tag (name_in s t) (taken at t)
token_by Empty s at t = empty_elem_tag (name_in s t) (taken at t)
token_by End s at t = e_tag (name_in s t) (taken at t)
token_by Char s at t = char_byte t.unit (taken at t)
token_by Reference s at t = reference_to t.unit (taken at t)
token_by Fault s at t = no_token

abbrev pub token_of : List ℕ → ℕ → TokenAt → Token
token_of s at t = token_by t.kind s at t

-- a byte, a code point, or the place of a tag
abbrev pub UnitOf : TokenKind → ℕ → ℕ → Type 0
UnitOf Start at u = u ≡ at
UnitOf Empty at u = u ≡ at
UnitOf End at u = u ≡ at
UnitOf Char at u = u < 256
UnitOf Reference at u = u < 0x110000
UnitOf Fault at u = u ≡ at

unfoldable pub token_in : List ℕ → Token
token_in [] = no_token
token_in (b ∷ s) = token b s

unfoldable pub root_in : List ℕ → Token
root_in [] = no_token
root_in (b ∷ s) = root_tag b s

-- a byte or more is passed over, unless it is the end; a fault passes one byte over
pub record Reads (f : List ℕ → Token) (s : List ℕ) (at i : ℕ) (t : TokenAt) : Type 0 where
  pub is : f (from i s) ≡ token_of s at t
  pub onward : min (at + 1) (length s) ≤ t.next
  pub inside : t.next ≤ max at (length s)
  pub named : t.name ≤ t.name_end
  pub ended : t.name_end ≤ t.next
  pub united : UnitOf t.kind at t.unit

-- ---- a fault

pub record Faulty (s : List ℕ) (at : ℕ) (t : TokenAt) : Type 0 where
  pub none : t.kind ≡ Fault
  pub place : t.unit ≡ at
  pub onward : min (at + 1) (length s) ≤ t.next
  pub inside : t.next ≤ max at (length s)
  pub named : t.name ≤ t.name_end
  pub ended : t.name_end ≤ t.next
