-- The token at a place.
--     Passed        the contract of `token_place`: separators are passed over
--     BeginsWord    a byte that begins neither of the other tokens
--     piece_by, PieceAt   what a token that was found says of the tokens from its place on, and its bounds: the contract of `token_at`
use Rattle.std.specs.Prelude.{◌≡◌, false, List, [], ◌∷◌, ℕ, ◌≤◌, ◌<◌, length, get_or}
use Prim.{Unit}
use Rattle.json_text.specs.Bytes.{quotation_mark, begin_array, begin_object}
use Rattle.json_text.specs.Tree.{string, number, literal, Token, opens_array, opens_object, closes, name, scalar, is_separator, is_closing}
use Rattle.read_json.specs.TreeAt.{tokens_at, string_at, word_at}
use Rattle.read_json.specs.declared.Piece.{Piece}
use Rattle.read_json.specs.declared.PieceKind.{PieceKind}
use Rattle.read_json.specs.declared.PieceKind.TheVariants.{Absent, Array, Object, Close, Name, String, Number, Literal}

pub record Passed (s : List ℕ) (at r : ℕ) : Type 0 where
  pub same : tokens_at s at ≡ tokens_at s r
  pub onward : at ≤ r
  pub stop : r < length s → is_separator (get_or s r 0) ≡ false

pub record BeginsWord (b : ℕ) : Type 0 where
  pub separates : is_separator b ≡ false
  pub array : b ≡ begin_array → ⊥
  pub object : b ≡ begin_object → ⊥
  pub closes : is_closing b ≡ false
  pub quoted : b ≡ quotation_mark → ⊥

abbrev pub piece_by : PieceKind → List ℕ → ℕ → ℕ → List Token
piece_by Absent s p n = []
piece_by Array s p n = opens_array p ∷ tokens_at s n
piece_by Object s p n = opens_object p ∷ tokens_at s n
piece_by Close s p n = closes p ∷ tokens_at s n
piece_by Name s p n = name p (string_at s p) ∷ tokens_at s n
piece_by String s p n = scalar (string p (string_at s p)) ∷ tokens_at s n
piece_by Number s p n = scalar (number p (word_at s p n)) ∷ tokens_at s n
piece_by Literal s p n = scalar (literal p (word_at s p n)) ∷ tokens_at s n

-- a token, from its place p to n, stands from `at` on and within the length
pub record Taken (s : List ℕ) (at p n : ℕ) : Type 0 where
  pub onward : at ≤ p
  pub some : p < n
  pub inside : n ≤ length s

abbrev pub Takes : PieceKind → List ℕ → ℕ → ℕ → ℕ → Type 0
Takes Absent s at p n = Unit {0}
Takes Array s at p n = Taken s at p n
Takes Object s at p n = Taken s at p n
Takes Close s at p n = Taken s at p n
Takes Name s at p n = Taken s at p n
Takes String s at p n = Taken s at p n
Takes Number s at p n = Taken s at p n
Takes Literal s at p n = Taken s at p n

pub record PieceAt (s : List ℕ) (at : ℕ) (r : Piece) : Type 0 where
  pub is : tokens_at s at ≡ piece_by r.kind s r.place r.next
  pub takes : Takes r.kind s at r.place r.next
