-- Tags at a place.
--     Tagged p s a n e           the piece p, which begins with a name, stands at a and ends at e, its name at n
use Rattle.std.specs.Prelude.{◌≡◌, List, ℕ, ◌+◌, ◌≤◌, length}
use Rattle.octets.specs.Ascii.{ascii}
use Rattle.xml.specs.Pieces.{Piece, exactly, any_space, xml_name, ◌then◌}
use Rattle.xml.specs.Token.{Token, start_by, end_by}
use Rattle.read_xml_tokens.specs.Ends.{Ends}
use Rattle.read_xml_tokens.specs.TokenAt.{Reads}
use Rattle.read_xml_tokens.specs.declared.TokenAt.{TokenAt}

-- what is read behind `<`, and behind `</`
abbrev pub start_of : Piece → List ℕ → Token
start_of p s = start_by (p s) s

abbrev pub end_piece : Piece
end_piece = xml_name then any_space then exactly (ascii ">")

abbrev pub end_of : List ℕ → Token
end_of s = end_by (end_piece s) s

pub record Tagged (p : Piece) (s : List ℕ) (a n e : ℕ) : Type 0 where
  pub there : a ≤ length s
  pub whole : Ends p s a e
  pub name : Ends xml_name s a n
  pub after : n ≤ e

-- ---- the root's tag

-- the tag that begins at `at`, whatever piece it is that begins with a name from a to n and ends at e
abbrev pub Opened : List ℕ → ℕ → ℕ → ℕ → ℕ → TokenAt → Type 0
Opened s at a n e t = (p : Piece) → a ≡ at + 1 → Tagged p s a n e → Reads (start_of p) s at a t
