-- The marks from a place on, by the token that code finds there.
--     RootAt             the contract of root_at
use Rattle.std.specs.Prelude.{List, ℕ, ◌≤◌, length}
use Rattle.xml.specs.Prolog.{prolog}
use Rattle.read_xml_tokens.specs.TokenAt.{Reads, root_in}
use Rattle.read_xml_tokens.specs.declared.TokenAt.{TokenAt}

-- ---- the root's tag

-- what root_at answers
pub record RootAt (s : List ℕ) (t : TokenAt) : Type 0 where
  pub reads : Reads root_in s (prolog s) (prolog s) t
  pub inside : prolog s ≤ length s
