-- A JSON text from a place on.
--     tokens_at s p     the tokens
--     elements_at s p   the elements of an array whose content, or the rest of it, begins at p
--     members_at s p    the same of an object
--     string_at s p     the characters of the string whose quotation mark stands at p;   word_at s p n: the bytes from p to n
use Rattle.std.specs.Prelude.{List, ℕ, ◌+◌, ◌*◌, take, drop}
use Rattle.source.specs.Source.{rest}
use Rattle.json_text.specs.Tree.{Token, tokens, Elements, Members, elements, members}

unfoldable pub tokens_at : List ℕ → ℕ → List Token
tokens_at s p = tokens p (drop p s)

unfoldable pub elements_at : List ℕ → ℕ → Elements
elements_at s p = elements (tokens_at s p) 0

unfoldable pub members_at : List ℕ → ℕ → Members
members_at s p = members (tokens_at s p) 0

abbrev pub string_at : List ℕ → ℕ → List ℕ
string_at s p = rest 3 s (2 * (p + 1))

abbrev pub word_at : List ℕ → ℕ → ℕ → List ℕ
word_at s p n = rest 0 (take n s) p
