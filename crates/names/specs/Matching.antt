-- The walk over a table, a byte at a time: what is left to find.
--     is_left r n        what is left of the word, while it is the same so far, is n;   word_from, is_over: what is left from a cursor on, and that it is nothing
--     sought w r l       the place of the word w from the name at hand on: l is the end of that name, and the names behind it; r is the end of w, which is to be the same, if w is the same so far
--     Turned             the contract of a turn over a byte of a name, with its rules `turning`
--     Passes             the contract of passing over the rest of a name that is no match, with its rules `passing`
use Rattle.std.specs.Prelude.{◌≡◌, Bool, false, List, [], ◌∷◌, ℕ, suc, ◌≤◌, length, drop, Option, None, Some}
use Rattle.octets.specs.Pick.{pick}
use Rattle.octets.specs.Words.{same, is_empty}
use Rattle.source.specs.Source.{rest}
use Rattle.names.specs.Case.{cased}
use Rattle.names.specs.Table.{place_of, names_in, in_first}
use Rattle.names.specs.declared.Case.{Case}

abbrev pub is_left : Option (List ℕ) → List ℕ → Bool
is_left None n = false
is_left (Some r) n = same r n

abbrev pub word_from : Case → ℕ → List ℕ → Option ℕ → Option (List ℕ)
word_from k mode s None = None
word_from k mode s (Some c) = Some (cased k (rest mode s c))

abbrev pub is_over : ℕ → List ℕ → Option ℕ → Bool
is_over mode s None = false
is_over mode s (Some c) = is_empty (rest mode s c)

unfoldable pub sought : List ℕ → Option (List ℕ) → List (List ℕ) → ℕ
sought w r [] = 0
sought w r (n ∷ ns) = pick (is_left r n) 0 (suc (place_of w ns))

-- with a byte t more of a name the cursor c in the word becomes d: none where the name is no match
pub record Turned (k : Case) (mode : ℕ) (s : List ℕ) (c : Option ℕ) (t : ℕ) (d : Option ℕ) : Type 0 where
  pub is : (w : List ℕ) (l : List (List ℕ)) → sought w (word_from k mode s c) (in_first t l) ≡ sought w (word_from k mode s d) l

-- ---- the rest of a name that is no match

pub record Passes (table : List ℕ) (i r : ℕ) : Type 0 where
  pub onward : i ≤ r
  pub inside : r ≤ length table
  pub is : (w : List ℕ) → sought w None (names_in (drop i table)) ≡ sought w None (names_in (drop r table))
