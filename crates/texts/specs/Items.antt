-- The items of a list of TEXT (TextList), each found at a cursor: an item goes to the next bare separator, or to the end.
--     item_from, behind_from   the bytes of the item, and those from its separator on
--     ItemEnds                 the contract of `item_end`: the item at the cursor c ends at the cursor r
use Rattle.std.specs.Prelude.{◌≡◌, Bool, true, false, List, [], ◌∷◌, ℕ, ◌*◌, max, ◌≤◌, eqb, length, Option, Some}
use Rattle.octets.specs.Pick.{pick, ◌and◌}
use Rattle.source.specs.Source.{rest, cuts, Reach}
use Rattle.texts.specs.Text.{is_break, opens, split_text}

-- b is a bare separator c
abbrev pub is_between : Bool → ℕ → ℕ → Bool
is_between after c b = pick after false (eqb b c and is_break b)

unfoldable pub item_from : Bool → ℕ → List ℕ → List ℕ
item_from after c [] = []
item_from after c (b ∷ s) = pick (is_between after c b) [] (b ∷ item_from (opens after b) c s)

unfoldable pub behind_from : Bool → ℕ → List ℕ → List ℕ
behind_from after c [] = []
behind_from after c (b ∷ s) = pick (is_between after c b) (b ∷ s) (behind_from (opens after b) c s)

-- what is read behind an item: nothing more, or the items behind its separator
abbrev pub pieces_behind : ℕ → List ℕ → Option (List (List ℕ))
pieces_behind c [] = Some []
pieces_behind c (x ∷ s) = split_text c s

-- ---- an item at a cursor

-- `left`: what stands from r on is what stands behind the item
pub record ItemEnds (sep m : ℕ) (s : List ℕ) (c r : ℕ) : Type 0 where
  pub left : rest m s r ≡ behind_from false sep (rest m s c)
  pub onward : c ≤ r
  pub inside : r ≤ max c (4 * length s)
  pub plain : cuts m ≡ true → c ≤ length s → r ≤ length s
  pub reach : Reach m s c r
