-- Children in a fixed order (crate xcal, specs/Layout.antt), taken one after another: the verdict that is left after each.
--     marked slots n fs       the same after one more name
--     is_short fs             a slot that must be filled is not
--     walked                  `sequence`, with these flags in the place of the names seen
use Rattle.std.specs.Prelude.{Bool, false, not, List, [], ◌∷◌, ℕ, get_or, drop}
use Rattle.octets.specs.Pick.{pick, ◌or◌}
use Rattle.octets.specs.Class.{is_space}
use Rattle.octets.specs.Words.{is_one_of}
use Rattle.octets.specs.Lists.{any_one}
use Rattle.calendar.specs.Refusal.{FRAME, Verdict, fine, refuse}
use Rattle.xml.specs.Nodes.{Nodes, no_nodes, element, literal, referred}
use Rattle.xcal.specs.Layout.{Slot, slot_of, after_slot, admitted}

-- ---- slots that must be filled

unfoldable pub marked : List Slot → List ℕ → List Bool → List Bool
marked [] n fs = []
marked (s ∷ slots) n fs = pick s.required ((is_one_of n s.names or get_or fs 0 false) ∷ marked slots n (drop 1 fs)) (marked slots n fs)

unfoldable pub is_short : List Bool → Bool
is_short fs = any_one not fs

-- ---- a walk over children

unfoldable pub walked : List Slot → (ℕ → List ℕ → ℕ → Nodes → Verdict) → Nodes → ℕ → List Bool → ℕ → Verdict
walked slots inside no_nodes next fs e = pick (is_short fs) (refuse FRAME e) fine
walked slots inside (literal p b more) next fs e = pick (is_space b) (walked slots inside more next fs e) (refuse FRAME p)
walked slots inside (referred p bs more) next fs e = refuse FRAME p
walked slots inside (element p n x kids more) next fs e =
    admitted (after_slot (slot_of n slots 0) next) p n (inside p n x kids) (λ k. walked slots inside more k (marked slots n fs) e)
