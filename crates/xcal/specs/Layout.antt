-- Children that stand in a fixed order, as the schema has them, and where an element that does not fit is refused.
-- An unknown, surplus or misplaced child is FRAME at its start tag, one with capitals in its name NAME there; a child that is missing is FRAME at the
-- parent's end tag; text but literal white space where children belong is FRAME at its first byte that is no such space.
--     Slot         a place in the order: the names that may stand there, whether several may, whether one must
--     sequence     the verdict on children by a list of slots, each child's inside judged by a test of its own
--     leaf         the verdict on an element of character data
use Rattle.std.specs.Prelude.{Bool, false, not, List, [], ◌∷◌, ℕ, suc, ltb, Option, None, Some}
use Rattle.octets.specs.Pick.{pick, ◌and◌, ◌or◌}
use Rattle.octets.specs.Class.{is_capital, is_space}
use Rattle.octets.specs.Words.{is_one_of}
use Rattle.octets.specs.Lists.{any_one}
use Rattle.calendar.specs.Refusal.{NAME, FRAME, VALUE, Verdict, fine, refuse, ◌otherwise◌}
use Rattle.xml.specs.Nodes.{Nodes, no_nodes, element, literal, referred, characters_of}

unfoldable pub has_capital : List ℕ → Bool
has_capital [] = false
has_capital (b ∷ s) = is_capital b or has_capital s

-- an element that has no place here
abbrev pub unexpected : ℕ → List ℕ → Verdict
unexpected p n = pick (has_capital n) (refuse NAME p) (refuse FRAME p)

-- ---- slots

pub record Slot : Type 0 where
  pub names : List (List ℕ)
  pub several : Bool
  pub required : Bool

-- where a name stands in the order: the slot's number from k on, and whether several may stand there
abbrev pub slot_of : List ℕ → List Slot → ℕ → Option (ℕ × Bool)
slot_of n [] k = None
slot_of n (s ∷ ss) k = pick (is_one_of n s.names) (Some (k, s.several)) (slot_of n ss (suc k))

-- the first slot that may come after this child, where slots before `next` have passed; none where the child is unknown, surplus or misplaced
abbrev pub after_slot : Option (ℕ × Bool) → ℕ → Option ℕ
after_slot None next = None
after_slot (Some x) next = pick (ltb x.0 next) None (Some (pick x.1 x.0 (suc x.0)))

-- a slot that must be filled is not
unfoldable pub lacks : List Slot → List (List ℕ) → Bool
lacks slots seen = any_one (λ (s : Slot). s.required and not (any_one (λ n. is_one_of n seen) s.names)) slots

-- ---- children by slots

-- a child of the name n at place p: refused, or judged inside and then the rest
abbrev pub admitted : Option ℕ → ℕ → List ℕ → Verdict → (ℕ → Verdict) → Verdict
admitted None p n inside rest = unexpected p n
admitted (Some next) p n inside rest = inside otherwise rest next

-- inside p n e kids is the verdict on a child's own content; e is the place of the parent's end tag
unfoldable pub sequence : List Slot → (ℕ → List ℕ → ℕ → Nodes → Verdict) → Nodes → ℕ → List (List ℕ) → ℕ → Verdict
sequence slots inside no_nodes next seen e = pick (lacks slots seen) (refuse FRAME e) fine
sequence slots inside (literal p b more) next seen e = pick (is_space b) (sequence slots inside more next seen e) (refuse FRAME p)
sequence slots inside (referred p bs more) next seen e = refuse FRAME p
sequence slots inside (element p n x kids more) next seen e =
    admitted (after_slot (slot_of n slots 0) next) p n (inside p n x kids) (λ k. sequence slots inside more k (n ∷ seen) e)

-- ---- character data

-- the first element inside character data, which has no place there
unfoldable pub inner_element : Nodes → Verdict
inner_element no_nodes = fine
inner_element (literal p b more) = inner_element more
inner_element (referred p bs more) = inner_element more
inner_element (element p n x kids more) = unexpected p n

-- an element at place p whose characters must pass a test
abbrev pub leaf : (List ℕ → Bool) → ℕ → Nodes → Verdict
leaf good p kids = inner_element kids otherwise pick (good (characters_of kids)) fine (refuse VALUE p)
