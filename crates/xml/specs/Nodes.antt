-- The content of an element as a tree, of a document that is well formed.
--     Nodes           nothing; or an element, a literal byte or a referred character, and what follows it
--     document_nodes  the root as one element
--     characters_of   the bytes of the characters that stand there, up to an element
--     has_element     whether an element stands there
use Rattle.std.specs.Prelude.{Bool, true, false, List, [], ◌∷◌, ℕ, zero, suc}
use Rattle.octets.specs.Append.{◌⊕◌}
use Rattle.xml.specs.Marks.{Mark, opens, closes, char, refers, fault, document_marks}

pub data Nodes : Type 0 where
  no_nodes : Nodes
  element : ℕ → List ℕ → ℕ → Nodes → Nodes → Nodes  -- the place of its start tag, its name, the place of its end tag, its content, what follows it
  literal : ℕ → ℕ → Nodes → Nodes  -- a place, a byte, what follows
  referred : ℕ → List ℕ → Nodes → Nodes  -- the place of a reference, its character in UTF-8, what follows

-- the place of an open element's end tag, from marks that begin d elements deeper in it; 0 where there is none
unfoldable pub end_place_by : Mark → ℕ → (ℕ → ℕ) → ℕ
end_place_by (opens p nm) d rest = rest (suc d)
end_place_by (closes p nm) zero rest = p
end_place_by (closes p nm) (suc d) rest = rest d
end_place_by (char p b) d rest = rest d
end_place_by (refers p bs) d rest = rest d
end_place_by (fault p) d rest = 0

unfoldable pub end_place : List Mark → ℕ → ℕ
end_place [] d = 0
end_place (m ∷ ms) d = end_place_by m d (end_place ms)

-- the content of an open element, from marks that begin d elements deeper in it, up to its end tag
unfoldable pub nodes_by : Mark → ℕ → (ℕ → ℕ) → (ℕ → Nodes) → Nodes
nodes_by (opens p nm) zero end rest = element p nm (end 0) (rest 0) (rest 1)
nodes_by (opens p nm) (suc d) end rest = rest (suc (suc d))
nodes_by (closes p nm) zero end rest = no_nodes
nodes_by (closes p nm) (suc d) end rest = rest d
nodes_by (char p b) zero end rest = literal p b (rest 0)
nodes_by (char p b) (suc d) end rest = rest (suc d)
nodes_by (refers p bs) zero end rest = referred p bs (rest 0)
nodes_by (refers p bs) (suc d) end rest = rest (suc d)
nodes_by (fault p) d end rest = no_nodes

unfoldable pub nodes : List Mark → ℕ → Nodes
nodes [] d = no_nodes
nodes (m ∷ ms) d = nodes_by m d (end_place ms) (nodes ms)

-- the root, by the mark of its tag
unfoldable pub root_by : Mark → List Mark → Nodes
root_by (opens p nm) ms = element p nm (end_place ms 0) (nodes ms 0) no_nodes
root_by (closes p nm) ms = no_nodes
root_by (char p b) ms = no_nodes
root_by (refers p bs) ms = no_nodes
root_by (fault p) ms = no_nodes

unfoldable pub root_node : List Mark → Nodes
root_node [] = no_nodes
root_node (m ∷ ms) = root_by m ms

unfoldable pub document_nodes : List ℕ → Nodes
document_nodes s = root_node (document_marks s)

unfoldable pub characters_of : Nodes → List ℕ
characters_of no_nodes = []
characters_of (element p nm e inner next) = []
characters_of (literal p b next) = b ∷ characters_of next
characters_of (referred p bs next) = bs ⊕ characters_of next

unfoldable pub has_element : Nodes → Bool
has_element no_nodes = false
has_element (element p nm e inner next) = true
has_element (literal p b next) = has_element next
has_element (referred p bs next) = has_element next
