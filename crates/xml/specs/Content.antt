-- The content of an element as it is written: a tree without places, its canonical bytes, and the nodes that those are read as.
--     Content          nothing; or an element or character data, and what follows it
--     written c        its bytes: start and end tags always both, `&`, `<`, `>` as entities, no white space of its own
--     is_writable c d  its names are names, its characters hold no CR, and at most d elements stand inside one another
--     placed c p n     the nodes of written c at the place p, in front of the nodes n of what follows
--     ◌beside◌         one content and then another
use Rattle.std.specs.Prelude.{Bool, true, false, not, List, [], ◌∷◌, ℕ, zero, suc, ◌+◌, length}
use Rattle.octets.specs.Pick.{pick, ◌and◌}
use Rattle.octets.specs.Append.{◌⊕◌}
use Rattle.octets.specs.Words.{holds}
use Rattle.xml.specs.Nodes.{Nodes, no_nodes, element, literal, referred}
use Rattle.xml.specs.Marks.{Mark, opens, closes}
use Rattle.xml.specs.Escape.{escaped_byte, escaped, start_tag, end_tag, element_of}
use Rattle.xml.specs.Reads.{is_name, is_escaped, character_marks}

pub data Content : Type 0 where
  nothing : Content
  child : List ℕ → Content → Content → Content  -- an element's name, its content, what follows it
  char_data : List ℕ → Content → Content  -- character data, unescaped, and what follows it

unfoldable pub written : Content → List ℕ
written nothing = []
written (child nm inner next) = element_of nm (written inner) ⊕ written next
written (char_data s next) = escaped s ⊕ written next

unfoldable pub is_writable : Content → ℕ → Bool
is_writable nothing d = true
is_writable (child nm inner next) zero = false
is_writable (child nm inner next) (suc d) = is_name nm and is_writable inner d and is_writable next (suc d)
is_writable (char_data s next) d = not (holds 13 s) and is_writable next d

infixr 45 ◌beside◌
unfoldable pub ◌beside◌ : Content → Content → Content
nothing beside c = c
child nm inner next beside c = child nm inner (next beside c)
char_data s next beside c = char_data s (next beside c)

-- ---- places

-- the places of an element's content, of its end tag, and of what follows it, where its start tag stands at p
abbrev pub inner_place : List ℕ → ℕ → ℕ
inner_place nm p = p + length (start_tag nm)

abbrev pub end_tag_place : List ℕ → Content → ℕ → ℕ
end_tag_place nm inner p = inner_place nm p + length (written inner)

abbrev pub next_place : List ℕ → Content → ℕ → ℕ
next_place nm inner p = end_tag_place nm inner p + length (end_tag nm)

-- the nodes of character data that is written at the place p
unfoldable pub character_nodes : List ℕ → ℕ → Nodes → Nodes
character_nodes [] p n = n
character_nodes (b ∷ s) p n =
    pick (is_escaped b) (referred p (b ∷ []) (character_nodes s (p + length (escaped_byte b)) n)) (literal p b (character_nodes s (p + length (escaped_byte b)) n))

unfoldable pub placed : Content → ℕ → Nodes → Nodes
placed nothing p n = n
placed (child nm inner next) p n = element p nm (end_tag_place nm inner p) (placed inner (inner_place nm p) no_nodes) (placed next (next_place nm inner p) n)
placed (char_data s next) p n = character_nodes s p (placed next (p + length (escaped s)) n)

-- the marks of written c at the place p
unfoldable pub content_marks : Content → ℕ → List Mark
content_marks nothing p = []
content_marks (child nm inner next) p =
    opens p nm ∷ (content_marks inner (inner_place nm p) ⊕ (closes (end_tag_place nm inner p) nm ∷ content_marks next (next_place nm inner p)))
content_marks (char_data s next) p = character_marks s p ⊕ content_marks next (p + length (escaped s))
