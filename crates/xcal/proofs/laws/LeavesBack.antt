-- Elements of character data that are written: their nodes have the characters, no element, and the verdict on them is that of the characters.
--     leaf_characters, leaf_no_element, leaf_fine
use Rattle.std.specs.Prelude.{◌≡◌, refl, Bool, true, false, List, [], ◌∷◌, ℕ, ◌+◌, length}
use Rattle.std.proofs.Common.{◌∙◌}
use Rattle.octets.specs.Pick.{pick}
use Rattle.octets.specs.laws.Pick.{pick_yes}
use Rattle.octets.specs.laws.Append.{append_none}
use Rattle.calendar.specs.Refusal.{VALUE, fine, refuse, ◌otherwise◌}
use Rattle.xml.specs.Escape.{escaped_byte}
use Rattle.xml.specs.Reads.{is_escaped}
use Rattle.xml.specs.Nodes.{Nodes, no_nodes, literal, referred, characters_of, has_element}
use Rattle.xml.specs.Content.{nothing, char_data, character_nodes, placed}
use Rattle.xml.specs.laws.ReadBack.{characters_of_lem, no_element}
use Rattle.xcal.specs.Layout.{inner_element, leaf}

-- the nodes of character data
abbrev pub leaf_nodes : List ℕ → ℕ → Nodes
leaf_nodes s q = character_nodes s q no_nodes

pub leaf_placed : (s : List ℕ) (q : ℕ) → placed (char_data s nothing) q no_nodes ≡ leaf_nodes s q
unfolding placed
leaf_placed s q = refl

pub leaf_characters : (s : List ℕ) (q : ℕ) → characters_of (leaf_nodes s q) ≡ s
unfolding characters_of
leaf_characters s q = characters_of_lem s q no_nodes ∙ append_none s

pub leaf_no_element : (s : List ℕ) (q : ℕ) → has_element (leaf_nodes s q) ≡ false
unfolding has_element
leaf_no_element s q = no_element s q no_nodes

no_inner : (s : List ℕ) (q : ℕ) → inner_element (leaf_nodes s q) ≡ fine
unfolding character_nodes inner_element pick
no_inner [] q = refl
no_inner (b ∷ s) q = go (is_escaped b) (no_inner s (q + length (escaped_byte b)))
  where
    rest : Nodes
    rest = leaf_nodes s (q + length (escaped_byte b))

    go : (t : Bool) → inner_element rest ≡ fine → inner_element (pick t (referred q (b ∷ []) rest) (literal q b rest)) ≡ fine
    go true ih = ih
    go false ih = ih

pub leaf_fine : (good : List ℕ → Bool) (p : ℕ) (s : List ℕ) (q : ℕ) → good s ≡ true → leaf good p (leaf_nodes s q) ≡ fine
unfolding ◌otherwise◌
leaf_fine good p s q h = rw (no_inner s q, leaf_characters s q) (pick_yes (good s) fine (refuse VALUE p) h)
