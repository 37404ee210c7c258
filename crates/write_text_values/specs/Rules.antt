-- The items of a part of a RECUR from its elements.
--     ItemAt         the contract of `find_item`
use Rattle.std.specs.Prelude.{◌≡◌, List, [], ◌∷◌, ℕ, ◌≤◌, ◌<◌, length, take, get_or, Option, None, Some, IfSome}
use Rattle.octets.specs.Class.{lower}
use Rattle.octets.specs.Reading.{read_or}
use Rattle.calendar.specs.Calendar.{xcal, RuleItem, word}
use Rattle.source.specs.Source.{rest}
use Rattle.recur.specs.Parts.{part_names}
use Rattle.recur.specs.Item.{read_item}
use Rattle.xml.specs.Nodes.{characters_of}
use Rattle.xcal.specs.ValueNodes.{items_of}
use Rattle.xml.specs.NodesAt.{nodes_at}
use Rattle.write_text_values.specs.declared.rule.Item.{Item}

abbrev pub part_name : ℕ → List ℕ
part_name p = get_or part_names p []

-- ---- the walk to an item

abbrev pub item_at : ℕ → List ℕ → ℕ → RuleItem
item_at p s i = read_or (word []) (read_item xcal (part_name p) (characters_of (nodes_at s i)))

abbrev pub items_from : ℕ → List ℕ → Option Item → List RuleItem
items_from p s (Some i) = item_at p s i.inside ∷ items_of (part_name p) (nodes_at s i.next)
items_from p s None = []

pub record Within (p : ℕ) (s : List ℕ) (at : ℕ) (i : Item) : Type 0 where
  pub inside : i.inside ≤ length s
  pub next : i.next ≤ length s
  pub onward : at < i.next
  pub name : i.name_end ≤ length s
  pub named : rest 0 (take i.name_end s) i.name ≡ lower (part_name p)

pub record ItemAt (p : ℕ) (s : List ℕ) (at : ℕ) (r : Option Item) : Type 0 where
  pub is : items_of (part_name p) (nodes_at s at) ≡ items_from p s r
  pub within : IfSome r (Within p s at)
