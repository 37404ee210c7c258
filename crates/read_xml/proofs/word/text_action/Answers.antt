-- `read_xml::word::text_action` meets its contract.
use mathlib.Core.Path.{ap, ◌∙◌}
use mathlib.Core.List.{List}
use Prim.Native.Nat.{ℕ}
use Rattle.schema.specs.Completing.{action_named}
use Rattle.read_xml_nodes.specs.laws.Characters.{characters_at}
use Rattle.read_xml.proofs.word.text_action.Goals as goal

pub returns : goal.returns
returns c = c.action_named.ensures ∙ ap (λ (l : List ℕ). action_named l) (characters_at _ _)
