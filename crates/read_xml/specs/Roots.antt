-- The children of `icalendar`, and the root.
use Rattle.std.specs.Prelude.{◌≡◌, ⊤, false, List, ℕ, Result}
use Rattle.xml.specs.Nodes.{Nodes, element}
use Rattle.xcal.specs.ComponentNodes.{stream_verdict, root_verdict}
use Rattle.xml.specs.NodesAt.{nodes_at}
use Rattle.read_xml_nodes.specs.Elements.{name_at}
use Rattle.refusals.specs.Fault.{judged_as}
use Rattle.refusals.specs.declared.Fault.{Fault}
use Rattle.read_xml_nodes.specs.declared.Element.{Element}
use Rattle.edition.specs.declared.Edition.{Edition}

module _ (ed : Edition) where
  -- ---- the children of `icalendar`

  pub record StreamAt (s : List ℕ) (from e : ℕ) (r : Result ⊤ Fault) : Type 0 where
    pub is : stream_verdict ed (nodes_at s from) false e ≡ judged_as r

  -- ---- the root

  pub record RootAt (s : List ℕ) (root : Element) (r : Result ⊤ Fault) : Type 0 where
    pub is : (more : Nodes) → root_verdict ed (element root.place (name_at s root) root.end (nodes_at s root.inside) more) ≡ judged_as r
