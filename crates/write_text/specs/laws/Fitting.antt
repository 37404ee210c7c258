-- The content line of a property fits into the room for one line.
--     line_fits_lem  of a document within the limit
use Rattle.std.specs.Prelude.{◌≡◌, List, ℕ, ◌≤◌, ◌<◌}
use Rattle.std.proofs.Common.{arith}
use Rattle.std.proofs.Math.ListN.{length}
use Rattle.xml.specs.NodesAt.{nodes_at, marks_at}
use Rattle.read_xml_nodes.specs.NodeFound.{NodeAt}
use Rattle.read_xml_nodes.specs.laws.NodeFound.{node_element}
use Rattle.read_xml_nodes.specs.declared.Node.{Node}
use Rattle.read_xml_nodes.specs.declared.NodeKind.TheVariants.{Element}
use Rattle.lengths_text.specs.laws.Documents as lengths
use Rattle.edition.specs.declared.Edition.{Edition}
use Rattle.write_text.specs.Children.{name_in}
use Rattle.write_text.specs.Content.{line_text}

module _ (ed : Edition) where
  pub line_fits_lem : {s : List ℕ} {at : ℕ} {r : Node} → NodeAt s at r → r.kind ≡ Element → length s ≤ 65535 →
      length (line_text ed (name_in s r.name r.name_end) (nodes_at s r.inside)) ≤ 262144
  unfolding nodes_at marks_at line_text
  line_fits_lem {s} {at} {r} n q h =
      let k : length (line_text ed (name_in s r.name r.name_end) (nodes_at s r.inside)) < 262144 = lengths.line_fits_lem ed s at at _ _ _ _ h (node_element n q) in
      omega (arith, k)
