-- `read_xml_parameters::children::has_encoding` meets its contract.
use Prim.Native.Nat.{◌-◌}
use lib.ListN.{length}
use Rattle.xcal.specs.ParameterNodes.{has_encoding}
use Rattle.read_xml_nodes.specs.laws.Walks.{Passing}
use Rattle.read_xml_parameters.specs.laws.Children.{encodings}
use Rattle.read_xml_parameters.proofs.children.has_encoding.Goals as goal

pub loop-a-init : goal.loop-a-init
loop-a-init c = search encodings

pub next_child-n-requires : goal.next_child-n-requires
next_child-n-requires c = search encodings

pub slice_bounds-is_encoding-count : goal.slice_bounds-is_encoding-count
slice_bounds-is_encoding-count c = search encodings

pub slice_bounds-is_encoding-start : goal.slice_bounds-is_encoding-start
slice_bounds-is_encoding-start c = search encodings

pub slice_bounds-is_encoding-end : goal.slice_bounds-is_encoding-end
slice_bounds-is_encoding-end c = search encodings

pub is_encoding-found-requires : goal.is_encoding-found-requires
is_encoding-found-requires c = search encodings

pub returns-then-found : goal.returns-then-found
returns-then-found c = search encodings

pub loop-a-smaller : goal.loop-a-smaller
loop-a-smaller c = search encodings

pub loop-a-preserved : goal.loop-a-preserved
loop-a-preserved c = search encodings

pub returns-else-n : goal.returns-else-n
returns-else-n c = search encodings
