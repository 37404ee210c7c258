-- `read_xml_parameters::written::put_parameters` meets its contract.
use Prim.Native.Nat.{◌-◌}
use lib.ListN.{length}
use Rattle.xml.specs.NodesAt.{nodes_at}
use Rattle.read_xml_parameters.specs.laws.Children.{child_less}
use Rattle.read_xml_parameters.specs.laws.Listed.{Emits, emits_start, parameters_shown, parameter_more, parameters_over, parameters_put}
use Rattle.sink.specs.laws.Sink.{writing}
use Rattle.read_xml_parameters.proofs.written.put_parameters.Goals as goal

pub children-init : goal.children-init
children-init c = search (emits_start, writing)

pub next_child-n-requires : goal.next_child-n-requires
next_child-n-requires c = search writing

pub slice_bounds-put_parameter-count : goal.slice_bounds-put_parameter-count
slice_bounds-put_parameter-count c = search writing

pub slice_bounds-put_parameter-start : goal.slice_bounds-put_parameter-start
slice_bounds-put_parameter-start c = search writing

pub slice_bounds-put_parameter-end : goal.slice_bounds-put_parameter-end
slice_bounds-put_parameter-end c = search writing

pub put_parameter-p-requires : goal.put_parameter-p-requires
put_parameter-p-requires c = search writing

pub children-smaller : goal.children-smaller
children-smaller c = search (child_less, writing)

pub children-preserved : goal.children-preserved
children-preserved c = search (parameter_more, writing)

pub shape_of-out-else-n : goal.shape_of-out-else-n
shape_of-out-else-n c = search writing

pub returns-else-n : goal.returns-else-n
returns-else-n c = search (parameters_over, parameters_put, writing)
