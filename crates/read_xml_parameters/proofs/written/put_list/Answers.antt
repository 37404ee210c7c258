-- `read_xml_parameters::written::put_list` meets its contract.
use Prim.Native.Nat.{◌-◌}
use mathlib.Core.Bool.{false}
use lib.ListN.{length}
use Rattle.xml.specs.NodesAt.{nodes_at}
use Rattle.read_xml_parameters.specs.laws.Children.{child_less}
use Rattle.read_xml_parameters.specs.Rows.{row_at}
use Rattle.read_xml_parameters.specs.Written.{list_shown}
use Rattle.read_xml_parameters.specs.laws.Listed.{Emits, emits_start, list_more, list_over}
use Rattle.sink.specs.laws.Sink.{writing}
use Rattle.read_xml_parameters.proofs.written.put_list.Goals as goal

pub loop-c-init : goal.loop-c-init
loop-c-init c = search (emits_start, writing)

pub next_child-n-requires : goal.next_child-n-requires
next_child-n-requires c = search writing

pub put_item-p-requires : goal.put_item-p-requires
put_item-p-requires c = search writing

pub loop-c-smaller : goal.loop-c-smaller
loop-c-smaller c = search (child_less, writing)

pub loop-c-preserved : goal.loop-c-preserved
loop-c-preserved c = search (list_more, writing)

pub shape_of-out-else-n : goal.shape_of-out-else-n
shape_of-out-else-n c = search writing

pub returns-else-n : goal.returns-else-n
returns-else-n c = search (list_over, writing)
