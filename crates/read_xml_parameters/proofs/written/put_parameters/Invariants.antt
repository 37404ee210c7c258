-- `read_xml_parameters::written::put_parameters` meets its contract.
use Prim.Native.Nat.{◌-◌}
use lib.ListN.{length}
use Rattle.xml.specs.NodesAt.{nodes_at}
use Rattle.read_xml_parameters.specs.laws.Children.{child_less}
use Rattle.read_xml_parameters.specs.laws.Listed.{Emits, emits_start, parameters_shown, parameter_more, parameters_over, parameters_put}
use Rattle.sink.specs.laws.Sink.{writing}
use Rattle.read_xml_parameters.proofs.written.put_parameters.Given as goal

abbrev pub invariant-children : goal.invariant-children
invariant-children l = Emits l.initial.out l.o (parameters_shown l.edition (nodes_at l.s l.inside)) l.out l.p (parameters_shown l.edition (nodes_at l.s l.c))

abbrev pub decreases-children : goal.decreases-children
decreases-children l = length l.s - l.c
