-- `read_xml_parameters::written::put_list` meets its contract.
use Prim.Native.Nat.{◌-◌}
use mathlib.Core.Bool.{false}
use lib.ListN.{length}
use Rattle.xml.specs.NodesAt.{nodes_at}
use Rattle.read_xml_parameters.specs.laws.Children.{child_less}
use Rattle.read_xml_parameters.specs.Rows.{row_at}
use Rattle.read_xml_parameters.specs.Written.{list_shown}
use Rattle.read_xml_parameters.specs.laws.Listed.{Emits, emits_start, list_more, list_over}
use Rattle.sink.specs.laws.Sink.{writing}
use Rattle.read_xml_parameters.proofs.written.put_list.Given as goal

abbrev pub invariant-loop-c : goal.invariant-loop-c
invariant-loop-c l = Emits l.initial.out l.o (list_shown l.edition (row_at l.q) false (nodes_at l.s l.at)) l.out l.p (list_shown l.edition (row_at l.q) l.later (nodes_at l.s l.c))

abbrev pub decreases-loop-c : goal.decreases-loop-c
decreases-loop-c l = length l.s - l.c
