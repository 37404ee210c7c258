-- `write_xml_value::put_items_xml` meets its contract.
use mathlib.Core.List.{[]}
use Prim.Native.Nat.{◌-◌}
use lib.ListN.{length, get_or}
use Rattle.recur.specs.laws.PieceLaws.{cut_count, pieces_less}
use Rattle.recur.specs.Parts.{part_names}
use Rattle.sink.specs.laws.Sink.{writing}
use Rattle.write_xml_value.specs.laws.PutRule.{Itemizing, items_start, items_more, items_end}
use Rattle.write_xml_value.proofs.rule.put_items_xml.Given as goal

abbrev pub invariant-loop-n : goal.invariant-loop-n
invariant-loop-n g l = Itemizing (get_or part_names l.p []) l.initial.out l.o g.E.Encoding.encoding l.s l.at l.out l.q l.c

abbrev pub decreases-loop-n : goal.decreases-loop-n
decreases-loop-n g l = length l.s - l.c
