-- `write_xml_value::put_parts_xml` meets its contract.
use Prim.Native.Nat.{◌-◌}
use Rattle.source.specs.Source.{rest}
use Rattle.octets.specs.Words.{cut_at}
use Rattle.write_xml_value.specs.laws.PutRule.{put_standing, Naming, naming_start, naming_more, naming_end}
use Rattle.sink.specs.laws.Sink.{writing}
use Rattle.write_xml_value.proofs.rule.put_parts_xml.Given as goal

abbrev pub invariant-loop-p : goal.invariant-loop-p
invariant-loop-p g l = Naming (cut_at 59 (rest g.E.Encoding.encoding l.s l.at)) l.initial.out l.o l.out l.q l.p

abbrev pub decreases-loop-p : goal.decreases-loop-p
decreases-loop-p g l = 14 - l.p
