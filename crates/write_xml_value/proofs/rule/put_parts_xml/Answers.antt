-- `write_xml_value::put_parts_xml` meets its contract.
use Prim.Native.Nat.{◌-◌}
use Rattle.source.specs.Source.{rest}
use Rattle.octets.specs.Words.{cut_at}
use Rattle.write_xml_value.specs.laws.PutRule.{put_standing, begins_inside, Naming, naming_start, naming_more, naming_end}
use Rattle.sink.specs.laws.Sink.{writing}
use Rattle.write_xml_value.proofs.rule.put_parts_xml.Goals as goal

pub loop-p-init : goal.loop-p-init
loop-p-init g c = let cut = g.met.E.Cuttable.cut in search (naming_start, writing)

pub offset_bounds-begins-p : goal.offset_bounds-begins-p
offset_bounds-begins-p g c = let cut = g.met.E.Cuttable.cut in search writing

pub bounds-begins-p : goal.bounds-begins-p
bounds-begins-p g c = let cut = g.met.E.Cuttable.cut in search writing

pub put_part_xml-q-requires : goal.put_part_xml-q-requires
put_part_xml-q-requires g c = begins_inside c.requires _

pub overflow_add-p : goal.overflow_add-p
overflow_add-p g c = let cut = g.met.E.Cuttable.cut in search writing

pub loop-p-smaller : goal.loop-p-smaller
loop-p-smaller g c = let cut = g.met.E.Cuttable.cut in search writing

pub loop-p-preserved : goal.loop-p-preserved
loop-p-preserved g c = naming_more c.loop-p.invariant c.loop-p-test.true (put_standing _ c.requires c.loop-p-test.true c.put_part_xml-q.ensures)

pub shape_of-out : goal.shape_of-out
shape_of-out g c = let cut = g.met.E.Cuttable.cut in search writing

pub returns : goal.returns
returns g c = naming_end c.loop-p.invariant c.loop-p-test.false
