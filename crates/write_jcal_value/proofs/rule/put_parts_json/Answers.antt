-- `write_jcal_value::rule::put_parts_json` meets its contract.
use Rattle.sink.specs.laws.Sink.{writing}
use Rattle.write_jcal_value.specs.laws.PutRule.{noted_within, parts_start, parts_skip, parts_more, parts_end}
use Rattle.write_jcal_value.proofs.rule.put_parts_json.Goals as goal
use Rattle.write_jcal_value.proofs.rule.put_parts_json.Goals.{in-Some, in_default}

pub loop-p-init : goal.loop-p-init
loop-p-init g c = let cut = g.met.E.Cuttable.cut in search (parts_start, writing)

pub offset_bounds-begins-p : goal.offset_bounds-begins-p
offset_bounds-begins-p g c = let cut = g.met.E.Cuttable.cut in search writing

pub bounds-begins-p : goal.bounds-begins-p
bounds-begins-p g c = let cut = g.met.E.Cuttable.cut in search writing

pub put_part_json-q-requires : goal.put_part_json-q-requires
put_part_json-q-requires g c = noted_within g.met.E.Cuttable.cut c.requires _ c.in-Some.is

pub overflow_add-p : goal.overflow_add-p
overflow_add-p g c = let cut = g.met.E.Cuttable.cut in search writing

pub loop-p-smaller : goal.loop-p-smaller
loop-p-smaller g c = let cut = g.met.E.Cuttable.cut in search writing

pub loop-p-preserved : goal.loop-p-preserved
loop-p-preserved g c =
    elim c.match-begins-p.branch [
      | in-Some w ↦ rw (w.out-is, w.q-is, w.started-is) (parts_more c.requires c.loop-p.invariant c.loop-p-test.true w.in-Some.is w.put_part_json-q.ensures)
      | in_default w ↦ rw (w.out-is, w.q-is, w.started-is) (parts_skip c.requires c.loop-p.invariant c.loop-p-test.true w.in_default.is)
    ]

pub shape_of-out : goal.shape_of-out
shape_of-out g c = let cut = g.met.E.Cuttable.cut in search writing

pub returns : goal.returns
returns g c = let cut = g.met.E.Cuttable.cut in search (parts_end, writing)
