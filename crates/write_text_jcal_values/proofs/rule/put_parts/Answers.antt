-- `write_text_jcal_values::put_parts` meets its contract. Assumes nothing.
use Rattle.write_text_jcal_values.specs.laws.Rules.{parts_start, parts_more, parts_none, parts_end, part_place}
use Rattle.sink.specs.laws.Sink.{writing}
use Rattle.write_text_jcal_values.proofs.rule.put_parts.Goals as goal
use Rattle.write_text_jcal_values.proofs.rule.put_parts.Goals.{in-Some, in_default}

pub loop-p-init : goal.loop-p-init
loop-p-init c = search (parts_start, writing)

pub find_part-requires : goal.find_part-requires
find_part-requires c = (c.loop-p-test.true, c.requires)

pub put_part-q-requires : goal.put_part-q-requires
put_part-q-requires c = (c.requires, part_place c.find_part.ensures c.in-Some.is)

pub overflow_add-p : goal.overflow_add-p
overflow_add-p c = search writing

pub loop-p-smaller : goal.loop-p-smaller
loop-p-smaller c = search writing

pub loop-p-preserved : goal.loop-p-preserved
loop-p-preserved c =
    elim c.match-find_part.branch [
      | in-Some w ↦ rw (w.out-is, w.q-is, w.started-is) (parts_more c.loop-p.invariant c.loop-p-test.true c.find_part.ensures w.in-Some.is w.put_part-q.auto.out w.put_part-q.ensures)
      | in_default w ↦ rw (w.out-is, w.q-is, w.started-is) (parts_none c.loop-p.invariant c.loop-p-test.true c.find_part.ensures w.in_default.is)
    ]

pub shape_of-out : goal.shape_of-out
shape_of-out c = c.loop-p.invariant.kept

pub returns : goal.returns
returns c = parts_end c.loop-p.invariant c.loop-p-test.false
