-- `write_text_values::rule::put_rule` meets its contract.
use Prim.Native.Nat.{◌-◌}
use Rattle.write_text_values.specs.laws.PutRule.{Parting, parts_start, parts_more, parts_none, parts_end, item_within}
use Rattle.sink.specs.laws.Sink.{writing}
use Rattle.write_text_values.proofs.rule.put_rule.Goals as goal
use Rattle.write_text_values.proofs.rule.put_rule.Goals.{in-Some, in_default}

pub loop-p-init : goal.loop-p-init
loop-p-init c = search (parts_start, writing)

pub find_item-requires : goal.find_item-requires
find_item-requires c = c.loop-p-test.true

pub put_part-q-requires : goal.put_part-q-requires
put_part-q-requires c = (c.loop-p-test.true, c.requires, (item_within c.find_item.ensures c.in-Some.is).name)

pub overflow_add-p : goal.overflow_add-p
overflow_add-p c = search writing

pub loop-p-smaller : goal.loop-p-smaller
loop-p-smaller c = search writing

pub returns : goal.returns
returns c = parts_end c.loop-p.invariant c.loop-p-test.false

pub loop-p-preserved : goal.loop-p-preserved
loop-p-preserved c =
    elim c.match-find_item.branch [
      | in-Some w ↦ rw (w.out-is, w.q-is, w.started-is) (parts_more c.loop-p.invariant c.loop-p-test.true c.find_item.ensures w.in-Some.is w.put_part-q.ensures)
      | in_default w ↦ rw (w.out-is, w.q-is, w.started-is) (parts_none c.loop-p.invariant c.loop-p-test.true c.find_item.ensures w.in_default.is)
    ]
