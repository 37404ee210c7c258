-- `numbers::float::put_front` meets its contract.
use Rattle.std.proofs.Common.{arith, sym, ◌∙◌}
use Rattle.octets.specs.laws.Pick.{within_range}
use Rattle.sink.specs.laws.Sink.{todo_step, todo_done, writing}
use Rattle.numbers.specs.laws.Spans.{front_more, front_stop, digit_byte}
use Rattle.numbers.specs.laws.Until.{turn_byte}
use Rattle.numbers.proofs.float.put_front.Goals as goal

pub returns-then-not-is_digit : goal.returns-then-not-is_digit
returns-then-not-is_digit g c = todo_done c.loop-t.invariant.0 (front_stop _ _ c.unit_to-t.ensures.is (sym c.is_digit.ensures ∙ c.if-not-is_digit.true))

pub overflow_cast-t : goal.overflow_cast-t
overflow_cast-t g c = omega (arith, within_range 48 57 _ (sym c.is_digit.ensures ∙ c.if-not-is_digit.false))

pub loop-t-smaller : goal.loop-t-smaller
loop-t-smaller g c = omega (arith, digit_byte _ (sym c.is_digit.ensures ∙ c.if-not-is_digit.false))

pub loop-t-preserved : goal.loop-t-preserved
loop-t-preserved g c =
    let d = sym c.is_digit.ensures ∙ c.if-not-is_digit.false in
    (todo_step c.loop-t.invariant.0 c.put-q.ensures (front_more (turn_byte c.unit_to-t.ensures (digit_byte _ d)) d), search writing)
