-- `numbers::scan::digits_end` meets its contract.
use Rattle.std.proofs.Common.{arith, sym, ◌∙◌}
use Rattle.numbers.specs.laws.Spans.{after_more, after_stop, digit_byte}
use Rattle.numbers.specs.laws.Until.{turn_byte}
use Rattle.numbers.proofs.scan.digits_end.Goals as goal

pub returns-then-not-is_digit : goal.returns-then-not-is_digit
returns-then-not-is_digit g c = c.loop-t.invariant ∙ after_stop _ _ c.unit_to-t.ensures.is (sym c.is_digit.ensures ∙ c.if-not-is_digit.true)

pub loop-t-smaller : goal.loop-t-smaller
loop-t-smaller g c = omega (arith, digit_byte _ (sym c.is_digit.ensures ∙ c.if-not-is_digit.false))

pub loop-t-preserved : goal.loop-t-preserved
loop-t-preserved g c =
    let d = sym c.is_digit.ensures ∙ c.if-not-is_digit.false in
    c.loop-t.invariant ∙ after_more (turn_byte c.unit_to-t.ensures (digit_byte _ d)) d
