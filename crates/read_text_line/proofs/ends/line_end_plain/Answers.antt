-- `read_text_line::ends::line_end_plain` meets its contract.
use native.Mathlib.Omega.{arith}
use Rattle.read_text_line.specs.laws.LineEnd.{seeking_plain, found_most, found_end, found_loose, found_other}
use Rattle.read_text_line.proofs.ends.line_end_plain.Goals as goal

pub loop-c-init : goal.loop-c-init
loop-c-init c = search seeking_plain

pub find_return-c-requires : goal.find_return-c-requires
find_return-c-requires c = search seeking_plain

pub overflow_sub-s : goal.overflow_sub-s
overflow_sub-s c = found_most _ _ _ c.loop-c-test.true c.find_return-c.ensures

pub overflow_add-c : goal.overflow_add-c
overflow_add-c c = search seeking_plain

pub bounds-s-c : goal.bounds-s-c
bounds-s-c c = search seeking_plain

pub wide-u-requires : goal.wide-u-requires
wide-u-requires c = search seeking_plain

pub overflow_add-result : goal.overflow_add-result
overflow_add-result c = search seeking_plain

pub returns-then-u-eq-LF : goal.returns-then-u-eq-LF
returns-then-u-eq-LF c = found_end c.loop-c.invariant c.loop-c-test.true c.find_return-c.ensures c.if-s-c-ge2.true c.wide-u.ensures c.if-u-eq-LF.true

pub overflow_add-c-else-u-eq-LF : goal.overflow_add-c-else-u-eq-LF
overflow_add-c-else-u-eq-LF c = search seeking_plain

pub loop-c-smaller : goal.loop-c-smaller
loop-c-smaller c = search seeking_plain

pub loop-c-preserved : goal.loop-c-preserved
loop-c-preserved c = found_other c.loop-c.invariant c.loop-c-test.true c.find_return-c.ensures c.if-s-c-ge2.true c.wide-u.ensures c.if-u-eq-LF.false

pub returns-else-s-c-ge2 : goal.returns-else-s-c-ge2
returns-else-s-c-ge2 c = found_loose c.loop-c.invariant c.loop-c-test.true c.find_return-c.ensures (omega arith)

pub returns : goal.returns
returns c = search seeking_plain
