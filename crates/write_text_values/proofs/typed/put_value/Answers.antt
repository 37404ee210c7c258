-- `write_text_values::typed::put_value` meets its contract.
use native.Mathlib.Omega.{arith}
use Rattle.write_text_values.specs.laws.Typed.{put_period, put_recur, put_chars_of}
use Rattle.sink.specs.laws.Sink.{writing}
use Rattle.write_text_values.proofs.typed.put_value.Goals as goal

pub put_period-requires : goal.put_period-requires
put_period-requires c = c.requires.0

pub shape_of-out-then-t-eq-PERIOD : goal.shape_of-out-then-t-eq-PERIOD
shape_of-out-then-t-eq-PERIOD c = search writing

pub returns-then-t-eq-PERIOD : goal.returns-then-t-eq-PERIOD
returns-then-t-eq-PERIOD c = put_period c.args.t c.args.s.now c.args.i c.requires.2 c.if-t-eq-PERIOD.true c.put_period.ensures

pub put_rule-requires : goal.put_rule-requires
put_rule-requires c = c.requires.0

pub shape_of-out-then-t-eq-RECUR : goal.shape_of-out-then-t-eq-RECUR
shape_of-out-then-t-eq-RECUR c = search writing

pub returns-then-t-eq-RECUR : goal.returns-then-t-eq-RECUR
returns-then-t-eq-RECUR c = put_recur c.args.t c.args.s.now c.args.i c.requires.2 c.if-t-eq-PERIOD.false c.if-t-eq-RECUR.true c.put_rule.ensures

pub overflow_mul-i : goal.overflow_mul-i
overflow_mul-i c = omega (arith, c.requires)

pub put_leaf-requires : goal.put_leaf-requires
put_leaf-requires c = search writing

pub shape_of-out : goal.shape_of-out
shape_of-out c = search writing

pub returns : goal.returns
returns c = put_chars_of c.args.t c.args.s.now c.args.i c.requires.2 c.if-t-eq-PERIOD.false c.if-t-eq-RECUR.false c.put_leaf.ensures
