-- `write_text_jcal_values::put_typed` meets its contract. Assumes nothing.
use Rattle.write_text_jcal_values.specs.laws.Typed.{typed_period, typed_recur, typed_scalar}
use Rattle.sink.specs.laws.Sink.{writing}
use Rattle.write_text_jcal_values.proofs.typed.put_typed.Goals as goal

pub put_period-requires : goal.put_period-requires
put_period-requires c = search writing

pub shape_of-out-then-t-eq-PERIOD : goal.shape_of-out-then-t-eq-PERIOD
shape_of-out-then-t-eq-PERIOD c = search writing

pub returns-then-t-eq-PERIOD : goal.returns-then-t-eq-PERIOD
returns-then-t-eq-PERIOD c = typed_period c.args.s.now c.args.h c.args.t c.if-t-eq-PERIOD.true c.put_period.ensures

pub put_rule-requires : goal.put_rule-requires
put_rule-requires c = search writing

pub shape_of-out-then-t-eq-RECUR : goal.shape_of-out-then-t-eq-RECUR
shape_of-out-then-t-eq-RECUR c = search writing

pub returns-then-t-eq-RECUR : goal.returns-then-t-eq-RECUR
returns-then-t-eq-RECUR c = typed_recur c.args.s.now c.args.h c.args.t c.if-t-eq-RECUR.true c.put_rule.ensures

pub put_scalar-requires : goal.put_scalar-requires
put_scalar-requires c = search writing

pub shape_of-out : goal.shape_of-out
shape_of-out c = search writing

pub returns : goal.returns
returns c = typed_scalar c.args.s.now c.args.h c.args.t c.if-t-eq-PERIOD.false c.if-t-eq-RECUR.false c.put_scalar.ensures
