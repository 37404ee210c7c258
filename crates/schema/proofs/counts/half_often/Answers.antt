-- `schema::counts::half_often` meets its contract.
use native.Mathlib.Omega.{arith}
use Rattle.schema.specs.laws.Completing.{testing, testing_start, testing_more, testing_stop}
use Rattle.schema.proofs.counts.half_often.Goals as goal

pub loop-n-init : goal.loop-n-init
loop-n-init c = testing_start _ _ _ _ (omega arith)

pub returns-then-not-is_often : goal.returns-then-not-is_often
returns-then-not-is_often c = testing_stop c.loop-n.invariant _ c.loop-n-test.true c.is_often.ensures c.if-not-is_often.true

pub loop-n-preserved : goal.loop-n-preserved
loop-n-preserved c = testing_more c.loop-n.invariant _ c.loop-n-test.true c.is_often.ensures c.if-not-is_often.false

pub returns : goal.returns
returns c = search testing
