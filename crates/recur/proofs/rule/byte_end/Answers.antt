-- `recur::byte_end` meets its contract.
use Rattle.recur.specs.laws.PieceLaws.{ending_start, ending_stop, ending_here, ending_more, step_less}
use native.Mathlib.Omega.{arith}
use Rattle.recur.proofs.rule.byte_end.Goals as goal

pub loop-t-init : goal.loop-t-init
loop-t-init g c = ending_start _ _ _ _ c.requires

pub returns-then-t-eq-END : goal.returns-then-t-eq-END
returns-then-t-eq-END g c = ending_stop c.loop-t.invariant c.unit-t.ensures c.if-t-eq-END.true

pub returns-then-t-k : goal.returns-then-t-k
returns-then-t-k g c = ending_here c.loop-t.invariant c.unit-t.ensures c.if-t-eq-END.false c.if-t-k.true

pub loop-t-smaller : goal.loop-t-smaller
loop-t-smaller g c = let l = step_less c.loop-t.invariant.inside c.unit-t.ensures c.if-t-eq-END.false in let a = l.0 in let b = l.1.most in omega arith

pub loop-t-preserved : goal.loop-t-preserved
loop-t-preserved g c = ending_more c.loop-t.invariant c.unit-t.ensures c.if-t-eq-END.false c.if-t-k.false
