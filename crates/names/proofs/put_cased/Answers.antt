-- `names::put_cased` meets its contract.
use native.Mathlib.Omega.{arith}
use Rattle.source.specs.laws.Facts.{byte_small}
use Rattle.names.specs.laws.Case.{cased_small}
use Rattle.names.specs.laws.Runs.{copying, copying_more}
use Rattle.names.proofs.put_cased.Goals as goal

pub returns-then-n-eq-END : goal.returns-then-n-eq-END
returns-then-n-eq-END g c = search copying

pub overflow_cast-v : goal.overflow_cast-v
overflow_cast-v g c = omega (arith, cased_small c.args.k c.unit-n.result.u (byte_small c.unit-n.ensures c.if-n-eq-END.false))

pub loop-k-preserved : goal.loop-k-preserved
loop-k-preserved g c = copying_more c.loop-k.invariant c.unit-n.ensures c.if-n-eq-END.false c.cased_unit-v.ensures c.put-p.ensures
