-- `numbers::float::put_zeros` meets its contract.
use Rattle.std.proofs.Common.{◌≡◌, ◌+◌, ◌-◌, arith}
use Rattle.sink.specs.laws.Sink.{todo_step, todo_done, writing}
use Rattle.numbers.specs.laws.Spans.{zeros_next, zeros_done}
use Rattle.numbers.proofs.float.put_zeros.Goals as goal

pub loop-i-init : goal.loop-i-init
loop-i-init c = search writing

pub loop-i-preserved : goal.loop-i-preserved
loop-i-preserved c =
    let e : c.args.k - c.loop-i._i - 1 ≡ c.args.k - (c.loop-i._i + 1) = omega arith in
    (rw (← e) (todo_step c.loop-i.invariant.0 c.put-q.ensures (zeros_next _ (omega arith))), search writing)

pub returns : goal.returns
returns c = todo_done c.loop-i.invariant.0 (zeros_done _ (omega arith))
