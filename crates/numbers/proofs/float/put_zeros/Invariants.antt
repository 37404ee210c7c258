-- `numbers::float::put_zeros` meets its contract.
use Rattle.std.proofs.Common.{◌≡◌, ◌-◌, length}
use Rattle.sink.specs.Sink.{Todo}
use Rattle.numbers.specs.Worth.{zeros}
use Rattle.numbers.proofs.float.put_zeros.Given as goal

abbrev pub invariant-loop-i : goal.invariant-loop-i
invariant-loop-i l = Todo l.initial.out l.o (zeros l.k) l.out l.q (zeros (l.k - l._i)) × (length l.out ≡ length l.initial.out)
