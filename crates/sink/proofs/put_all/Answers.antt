-- `sink::put_all` meets its contract.
use mathlib.Core.Path.{◌≡◌}
use Prim.Native.Nat.{◌≤◌, ◌-◌}
use lib.ListN.{length, drop}
use Rattle.sink.specs.Sink.{Todo}
use Rattle.sink.specs.laws.Sink.{writing}
use Rattle.sink.proofs.put_all.Goals as goal

pub loop-i-init : goal.loop-i-init
loop-i-init c = search writing

pub bounds-s-i : goal.bounds-s-i
bounds-s-i c = search writing

pub put-o-requires : goal.put-o-requires
put-o-requires c = search writing

pub overflow_add-i : goal.overflow_add-i
overflow_add-i c = search writing

pub loop-i-smaller : goal.loop-i-smaller
loop-i-smaller c = search writing

pub loop-i-preserved : goal.loop-i-preserved
loop-i-preserved c = search writing

pub shape_of-out : goal.shape_of-out
shape_of-out c = search writing

pub returns : goal.returns
returns c = search writing
