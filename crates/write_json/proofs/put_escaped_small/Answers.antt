-- `write_json::put_escaped_small` meets its contract.
use mathlib.Core.Path.{◌≡◌}
use Prim.Native.Nat.{◌-◌, ◌*◌}
use native.Mathlib.Omega.{arith}
use lib.ListN.{length}
use Rattle.sink.specs.Sink.{Todo}
use Rattle.sink.specs.laws.Sink.{each}
use Rattle.source.specs.Source.{rest}
use Rattle.source.specs.laws.Facts.{byte_small}
use Rattle.write_json.specs.laws.Escaped.{small_byte, small_each, small_small, lettering}
use Rattle.write_json.proofs.put_escaped_small.Goals as goal

pub loop-t-init : goal.loop-t-init
loop-t-init g c = search lettering

pub unit-t-requires : goal.unit-t-requires
unit-t-requires g c = search lettering

pub shape_of-out-then-u-eq-END : goal.shape_of-out-then-u-eq-END
shape_of-out-then-u-eq-END g c = search lettering

pub returns-then-u-eq-END : goal.returns-then-u-eq-END
returns-then-u-eq-END g c = rw small_each (search lettering)

pub lower_unit-v-requires : goal.lower_unit-v-requires
lower_unit-v-requires g c = search lettering

pub overflow_cast-v : goal.overflow_cast-v
overflow_cast-v g c = omega (arith, c.lower_unit-v.ensures, small_small c.unit-t.result.u (byte_small c.unit-t.ensures c.if-u-eq-END.false))

pub put_escaped_byte-o-requires : goal.put_escaped_byte-o-requires
put_escaped_byte-o-requires g c = search lettering

pub loop-t-smaller : goal.loop-t-smaller
loop-t-smaller g c = search lettering

pub loop-t-preserved : goal.loop-t-preserved
loop-t-preserved g c = search lettering
