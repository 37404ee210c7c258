-- `write_json::put_escaped` meets its contract.
use mathlib.Core.Path.{◌≡◌}
use Prim.Native.Nat.{◌-◌, ◌*◌}
use lib.ListN.{length}
use Rattle.sink.specs.Sink.{Todo}
use Rattle.sink.specs.laws.Sink.{each}
use Rattle.source.specs.Source.{rest}
use Rattle.source.specs.laws.Copying.{copying}
use Rattle.json_text.specs.Write.{escaped_byte}
use Rattle.write_json.specs.laws.Escaped.{escaped-each}
use Rattle.write_json.proofs.put_escaped.Goals as goal

pub loop-t-init : goal.loop-t-init
loop-t-init g c = search copying

pub unit-t-requires : goal.unit-t-requires
unit-t-requires g c = search copying

pub shape_of-out-then-u-eq-END : goal.shape_of-out-then-u-eq-END
shape_of-out-then-u-eq-END g c = search copying

pub returns-then-u-eq-END : goal.returns-then-u-eq-END
returns-then-u-eq-END g c = rw escaped-each (search copying)

pub overflow_cast-u : goal.overflow_cast-u
overflow_cast-u g c = search copying

pub put_escaped_byte-o-requires : goal.put_escaped_byte-o-requires
put_escaped_byte-o-requires g c = search copying

pub loop-t-smaller : goal.loop-t-smaller
loop-t-smaller g c = search copying

pub loop-t-preserved : goal.loop-t-preserved
loop-t-preserved g c = search copying
