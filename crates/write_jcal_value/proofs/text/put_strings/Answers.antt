-- `write_jcal_value::text::put_strings` meets its contract.
use mathlib.Core.Bool.{false}
use mathlib.Core.Path.{◌≡◌}
use Prim.Native.Nat.{◌-◌, ◌*◌}
use lib.ListN.{length}
use Rattle.sink.specs.Sink.{Todo}
use Rattle.source.specs.Source.{rest}
use Rattle.write_jcal_value.specs.Texts.{strings_from}
use Rattle.write_jcal_value.specs.laws.Texts.{writing_strings}
use Rattle.write_jcal_value.proofs.text.put_strings.Goals as goal

pub loop-t-init : goal.loop-t-init
loop-t-init g c = search writing_strings

pub unit-t-requires : goal.unit-t-requires
unit-t-requires g c = search writing_strings

pub shape_of-out-then-u-eq-END : goal.shape_of-out-then-u-eq-END
shape_of-out-then-u-eq-END g c = search writing_strings

pub returns-then-u-eq-END : goal.returns-then-u-eq-END
returns-then-u-eq-END g c = search writing_strings

pub overflow_cast-u : goal.overflow_cast-u
overflow_cast-u g c = search writing_strings

pub put_byte-o-requires : goal.put_byte-o-requires
put_byte-o-requires g c = search writing_strings

pub is_opening-after-requires : goal.is_opening-after-requires
is_opening-after-requires g c = search writing_strings

pub loop-t-smaller : goal.loop-t-smaller
loop-t-smaller g c = search writing_strings

pub loop-t-preserved : goal.loop-t-preserved
loop-t-preserved g c = search writing_strings
