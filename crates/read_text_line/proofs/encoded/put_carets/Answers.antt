-- `read_text_line::encoded::put_carets` meets its contract.
use Rattle.source.specs.laws.Copying.{copying}
use Rattle.read_text_line.specs.laws.Written.{encoding-each}
use Rattle.read_text_line.proofs.encoded.put_carets.Goals as goal

pub loop-t-init : goal.loop-t-init
loop-t-init g c = search copying

pub unit-t-requires : goal.unit-t-requires
unit-t-requires g c = search copying

pub shape_of-out-then-u-eq-END : goal.shape_of-out-then-u-eq-END
shape_of-out-then-u-eq-END g c = search copying

pub returns-then-u-eq-END : goal.returns-then-u-eq-END
returns-then-u-eq-END g c = rw encoding-each (search copying)

pub overflow_cast-u : goal.overflow_cast-u
overflow_cast-u g c = search copying

pub put_encoded_byte-o-requires : goal.put_encoded_byte-o-requires
put_encoded_byte-o-requires g c = search copying

pub loop-t-smaller : goal.loop-t-smaller
loop-t-smaller g c = search copying

pub loop-t-preserved : goal.loop-t-preserved
loop-t-preserved g c = search copying
