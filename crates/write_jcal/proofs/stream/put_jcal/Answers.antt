-- `write_jcal::stream::put_jcal` meets its contract.
use native.Mathlib.Omega.{arith}
use borrow.Author.Rules.{rules}
use Rattle.sink.specs.laws.Sink.{writing}
use Rattle.read_text_line.specs.laws.Ready.{ready_start}
use Rattle.write_jcal.specs.laws.Alone.{stream_alone, stream_several}
use Rattle.write_jcal.proofs.stream.put_jcal.Goals as goal

pub is_alone-alone-requires : goal.is_alone-alone-requires
is_alone-alone-requires g c = let cut = g.met.E.Cuttable.cut in search (ready_start, rules)

pub put_components-a-requires : goal.put_components-a-requires
put_components-a-requires g c = (search (ready_start, rules), omega arith)

pub returns-then-alone : goal.returns-then-alone
returns-then-alone g c = let cut = g.met.E.Cuttable.cut in search (stream_alone, writing)

pub put_components-c-requires : goal.put_components-c-requires
put_components-c-requires g c = (search (ready_start, rules), omega arith)

pub returns : goal.returns
returns g c = let cut = g.met.E.Cuttable.cut in search (stream_several, writing)
