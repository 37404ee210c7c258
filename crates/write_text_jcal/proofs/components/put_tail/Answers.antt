-- `write_text_jcal::put_tail` meets its contract. Assumes nothing.
use Rattle.write_text_jcal.specs.laws.Walks.{tail_name, tail_put}
use Rattle.sink.specs.laws.Sink.{writing}
use Rattle.write_text_jcal.proofs.components.put_tail.Goals as goal

pub string_at-c-requires : goal.string_at-c-requires
string_at-c-requires c = search writing

pub put_name_line-requires : goal.put_name_line-requires
put_name_line-requires c = tail_name c.args.s.now c.args.inside _ c.string_at-c.ensures c.requires.1

pub shape_of-out : goal.shape_of-out
shape_of-out c = search writing

pub shape_of-line : goal.shape_of-line
shape_of-line c = search writing

pub returns : goal.returns
returns c = tail_put c.args.s.now c.args.inside _ c.string_at-c.ensures _ c.put_name_line.ensures
