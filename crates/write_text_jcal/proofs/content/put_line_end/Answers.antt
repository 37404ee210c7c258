-- `write_text_jcal::put_line_end` meets its contract. Assumes nothing.
use Rattle.write_text_jcal.specs.laws.Content.{end_put}
use Rattle.sink.specs.laws.Sink.{writing}
use Rattle.write_text_jcal.proofs.content.put_line_end.Goals as goal

pub skip-from-requires : goal.skip-from-requires
skip-from-requires c = search writing

pub values_read-read-requires : goal.values_read-read-requires
values_read-read-requires c = search writing

pub put_all_parameters-a-requires : goal.put_all_parameters-a-requires
put_all_parameters-a-requires c = c.requires.1

pub put_all_values-requires : goal.put_all_values-requires
put_all_values-requires c = c.requires

pub shape_of-out : goal.shape_of-out
shape_of-out c = search writing

pub returns : goal.returns
returns c = end_put c.args.edition c.args.s.now c.args.inside _ c.requires.1 c.skip-from.ensures c.values_read-read.ensures c.put_all_parameters-a.ensures c.put_all_values.ensures
