-- `write_text_jcal::put_all_values` meets its contract. Assumes nothing.
use Rattle.write_text_jcal.specs.laws.Content.{values_put}
use Rattle.sink.specs.laws.Sink.{writing}
use Rattle.write_text_jcal.proofs.content.put_all_values.Goals as goal

pub put_all-a-requires : goal.put_all-a-requires
put_all-a-requires c = search writing

pub put_values-requires : goal.put_values-requires
put_values-requires c = c.requires

pub shape_of-out : goal.shape_of-out
shape_of-out c = search writing

pub returns : goal.returns
returns c = values_put c.args.s.now c.args.from c.put_all-a.ensures c.put_values.ensures
