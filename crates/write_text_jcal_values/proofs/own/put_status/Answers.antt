-- `write_text_jcal_values::put_status` meets its contract. Assumes nothing.
use Rattle.write_text_jcal_values.specs.laws.Own.{status_put}
use Rattle.sink.specs.laws.Sink.{writing}
use Rattle.write_text_jcal_values.proofs.own.put_status.Goals as goal

pub put_texts-requires : goal.put_texts-requires
put_texts-requires c = search writing

pub shape_of-out : goal.shape_of-out
shape_of-out c = search writing

pub returns : goal.returns
returns c = status_put c.args.s.now c.args.inside c.put_texts.ensures
