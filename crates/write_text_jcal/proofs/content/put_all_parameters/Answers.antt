-- `write_text_jcal::put_all_parameters` meets its contract. Assumes nothing.
use Rattle.write_text_jcal.specs.laws.Content.{parameters_put}
use Rattle.sink.specs.laws.Sink.{writing}
use Rattle.write_text_jcal.proofs.content.put_all_parameters.Goals as goal

pub type_of_values-t-requires : goal.type_of_values-t-requires
type_of_values-t-requires c = search writing

pub skip-at-requires : goal.skip-at-requires
skip-at-requires c = search writing

pub object_at-q-requires : goal.object_at-q-requires
object_at-q-requires c = search writing

pub put_value_parameter-a-requires : goal.put_value_parameter-a-requires
put_value_parameter-a-requires c = search writing

pub put_parameters-requires : goal.put_parameters-requires
put_parameters-requires c = search writing

pub shape_of-out : goal.shape_of-out
shape_of-out c = search writing

pub returns : goal.returns
returns c = parameters_put c.args.edition c.args.s.now c.args.inside c.args.from _ _ c.skip-at.ensures c.object_at-q.ensures c.type_of_values-t.ensures c.put_value_parameter-a.ensures c.put_parameters.ensures
