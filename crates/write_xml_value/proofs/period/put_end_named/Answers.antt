-- `write_xml_value::put_end_named` meets its contract.
use Rattle.sink.specs.laws.Sink.{writing}
use Rattle.write_xml_value.proofs.period.put_end_named.Goals as goal

pub put_start_tag-p-requires : goal.put_start_tag-p-requires
put_start_tag-p-requires g c = search writing

pub put_period_end-q-requires : goal.put_period_end-q-requires
put_period_end-q-requires g c = search writing

pub put_end_tag-requires : goal.put_end_tag-requires
put_end_tag-requires g c = search writing

pub shape_of-out : goal.shape_of-out
shape_of-out g c = search writing

pub returns : goal.returns
returns g c = search writing
