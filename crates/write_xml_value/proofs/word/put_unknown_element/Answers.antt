-- `write_xml_value::put_unknown_element` meets its contract.
use Rattle.sink.specs.laws.Sink.{writing}
use Rattle.write_xml_value.specs.laws.Words.{put_unknown_value}
use Rattle.write_xml_value.proofs.word.put_unknown_element.Goals as goal

pub put_type_start-p-requires : goal.put_type_start-p-requires
put_type_start-p-requires g c = search writing

pub put_escaped-q-requires : goal.put_escaped-q-requires
put_escaped-q-requires g c = search writing

pub put_type_end-requires : goal.put_type_end-requires
put_type_end-requires g c = search writing

pub shape_of-out : goal.shape_of-out
shape_of-out g c = search writing

pub returns : goal.returns
returns g c = search (put_unknown_value, writing)
