-- `write_xml_value::put_raw_element` meets its contract.
use Rattle.sink.specs.laws.Sink.{writing}
use Rattle.write_xml_value.specs.laws.Words.{put_text_value}
use Rattle.write_xml_value.proofs.word.put_raw_element.Goals as goal

pub put_start_tag-p-requires : goal.put_start_tag-p-requires
put_start_tag-p-requires g c = search writing

pub put_escaped-q-requires : goal.put_escaped-q-requires
put_escaped-q-requires g c = search writing

pub put_end_tag-requires : goal.put_end_tag-requires
put_end_tag-requires g c = search writing

pub shape_of-out : goal.shape_of-out
shape_of-out g c = search writing

pub returns : goal.returns
returns g c = search (put_text_value, writing)
