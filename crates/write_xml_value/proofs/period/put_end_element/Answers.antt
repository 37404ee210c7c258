-- `write_xml_value::put_end_element` meets its contract.
use Rattle.sink.specs.laws.Sink.{writing}
use Rattle.write_xml_value.specs.laws.PutPeriod.{put_end_named, put_duration_named}
use Rattle.write_xml_value.proofs.period.put_end_element.Goals as goal

pub put_end_named-requires : goal.put_end_named-requires
put_end_named-requires g c = search writing

pub shape_of-out-then-explicit : goal.shape_of-out-then-explicit
shape_of-out-then-explicit g c = search writing

pub returns-then-explicit : goal.returns-then-explicit
returns-then-explicit g c = put_end_named _ _ c.if-explicit.true c.put_end_named.ensures

pub put_end_named-requires-2 : goal.put_end_named-requires-2
put_end_named-requires-2 g c = search writing

pub shape_of-out : goal.shape_of-out
shape_of-out g c = search writing

pub returns : goal.returns
returns g c = put_duration_named _ _ c.if-explicit.false c.put_end_named-2.ensures
