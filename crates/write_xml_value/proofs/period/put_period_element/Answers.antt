-- `write_xml_value::put_period_element` meets its contract.
use Rattle.sink.specs.laws.Sink.{writing}
use Rattle.write_xml_value.specs.laws.PutPeriod.{put_period, put_no_period}
use Rattle.write_xml_value.proofs.period.put_period_element.Goals as goal

pub read_period-requires : goal.read_period-requires
read_period-requires g c = search writing

pub put_period_xml-requires : goal.put_period_xml-requires
put_period_xml-requires g c = search writing

pub returns-in-Some : goal.returns-in-Some
returns-in-Some g c = put_period _ c.read_period.ensures c.in-Some.is c.put_period_xml.ensures

pub returns-in-None : goal.returns-in-None
returns-in-None g c = put_no_period _ c.read_period.ensures c.in-None.is (search writing)
