-- `write_text_values::own::put_data` meets its contract.
use Rattle.write_text_values.specs.laws.Children.{found_within}
use Rattle.write_text_values.specs.laws.Own.{put_data, put_no_data}
use Rattle.sink.specs.laws.Sink.{writing}
use Rattle.write_text_values.proofs.own.put_data.Goals as goal

pub find_child-requires : goal.find_child-requires
find_child-requires c = search writing

pub put_data_text-requires : goal.put_data_text-requires
put_data_text-requires c = (c.requires, found_within c.find_child.ensures c.in-Some.is)

pub returns-in-Some : goal.returns-in-Some
returns-in-Some c = put_data c.find_child.ensures c.in-Some.is c.put_data_text.ensures

pub returns-in-None : goal.returns-in-None
returns-in-None c = put_no_data c.find_child.ensures c.in-None.is (search writing)
