-- `read_xml_value::item_chars` meets its contract.
use Rattle.recur.specs.laws.Fits.{item_yes, item_no}
use Rattle.read_xml_value.specs.laws.Leaves.{tested_yes, tested_no}
use Rattle.read_xml_value.proofs.leaves.item_chars.Goals as goal

pub returns-in-Some : goal.returns-in-Some
returns-in-Some c = tested_yes c.args.place (item_yes c.args.i c.read_item.ensures c.in-Some.is)

pub returns-in-None : goal.returns-in-None
returns-in-None c = tested_no c.args.place (item_no c.args.i c.read_item.ensures c.in-None.is) c.at.ensures
