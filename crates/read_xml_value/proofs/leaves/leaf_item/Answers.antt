-- `read_xml_value::leaf_item` meets its contract.
use mathlib.Core.List.{[]}
use lib.ListN.{get_or}
use Rattle.octets.specs.Reading.{is_read}
use Rattle.calendar.specs.Calendar.{xcal}
use Rattle.recur.specs.Parts.{part_names}
use Rattle.recur.specs.Item.{read_item}
use Rattle.read_xml_value.specs.laws.Leaves.{leaf_as}
use Rattle.read_xml_value.proofs.leaves.leaf_item.Goals as goal

pub returns : goal.returns
returns c = leaf_as (λ l. is_read (read_item xcal (get_or part_names c.args.i []) l)) c.args.s.now c.args.place c.args.inside c.item_chars.ensures c.leaf.ensures
