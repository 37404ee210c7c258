-- `read_xml_value::leaf_value` meets its contract.
use Rattle.octets.specs.Reading.{is_read}
use Rattle.calendar.specs.Calendar.{xcal}
use Rattle.schema.specs.Numbers.{type_at}
use Rattle.values.specs.ReadValue.{read_value}
use Rattle.read_xml_value.specs.laws.Leaves.{leaf_as}
use Rattle.read_xml_value.proofs.leaves.leaf_value.Goals as goal

pub returns : goal.returns
returns c = leaf_as (λ l. is_read (read_value xcal (type_at c.args.t) l)) c.args.s.now c.args.place c.args.inside c.value_chars.ensures c.leaf.ensures
