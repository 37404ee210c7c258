-- `schema::numbers::component_number` meets its contract.
use Rattle.names.specs.laws.Table.{by_table}
use Rattle.schema.specs.laws.Numbers.{component_names_are}
use Rattle.schema.proofs.numbers.component_number.Goals as goal

pub returns : goal.returns
returns g c = by_table _ component_names_are c.find_word.ensures
