-- `read_jcal_value::part_at` meets its contract.
use Rattle.read_jcal_value.specs.laws.Items.{place_found}
use borrow.Author.Rules.{rules}
use Rattle.read_jcal_value.proofs.items.part_at.Goals as goal

pub returns : goal.returns
returns c = search (place_found, rules)
