-- `schema::table::key_for` meets its contract.
use Rattle.octets.specs.laws.Pick.{branching}
use Rattle.schema.specs.Halving.{key_for}
use Rattle.schema.proofs.table.key_for.Goals as goal

pub returns-then-high-eq0 : goal.returns-then-high-eq0
unfolding key_for
returns-then-high-eq0 c = search branching

pub returns-then-high-eq1 : goal.returns-then-high-eq1
unfolding key_for
returns-then-high-eq1 c = search branching

pub returns : goal.returns
unfolding key_for
returns c = search branching
