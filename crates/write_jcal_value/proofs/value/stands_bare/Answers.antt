-- `write_jcal_value::value::stands_bare` meets its contract.
use Rattle.octets.specs.laws.Pick.{branching}
use Rattle.write_jcal_value.proofs.value.stands_bare.Goals as goal

pub returns-then-t-eq-BOOLEAN : goal.returns-then-t-eq-BOOLEAN
returns-then-t-eq-BOOLEAN c = search branching

pub returns-then-t-eq-FLOAT : goal.returns-then-t-eq-FLOAT
returns-then-t-eq-FLOAT c = search branching

pub returns : goal.returns
returns c = search branching
