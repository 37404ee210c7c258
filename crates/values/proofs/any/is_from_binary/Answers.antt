-- `values::any::is_from_binary` meets its contract.
use Rattle.values.specs.laws.ValueAt.{choosing}
use Rattle.values.proofs.any.is_from_binary.Goals as goal

pub returns-then-t-eq-BINARY : goal.returns-then-t-eq-BINARY
returns-then-t-eq-BINARY g c = search choosing

pub returns-then-t-eq-BOOLEAN : goal.returns-then-t-eq-BOOLEAN
returns-then-t-eq-BOOLEAN g c = search choosing

pub returns-then-t-eq-CAL_ADDRESS : goal.returns-then-t-eq-CAL_ADDRESS
returns-then-t-eq-CAL_ADDRESS g c = search choosing

pub returns : goal.returns
returns g c = search choosing
