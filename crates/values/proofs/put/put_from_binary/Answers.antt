-- `values::put::put_from_binary` meets its contract.
use Rattle.values.specs.laws.PutValue.{placing, put_address, put_binary}
use Rattle.values.proofs.put.put_from_binary.Goals as goal

pub returns-then-t-eq-BINARY : goal.returns-then-t-eq-BINARY
returns-then-t-eq-BINARY g c = search (put_binary, placing)

pub returns-then-t-eq-BOOLEAN : goal.returns-then-t-eq-BOOLEAN
returns-then-t-eq-BOOLEAN g c = search placing

pub returns-then-t-eq-CAL_ADDRESS : goal.returns-then-t-eq-CAL_ADDRESS
returns-then-t-eq-CAL_ADDRESS g c = search (put_address, placing)

pub returns : goal.returns
returns g c = search placing
