-- `schema::table::row_by` meets its contract. That the constant MIDDLE is the key of the middle row is computed here.
use native.Mathlib.Omega.{arith}
use Rattle.names.specs.Packing.{packing_compute}
use Rattle.schema.specs.Computing.{schema_compute}
use Rattle.schema.specs.Halving.{short_key, long_key, key_for}
use Rattle.schema.specs.laws.Halving.{first_rising, second_rising, by_first, by_second}
use Rattle.schema.proofs.table.row_by.Goals as goal

pub row_in-requires : goal.row_in-requires
row_in-requires c = (rw c.first_half-rows.ensures first_rising, omega arith)

pub returns-then-key-lt-MIDDLE : goal.returns-then-key-lt-MIDDLE
unfolding schema_compute packing_compute short_key long_key key_for
returns-then-key-lt-MIDDLE c = by_first _ _ c.key_for-key.ensures c.if-key-lt-MIDDLE.true c.first_half-rows.ensures c.row_in.ensures

pub row_in-requires-2 : goal.row_in-requires-2
row_in-requires-2 c = (rw c.second_half-rows.ensures second_rising, omega arith)

pub returns : goal.returns
unfolding schema_compute packing_compute short_key long_key key_for
returns c = by_second _ _ c.key_for-key.ensures c.if-key-lt-MIDDLE.false c.second_half-rows.ensures c.row_in-2.ensures
