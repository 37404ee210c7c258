-- `schema::table::second_half` meets its contract. That the constant is that half of the table is computed here.
use mathlib.Core.Path.{refl}
use Rattle.names.specs.Packing.{packing_compute}
use Rattle.schema.specs.Computing.{schema_compute}
use Rattle.schema.specs.Halving.{short_key, long_key, key_for}
use Rattle.schema.specs.Coded.{columns}
use Rattle.schema.proofs.table.second_half.Goals as goal

pub returns : goal.returns
unfolding schema_compute packing_compute columns short_key long_key key_for
returns c = refl
