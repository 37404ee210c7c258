-- `schema::numbers::parameter_number` meets its contract.
use mathlib.Core.Path.{refl}
use Rattle.names.specs.Packing.{find}
use Rattle.names.specs.laws.Packing.{by_packs, finding}
use Rattle.schema.specs.Parameters.{parameter_names}
use Rattle.schema.specs.Packs.{parameter_rows, parameter_rows3}
use Rattle.schema.specs.laws.Numbers.{parameters_packed}
use Rattle.schema.proofs.numbers.parameter_number.Goals as goal

pub returns-then-w-lt6652008112848 : goal.returns-then-w-lt6652008112848
unfolding find
returns-then-w-lt6652008112848 g c = by_packs _ parameter_rows parameter_rows3 parameter_names 19 parameters_packed refl c.pack-w.ensures (search finding depth 12)

pub returns-then-w-lt925981168003141 : goal.returns-then-w-lt925981168003141
unfolding find
returns-then-w-lt925981168003141 g c = by_packs _ parameter_rows parameter_rows3 parameter_names 19 parameters_packed refl c.pack-w.ensures (search finding depth 12)

pub returns : goal.returns
unfolding find
returns g c = by_packs _ parameter_rows parameter_rows3 parameter_names 19 parameters_packed refl c.pack-w.ensures (search finding depth 12)
