-- `schema::table::row_of` meets its contract.
use mathlib.Core.Path.{◌∙◌, ap}
use Rattle.schema.specs.Coded.{row_at}
use Rattle.schema.specs.laws.Halving.{table_halved}
use Rattle.schema.proofs.table.row_of.Goals as goal

pub returns : goal.returns
returns g c = c.row_by.ensures ∙ ap row_at (table_halved _ _ _ c.pack-w.ensures)
