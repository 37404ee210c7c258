-- `schema::columns::parameter_type` meets its contract.
use mathlib.Core.Path.{◌∙◌}
use Rattle.schema.specs.Types.{type_place}
use Rattle.schema.specs.Parameters.{parameter_table, unrecognised_parameter}
use Rattle.schema.specs.laws.Cells.{column_at, column_past}
use Rattle.schema.proofs.columns.parameter_type.Goals as goal

pub returns-then-q-lt-KNOWN : goal.returns-then-q-lt-KNOWN
returns-then-q-lt-KNOWN c = c.wide.ensures.0 ∙ column_at (λ r. type_place r.type) unrecognised_parameter parameter_table _ c.if-q-lt-KNOWN.true

pub returns : goal.returns
returns c = column_past (λ r. type_place r.type) unrecognised_parameter parameter_table _ c.if-q-lt-KNOWN.false
