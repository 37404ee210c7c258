-- `schema::columns::is_quoted_parameter` meets its contract.
use Rattle.schema.specs.Parameters.{parameter_table, unrecognised_parameter}
use Rattle.schema.specs.laws.Cells.{column_past}
use Rattle.schema.specs.laws.Columns.{flag_at}
use Rattle.schema.proofs.columns.is_quoted_parameter.Goals as goal

pub returns-then-q-lt-KNOWN : goal.returns-then-q-lt-KNOWN
returns-then-q-lt-KNOWN c = flag_at (λ r. r.quoted) unrecognised_parameter parameter_table _ c.if-q-lt-KNOWN.true

pub returns : goal.returns
returns c = column_past (λ r. r.quoted) unrecognised_parameter parameter_table _ c.if-q-lt-KNOWN.false
