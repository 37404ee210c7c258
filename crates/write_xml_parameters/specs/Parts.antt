-- A value, a parameter and all parameters of a line, each written by its parts.
--     row_at                             the row of a parameter's number
use Rattle.std.specs.Prelude.{ℕ}
use Rattle.schema.specs.Parameters.{ParameterRow}
use Rattle.schema.specs.Numbers.{parameter_at}

unfoldable pub row_at : ℕ → ParameterRow
row_at q = parameter_at q
