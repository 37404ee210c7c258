-- `recur::number::is_numeral` meets its contract.
use Rattle.std.specs.Prelude.{is_some}
use mathlib.Core.Path.{sym, ap, ◌∙◌}
use Rattle.recur.specs.laws.Numeral.{numeral_told}
use Rattle.recur.proofs.number.is_numeral.Goals as goal

pub returns : goal.returns
returns g c = c.is_some.ensures ∙ ap is_some (sym c.numeral_of.ensures) ∙ numeral_told _ _ _
