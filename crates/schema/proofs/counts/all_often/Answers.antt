-- `schema::counts::all_often` meets its contract.
use mathlib.Core.Path.{◌∙◌}
use Rattle.schema.specs.laws.Completing.{halves_go, halves_stop}
use Rattle.schema.proofs.counts.all_often.Goals as goal

pub returns-then-half_often : goal.returns-then-half_often
returns-then-half_often c = halves_go _ _ c.first_half.ensures c.half_often.ensures c.if-half_often.true c.second_half.ensures c.half_often-then-half_often.ensures

pub returns-else-half_often : goal.returns-else-half_often
returns-else-half_often c = c.if-half_often.false ∙ halves_stop _ _ c.first_half.ensures c.half_often.ensures c.if-half_often.false
