-- `read_text_whole::lines_judged` meets its contract.
use mathlib.Core.Path.{refl, subst}
use Rattle.read_text.specs.Answers.{Checks}
use Rattle.read_text_whole.specs.laws.Steps.{lines_fine, lines_refused}
use Rattle.read_text_whole.proofs.lines_judged.Goals as goal

pub index_at-i-requires : goal.index_at-i-requires
index_at-i-requires g c = (subst (Checks _ _ _) c.in-Err.is c.check.ensures).place

pub returns-in-Err : goal.returns-in-Err
returns-in-Err g c = lines_refused c.args.input.now c.in-Err.fault (subst (Checks _ _ _) c.in-Err.is c.check.ensures) c.index_at-i.ensures c.place_of-place.ensures c.at.ensures

pub returns-in-Ok : goal.returns-in-Ok
returns-in-Ok g c = lines_fine c.args.input.now (subst (Checks _ _ _) c.in-Ok.is c.check.ensures) _ refl
