-- `read_text::line::action_of` meets its contract.
use mathlib.Core.Path.{refl}
use borrow.Author.Tests.{eq-eqb, ne_eqb}
use Rattle.octets.specs.laws.Pick.{pick_take, pick_skip}
use Rattle.read_text.proofs.line.action_of.Goals as goal

pub returns-then-p-eq-ACTION : goal.returns-then-p-eq-ACTION
returns-then-p-eq-ACTION g c = pick_take _ _ _ (eq-eqb _ _ c.if-p-eq-ACTION.true) c.action_named.ensures

pub returns : goal.returns
returns g c = pick_skip _ _ _ (ne_eqb _ _ c.if-p-eq-ACTION.false) refl
