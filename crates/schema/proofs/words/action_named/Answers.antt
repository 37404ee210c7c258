-- `schema::words::action_named` meets its contract.
use borrow.Author.Rules.{rules}
use Rattle.schema.specs.laws.Completing.{action_none, action_some}
use Rattle.schema.proofs.words.action_named.Goals as goal

pub returns-in_err-place : goal.returns-in_err-place
returns-in_err-place g c = search (rules, action_none)

pub returns : goal.returns
returns g c = action_some _ c.read_in_set.ensures c.in_ok-place.was c.action_at.ensures
