-- `calls::refusing::refused` meets its contract.
use borrow.Author.Rules.{rules}
use Rattle.octets.specs.laws.Pick.{branching}
use Rattle.calls.proofs.refusing.refused.Goals as goal

pub returns-then-n-eq-ROOM : goal.returns-then-n-eq-ROOM
returns-then-n-eq-ROOM c = search branching

pub returns : goal.returns
returns c = rw (← c.refusal_of-r.ensures) (search branching)
