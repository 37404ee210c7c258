-- `calls::refusing::refusal_of` meets its contract.
use Rattle.octets.specs.Pick.{pick}
use Rattle.octets.specs.laws.Pick.{branching}
use Rattle.calls.proofs.refusing.refusal_of.Goals as goal

pub returns-then-n-eq-LINE : goal.returns-then-n-eq-LINE
unfolding pick
returns-then-n-eq-LINE c = search branching

pub returns-then-n-eq-NAME : goal.returns-then-n-eq-NAME
unfolding pick
returns-then-n-eq-NAME c = search branching

pub returns-then-n-eq-FRAME : goal.returns-then-n-eq-FRAME
unfolding pick
returns-then-n-eq-FRAME c = search branching

pub returns-then-n-eq-PARAMETER : goal.returns-then-n-eq-PARAMETER
unfolding pick
returns-then-n-eq-PARAMETER c = search branching

pub returns-then-n-eq-VALUE : goal.returns-then-n-eq-VALUE
unfolding pick
returns-then-n-eq-VALUE c = search branching

pub returns-then-n-eq-COUNT : goal.returns-then-n-eq-COUNT
unfolding pick
returns-then-n-eq-COUNT c = search branching

pub refusal_else-requires : goal.refusal_else-requires
unfolding pick
refusal_else-requires c = search branching

pub returns : goal.returns
unfolding pick
returns c = search branching
