-- `calls::refusing::refusal_else` meets its contract.
use Rattle.octets.specs.Pick.{pick}
use Rattle.octets.specs.laws.Pick.{branching}
use Rattle.calls.proofs.refusing.refusal_else.Goals as goal

pub returns-then-n-eq-WORK : goal.returns-then-n-eq-WORK
unfolding pick
returns-then-n-eq-WORK c = search branching

pub returns-then-n-eq-CHARACTER : goal.returns-then-n-eq-CHARACTER
unfolding pick
returns-then-n-eq-CHARACTER c = search branching

pub returns-then-n-eq-XML : goal.returns-then-n-eq-XML
unfolding pick
returns-then-n-eq-XML c = search branching

pub returns-then-n-eq-JSON : goal.returns-then-n-eq-JSON
unfolding pick
returns-then-n-eq-JSON c = search branching

pub returns-then-n-eq-EDITION : goal.returns-then-n-eq-EDITION
unfolding pick
returns-then-n-eq-EDITION c = search branching

pub returns : goal.returns
unfolding pick
returns c = search branching
