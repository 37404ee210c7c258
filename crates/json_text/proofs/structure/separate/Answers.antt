-- `json_text::separate` meets its contract. Assumes nothing.
use borrow.Author.Rules.{rules}
use Rattle.octets.specs.laws.Pick.{branching}
use Rattle.json_text.proofs.structure.separate.Goals as goal

pub returns-then-b-eq44 : goal.returns-then-b-eq44
returns-then-b-eq44 c = rw c.in-Array.is (search branching)

pub returns-then-b-eq93 : goal.returns-then-b-eq93
returns-then-b-eq93 c = rw c.in-Array.is (search branching)

pub returns-then-b-eq44-2 : goal.returns-then-b-eq44-2
returns-then-b-eq44-2 c = rw c.in-Object.is (search branching)

pub returns-then-b-eq125 : goal.returns-then-b-eq125
returns-then-b-eq125 c = rw c.in-Object.is (search branching)

pub returns-in-Nothing : goal.returns-in-Nothing
returns-in-Nothing c = rw c.in-Nothing.is

pub returns-else-b-eq93 : goal.returns-else-b-eq93
returns-else-b-eq93 c = rw c.in-Array.is (search branching)

pub returns-else-b-eq125 : goal.returns-else-b-eq125
returns-else-b-eq125 c = rw c.in-Object.is (search branching)
