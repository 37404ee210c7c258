-- `json_text::expect` meets its contract. Assumes nothing.
use borrow.Author.Rules.{rules}
use Rattle.octets.specs.laws.Pick.{branching}
use Rattle.json_text.proofs.structure.expect.Goals as goal

pub returns-then-b-eq93 : goal.returns-then-b-eq93
returns-then-b-eq93 c = rw c.in-ValueOrEnd.is (search branching)

pub returns-then-b-eq125 : goal.returns-then-b-eq125
returns-then-b-eq125 c = rw c.in-NameOrEnd.is (search branching)

pub returns-then-b-eq58 : goal.returns-then-b-eq58
returns-then-b-eq58 c = rw c.in-Colon.is (search branching)

pub returns-in-Value : goal.returns-in-Value
returns-in-Value c = rw c.in-Value.is c.begin_value.ensures

pub returns-else-b-eq93 : goal.returns-else-b-eq93
returns-else-b-eq93 c = rw c.in-ValueOrEnd.is (search branching)

pub returns-in-Name : goal.returns-in-Name
returns-in-Name c = rw c.in-Name.is c.begin_name.ensures

pub returns-else-b-eq125 : goal.returns-else-b-eq125
returns-else-b-eq125 c = rw c.in-NameOrEnd.is (search branching)

pub returns-else-b-eq58 : goal.returns-else-b-eq58
returns-else-b-eq58 c = rw c.in-Colon.is (search branching)

pub returns-in-After : goal.returns-in-After
returns-in-After c = rw c.in-After.is c.separate.ensures
