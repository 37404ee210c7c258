-- `json_text::end_expecting` meets its contract. Assumes nothing.
use borrow.Author.Rules.{rules}
use Rattle.json_text.proofs.end_expecting.Goals as goal

pub returns-in-Value : goal.returns-in-Value
returns-in-Value c = rw c.in-Value.is

pub returns-in-ValueOrEnd : goal.returns-in-ValueOrEnd
returns-in-ValueOrEnd c = rw c.in-ValueOrEnd.is

pub returns-in-Name : goal.returns-in-Name
returns-in-Name c = rw c.in-Name.is

pub returns-in-NameOrEnd : goal.returns-in-NameOrEnd
returns-in-NameOrEnd c = rw c.in-NameOrEnd.is

pub returns-in-Colon : goal.returns-in-Colon
returns-in-Colon c = rw c.in-Colon.is

pub returns-in-After : goal.returns-in-After
returns-in-After c = rw c.in-After.is c.end_outside.ensures
