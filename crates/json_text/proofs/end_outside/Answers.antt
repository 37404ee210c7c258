-- `json_text::end_outside` meets its contract. Assumes nothing.
use borrow.Author.Rules.{rules}
use Rattle.json_text.proofs.end_outside.Goals as goal

pub returns-in-Nothing : goal.returns-in-Nothing
returns-in-Nothing c = rw c.in-Nothing.is

pub returns-in-Array : goal.returns-in-Array
returns-in-Array c = rw c.in-Array.is

pub returns-in-Object : goal.returns-in-Object
returns-in-Object c = rw c.in-Object.is
