-- `json_text::at_end` meets its contract. Assumes nothing.
use borrow.Author.Rules.{rules}
use Rattle.json_text.proofs.at_end.Goals as goal

pub returns-in-Expects : goal.returns-in-Expects
returns-in-Expects c = rw c.in-Expects.is c.end_expecting.ensures

pub returns-in-InLiteral : goal.returns-in-InLiteral
returns-in-InLiteral c = rw c.in-InLiteral.is

pub returns-in-InNumber : goal.returns-in-InNumber
returns-in-InNumber c = rw c.in-InNumber.is c.end_in_number.ensures

pub returns-in-InString : goal.returns-in-InString
returns-in-InString c = rw c.in-InString.is c.end_in_string.ensures
