-- `json_text::step` meets its contract. Assumes nothing.
use borrow.Author.Rules.{rules}
use Rattle.json_text.proofs.step.Goals as goal

pub returns-in-Expects : goal.returns-in-Expects
returns-in-Expects c = rw c.in-Expects.is c.between_tokens.ensures

pub returns-in-InLiteral : goal.returns-in-InLiteral
returns-in-InLiteral c = rw c.in-InLiteral.is c.in_literal.ensures

pub returns-in-InNumber : goal.returns-in-InNumber
returns-in-InNumber c = rw c.in-InNumber.is c.in_number.ensures

pub returns-in-InString : goal.returns-in-InString
returns-in-InString c = rw c.in-InString.is c.in_string.ensures
