-- `json_text::end_in_number` meets its contract. Assumes nothing.
use borrow.Author.Rules.{rules}
use Rattle.json_text.proofs.end_in_number.Goals as goal

pub returns-in-Minus : goal.returns-in-Minus
returns-in-Minus c = rw c.in-Minus.is

pub returns-in-Zero : goal.returns-in-Zero
returns-in-Zero c = rw c.in-Zero.is c.end_outside.ensures

pub returns-in-Int : goal.returns-in-Int
returns-in-Int c = rw c.in-Int.is c.end_outside-in-Int.ensures

pub returns-in-Point : goal.returns-in-Point
returns-in-Point c = rw c.in-Point.is

pub returns-in-Frac : goal.returns-in-Frac
returns-in-Frac c = rw c.in-Frac.is c.end_outside-in-Frac.ensures

pub returns-in-E : goal.returns-in-E
returns-in-E c = rw c.in-E.is

pub returns-in-Sign : goal.returns-in-Sign
returns-in-Sign c = rw c.in-Sign.is

pub returns-in-Exp : goal.returns-in-Exp
returns-in-Exp c = rw c.in-Exp.is c.end_outside-in-Exp.ensures
