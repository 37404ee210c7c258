-- `json_text::in_number` meets its contract. Assumes nothing.
use borrow.Author.Rules.{rules}
use Rattle.json_text.proofs.numbers.in_number.Goals as goal

pub returns-in-Minus : goal.returns-in-Minus
returns-in-Minus c = rw c.in-Minus.is c.after_minus.ensures

pub returns-in-Zero : goal.returns-in-Zero
returns-in-Zero c = rw c.in-Zero.is c.fraction_or_end.ensures

pub returns-in-Int : goal.returns-in-Int
returns-in-Int c = rw c.in-Int.is c.after_int.ensures

pub returns-in-Point : goal.returns-in-Point
returns-in-Point c = rw c.in-Point.is c.one_digit.ensures

pub returns-in-Frac : goal.returns-in-Frac
returns-in-Frac c = rw c.in-Frac.is c.after_frac.ensures

pub returns-in-E : goal.returns-in-E
returns-in-E c = rw c.in-E.is c.after_e.ensures

pub returns-in-Sign : goal.returns-in-Sign
returns-in-Sign c = rw c.in-Sign.is c.one_digit-in-Sign.ensures

pub returns-in-Exp : goal.returns-in-Exp
returns-in-Exp c = rw c.in-Exp.is c.after_exp.ensures
