-- `json_text::named_by` meets its contract. Assumes nothing.
use Rattle.octets.specs.laws.Pick.{choice}
use native.Mathlib.Omega.{arith}
use borrow.Author.Rules.{rules}
use Rattle.json_text.proofs.characters.named_by.Goals as goal

pub returns-then-c-eq110 : goal.returns-then-c-eq110
returns-then-c-eq110 c = (search (choice, rules), omega arith)

pub returns-then-c-eq116 : goal.returns-then-c-eq116
returns-then-c-eq116 c = (search (choice, rules), omega arith)

pub returns : goal.returns
returns c = (search (choice, rules), c.requires)
