-- `recur::is_list_part` meets its contract.
use Rattle.recur.specs.laws.Whole.{listed_at, listed_beyond}
use Rattle.recur.proofs.rule.is_list_part.Goals as goal

pub returns-then-p-lt-KNOWN : goal.returns-then-p-lt-KNOWN
returns-then-p-lt-KNOWN c = listed_at c.args.p

pub returns : goal.returns
returns c = listed_beyond c.args.p c.if-p-lt-KNOWN.false
