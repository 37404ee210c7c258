-- `read_text::line::may_hold` meets its contract.
use Rattle.read_text.specs.laws.Holding.{hold_known, hold_not, hold_other}
use Rattle.read_text.proofs.line.may_hold.Goals as goal

pub returns-then-may : goal.returns-then-may
returns-then-may c = λ n w o e. hold_known c.args.inner n w o e c.if-p-lt-KNOWN.true c.may_stand-may.ensures c.if-may.true c.may_follow.ensures

pub returns-then-p-lt-KNOWN : goal.returns-then-p-lt-KNOWN
returns-then-p-lt-KNOWN c = λ n w o e. hold_not c.args.inner n w o e c.if-p-lt-KNOWN.true c.may_stand-may.ensures c.if-may.false

pub returns : goal.returns
returns c = λ n w o e. hold_other c.args.inner n w o e c.if-p-lt-KNOWN.false c.may_follow-2.ensures
