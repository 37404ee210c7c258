-- `distinct::are_alike` meets its contract.
use Rattle.distinct.specs.Listed.{word_at}
use Rattle.distinct.specs.laws.Pairs.{alike}
use borrow.Author.Tests.{eqb-true}
use mathlib.Core.Bool.{false≢true}
use borrow.Author.Rules.{rules}
use Rattle.distinct.proofs.order.are_alike.Goals as goal

pub returns-then-i-eq0 : goal.returns-then-i-eq0
returns-then-i-eq0 g c = λ h. absurd (false≢true h)

pub returns-then-p-q : goal.returns-then-p-q
returns-then-p-q g c = λ h. absurd (false≢true h)

pub returns-then-q-n : goal.returns-then-q-n
returns-then-q-n g c = λ h. alike (word_at g.E.Encoding.encoding c.args.s.now c.args.from.now c.args.to.now) c.if-p-n.true c.if-q-n.true c.if-p-q.false c.compare-k.ensures (eqb-true c.compare-k.result 0 h)

pub returns-else-q-n : goal.returns-else-q-n
returns-else-q-n g c = λ h. absurd (false≢true h)

pub returns-else-p-n : goal.returns-else-p-n
returns-else-p-n g c = λ h. absurd (false≢true h)
