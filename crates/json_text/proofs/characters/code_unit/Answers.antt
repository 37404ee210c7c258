-- `json_text::code_unit` meets its contract. Assumes nothing.
use lib.ListN.{drop}
use Rattle.json_text.specs.Strings.{hex_worth}
use Rattle.json_text.specs.laws.CharAt.{Worth, worth_start, worth_on, worth_stop, worth_short, worth_end}
use borrow.Author.Rules.{rules}
use Rattle.json_text.proofs.characters.code_unit.Goals as goal

pub loop-k-init : goal.loop-k-init
loop-k-init c = worth_start _ _

pub returns-then-d-eq16 : goal.returns-then-d-eq16
returns-then-d-eq16 c = worth_stop c.loop-k.invariant c.loop-k-test.true c.if-i-s.true _ c.hex_value-d.ensures c.if-d-eq16.true

pub loop-k-preserved : goal.loop-k-preserved
loop-k-preserved c = worth_on c.loop-k.invariant c.loop-k-test.true c.if-i-s.true _ c.hex_value-d.ensures c.if-d-eq16.false _ c.with_digit-v.ensures

pub returns-else-i-s : goal.returns-else-i-s
returns-else-i-s c = worth_short c.loop-k.invariant c.loop-k-test.true c.if-i-s.false

pub returns : goal.returns
returns c = worth_end c.loop-k.invariant c.loop-k-test.false
