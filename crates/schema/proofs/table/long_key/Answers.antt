-- `schema::table::long_key` meets its contract.
use borrow.Author.Tests.{lt-ltb, le-ltb}
use Rattle.octets.specs.Pick.{pick}
use Rattle.schema.specs.Halving.{long_key}
use Rattle.schema.proofs.table.long_key.Goals as goal

pub returns-then-high-lt-UNDER_1 : goal.returns-then-high-lt-UNDER_1
unfolding long_key pick
returns-then-high-lt-UNDER_1 c = rw (lt-ltb _ _ c.if-high-lt-UNDER_1.true)

pub returns-then-high-lt-UNDER_2 : goal.returns-then-high-lt-UNDER_2
unfolding long_key pick
returns-then-high-lt-UNDER_2 c = rw (le-ltb _ _ c.if-high-lt-UNDER_1.false, lt-ltb _ _ c.if-high-lt-UNDER_2.true)

pub returns-then-high-lt-UNDER_3 : goal.returns-then-high-lt-UNDER_3
unfolding long_key pick
returns-then-high-lt-UNDER_3 c = rw (le-ltb _ _ c.if-high-lt-UNDER_1.false, le-ltb _ _ c.if-high-lt-UNDER_2.false, lt-ltb _ _ c.if-high-lt-UNDER_3.true)

pub returns-then-high-lt-UNDER_4 : goal.returns-then-high-lt-UNDER_4
unfolding long_key pick
returns-then-high-lt-UNDER_4 c = rw (le-ltb _ _ c.if-high-lt-UNDER_1.false, le-ltb _ _ c.if-high-lt-UNDER_2.false, le-ltb _ _ c.if-high-lt-UNDER_3.false, lt-ltb _ _ c.if-high-lt-UNDER_4.true)

pub returns-then-high-lt-UNDER_5 : goal.returns-then-high-lt-UNDER_5
unfolding long_key pick
returns-then-high-lt-UNDER_5 c = rw (le-ltb _ _ c.if-high-lt-UNDER_1.false, le-ltb _ _ c.if-high-lt-UNDER_2.false, le-ltb _ _ c.if-high-lt-UNDER_3.false, le-ltb _ _ c.if-high-lt-UNDER_4.false, lt-ltb _ _ c.if-high-lt-UNDER_5.true)

pub returns-then-high-lt-UNDER_6 : goal.returns-then-high-lt-UNDER_6
unfolding long_key pick
returns-then-high-lt-UNDER_6 c = rw (le-ltb _ _ c.if-high-lt-UNDER_1.false, le-ltb _ _ c.if-high-lt-UNDER_2.false, le-ltb _ _ c.if-high-lt-UNDER_3.false, le-ltb _ _ c.if-high-lt-UNDER_4.false, le-ltb _ _ c.if-high-lt-UNDER_5.false, lt-ltb _ _ c.if-high-lt-UNDER_6.true)

pub returns-then-high-lt-UNDER_7 : goal.returns-then-high-lt-UNDER_7
unfolding long_key pick
returns-then-high-lt-UNDER_7 c = rw (le-ltb _ _ c.if-high-lt-UNDER_1.false, le-ltb _ _ c.if-high-lt-UNDER_2.false, le-ltb _ _ c.if-high-lt-UNDER_3.false, le-ltb _ _ c.if-high-lt-UNDER_4.false, le-ltb _ _ c.if-high-lt-UNDER_5.false, le-ltb _ _ c.if-high-lt-UNDER_6.false, lt-ltb _ _ c.if-high-lt-UNDER_7.true)

pub returns : goal.returns
unfolding long_key pick
returns c = rw (le-ltb _ _ c.if-high-lt-UNDER_1.false, le-ltb _ _ c.if-high-lt-UNDER_2.false, le-ltb _ _ c.if-high-lt-UNDER_3.false, le-ltb _ _ c.if-high-lt-UNDER_4.false, le-ltb _ _ c.if-high-lt-UNDER_5.false, le-ltb _ _ c.if-high-lt-UNDER_6.false, le-ltb _ _ c.if-high-lt-UNDER_7.false)
