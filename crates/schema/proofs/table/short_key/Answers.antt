-- `schema::table::short_key` meets its contract.
use borrow.Author.Tests.{le-leb, lt-leb}
use Rattle.octets.specs.Pick.{pick}
use Rattle.schema.specs.Halving.{short_key}
use Rattle.schema.proofs.table.short_key.Goals as goal

pub returns-then-low-ge-UNDER_6 : goal.returns-then-low-ge-UNDER_6
unfolding short_key pick
returns-then-low-ge-UNDER_6 c = rw (le-leb _ _ c.if-low-ge-UNDER_6.true)

pub returns-then-low-ge-UNDER_5 : goal.returns-then-low-ge-UNDER_5
unfolding short_key pick
returns-then-low-ge-UNDER_5 c = rw (lt-leb _ _ c.if-low-ge-UNDER_6.false, le-leb _ _ c.if-low-ge-UNDER_5.true)

pub returns-then-low-ge-UNDER_4 : goal.returns-then-low-ge-UNDER_4
unfolding short_key pick
returns-then-low-ge-UNDER_4 c = rw (lt-leb _ _ c.if-low-ge-UNDER_6.false, lt-leb _ _ c.if-low-ge-UNDER_5.false, le-leb _ _ c.if-low-ge-UNDER_4.true)

pub returns-then-low-ge-UNDER_3 : goal.returns-then-low-ge-UNDER_3
unfolding short_key pick
returns-then-low-ge-UNDER_3 c = rw (lt-leb _ _ c.if-low-ge-UNDER_6.false, lt-leb _ _ c.if-low-ge-UNDER_5.false, lt-leb _ _ c.if-low-ge-UNDER_4.false, le-leb _ _ c.if-low-ge-UNDER_3.true)

pub returns-then-low-ge-UNDER_2 : goal.returns-then-low-ge-UNDER_2
unfolding short_key pick
returns-then-low-ge-UNDER_2 c = rw (lt-leb _ _ c.if-low-ge-UNDER_6.false, lt-leb _ _ c.if-low-ge-UNDER_5.false, lt-leb _ _ c.if-low-ge-UNDER_4.false, lt-leb _ _ c.if-low-ge-UNDER_3.false, le-leb _ _ c.if-low-ge-UNDER_2.true)

pub returns-then-low-ge-UNDER_1 : goal.returns-then-low-ge-UNDER_1
unfolding short_key pick
returns-then-low-ge-UNDER_1 c = rw (lt-leb _ _ c.if-low-ge-UNDER_6.false, lt-leb _ _ c.if-low-ge-UNDER_5.false, lt-leb _ _ c.if-low-ge-UNDER_4.false, lt-leb _ _ c.if-low-ge-UNDER_3.false, lt-leb _ _ c.if-low-ge-UNDER_2.false, le-leb _ _ c.if-low-ge-UNDER_1.true)

pub returns : goal.returns
unfolding short_key pick
returns c = rw (lt-leb _ _ c.if-low-ge-UNDER_6.false, lt-leb _ _ c.if-low-ge-UNDER_5.false, lt-leb _ _ c.if-low-ge-UNDER_4.false, lt-leb _ _ c.if-low-ge-UNDER_3.false, lt-leb _ _ c.if-low-ge-UNDER_2.false, lt-leb _ _ c.if-low-ge-UNDER_1.false)
