-- `read_jcal_value::is_rule` meets its contract.
use Rattle.read_jcal_value.specs.laws.Members.{part_small, ruling_more, ruling}
use Rattle.read_jcal_value.proofs.rule.is_rule.Goals as goal

pub loop-m-init : goal.loop-m-init
loop-m-init c = search ruling

pub returns-then-not-is_part : goal.returns-then-not-is_part
returns-then-not-is_part c = search ruling

pub returns-then-holds : goal.returns-then-holds
returns-then-holds c = search ruling

pub insert-seen-requires : goal.insert-seen-requires
insert-seen-requires c = part_small c.in-Some.ensures c.loop-m.invariant c.part_at-i.ensures c.is_part.ensures c.if-not-is_part.false

pub loop-m-preserved : goal.loop-m-preserved
loop-m-preserved c =
    ruling_more c.in-Some.ensures c.loop-m.invariant c.part_at-i.ensures c.is_part.ensures c.if-not-is_part.false c.holds.ensures c.if-holds.false c.insert-seen.ensures

pub returns : goal.returns
returns c = search ruling
