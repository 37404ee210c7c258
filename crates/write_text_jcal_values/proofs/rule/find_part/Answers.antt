-- `write_text_jcal_values::find_part` meets its contract. Assumes nothing.
use Rattle.write_text_jcal_values.specs.laws.Rules.{Finding, finding_start, finding_none, finding_here, finding_on, member_place, member_less}
use lib.ListN.{length}
use Prim.Native.Nat.{◌-◌}
use Rattle.sink.specs.laws.Sink.{writing}
use Rattle.write_text_jcal_values.proofs.rule.find_part.Goals as goal

pub loop-m-init : goal.loop-m-init
loop-m-init c = finding_start _ _ _

pub member_at-requires : goal.member_at-requires
member_at-requires c = search writing

pub is_part-requires : goal.is_part-requires
is_part-requires c = (c.requires.0, member_place c.member_at.ensures c.in-Some.is, c.requires.1)

pub returns-then-is_part : goal.returns-then-is_part
returns-then-is_part c = finding_here c.loop-m.invariant c.member_at.ensures c.in-Some.is c.is_part.ensures c.if-is_part.true

pub loop-m-smaller : goal.loop-m-smaller
loop-m-smaller c = member_less c.member_at.ensures c.in-Some.is

pub loop-m-preserved : goal.loop-m-preserved
loop-m-preserved c = finding_on c.loop-m.invariant c.member_at.ensures c.in-Some.is c.is_part.ensures c.if-is_part.false

pub returns : goal.returns
returns c = finding_none c.loop-m.invariant c.member_at.ensures c.in_default.is
