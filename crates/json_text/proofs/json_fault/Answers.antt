-- `json_text::json_fault` meets its contract. Assumes nothing.
use Rattle.json_text.specs.laws.Pass.{Ongoing, ongoing_start, turn_to, turn_array, turn_object, stop_array, stop_object, turn_close, turn_bad, over}
use Rattle.json_text.specs.Bytes.{most_open}
use Rattle.json_text.specs.Check.{verdict}
use lib.ListN.{length}
use Prim.Native.Nat.{◌-◌}
use borrow.Author.Rules.{rules}
use Rattle.json_text.proofs.json_fault.Goals as goal

pub loop-i-init : goal.loop-i-init
loop-i-init c = ongoing_start _

pub loop-i-preserved-in-To : goal.loop-i-preserved-in-To
loop-i-preserved-in-To c = turn_to c.loop-i.invariant c.loop-i-test.true c.innermost-a.ensures c.step.ensures _ c.in-To.is

pub returns-then-n-ge-FULL : goal.returns-then-n-ge-FULL
returns-then-n-ge-FULL c = stop_array c.loop-i.invariant c.loop-i-test.true c.innermost-a.ensures c.step.ensures c.in-OpenArray.is c.if-n-ge-FULL.true

pub loop-i-preserved-in-OpenArray : goal.loop-i-preserved-in-OpenArray
loop-i-preserved-in-OpenArray c = turn_array c.loop-i.invariant c.loop-i-test.true c.innermost-a.ensures c.step.ensures c.in-OpenArray.is c.if-n-ge-FULL.false

pub returns-then-n-ge-FULL-2 : goal.returns-then-n-ge-FULL-2
returns-then-n-ge-FULL-2 c = stop_object c.loop-i.invariant c.loop-i-test.true c.innermost-a.ensures c.step.ensures c.in-OpenObject.is c.if-n-ge-FULL-2.true

pub loop-i-preserved-in-OpenObject : goal.loop-i-preserved-in-OpenObject
loop-i-preserved-in-OpenObject c = turn_object c.loop-i.invariant c.loop-i-test.true c.innermost-a.ensures c.step.ensures c.in-OpenObject.is c.if-n-ge-FULL-2.false

pub loop-i-preserved : goal.loop-i-preserved
loop-i-preserved c = turn_close c.loop-i.invariant c.loop-i-test.true c.innermost-a.ensures c.step.ensures _ c.in-Close.is c.without_innermost-n.ensures

pub returns-in-Bad : goal.returns-in-Bad
returns-in-Bad c = turn_bad c.loop-i.invariant c.loop-i-test.true c.innermost-a.ensures c.step.ensures _ c.in-Bad.is

pub returns : goal.returns
returns c = over c.loop-i.invariant c.loop-i-test.false c.innermost.ensures c.at_end.ensures
