-- `names::find_cased` meets its contract.
use mathlib.Core.Path.{sym, ◌∙◌}
use Rattle.names.specs.laws.Matching.{seeking, seek_found, seek_next}
use Rattle.names.proofs.find_cased.Goals as goal

pub loop-i-init : goal.loop-i-init
loop-i-init g c = search seeking

pub returns-then-is_end : goal.returns-then-is_end
returns-then-is_end g c = seek_found c.loop-i.invariant c.loop-i-test.true c.if-t-eq10.true (sym c.is_end.ensures ∙ c.if-is_end.true)

pub loop-i-preserved-then-t-eq10 : goal.loop-i-preserved-then-t-eq10
loop-i-preserved-then-t-eq10 g c = seek_next c.loop-i.invariant c.loop-i-test.true c.if-t-eq10.true (sym c.is_end.ensures ∙ c.if-is_end.false)

pub loop-i-preserved-in-Some : goal.loop-i-preserved-in-Some
loop-i-preserved-in-Some g c = search seeking

pub loop-i-preserved : goal.loop-i-preserved
loop-i-preserved g c = search seeking

pub returns : goal.returns
returns g c = search seeking
