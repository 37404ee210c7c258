-- `names::name_end` meets its contract.
use mathlib.Core.Path.{sym, ◌∙◌}
use Rattle.names.specs.laws.Runs.{run_more, run_stop, running, name_end}
use Rattle.names.specs.laws.Plain.{run_as}
use Rattle.names.proofs.name_end.Goals as goal

pub loop-n-init : goal.loop-n-init
loop-n-init g c = search running

pub loop-n-smaller : goal.loop-n-smaller
loop-n-smaller g c = search running

pub returns-then-not-is_name_char : goal.returns-then-not-is_name_char
returns-then-not-is_name_char g c = run_stop c.loop-n.invariant c.unit-n.ensures (sym c.is_name_char.ensures ∙ c.if-not-is_name_char.true)

pub loop-n-preserved : goal.loop-n-preserved
loop-n-preserved g c = run_more c.loop-n.invariant c.unit-n.ensures name_end (sym c.is_name_char.ensures ∙ c.if-not-is_name_char.false)
