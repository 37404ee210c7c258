use Rattle.std.proofs.Common.{rules, arith, sym, ◌∙◌}
use Rattle.octets.specs.laws.Pick.{flag_yes, flag_no}
use Rattle.documents.proofs.laws.Log.{ending_start, ending_more, ending_here, ending_nowhere}
use Rattle.documents.proofs.document_end.Goals as goal

pub loop-i-init : goal.loop-i-init
loop-i-init c = ending_start c.args.log.now

pub returns-then-starts_at : goal.returns-then-starts_at
returns-then-starts_at c = ending_here c.args.log.now c.loop-i.i (record { inside = c.loop-i.invariant.inside; left = c.loop-i.invariant.left }) (search rules) (flag_yes _ _ c.starts_at.ensures c.if-starts_at.true)

pub loop-i-preserved : goal.loop-i-preserved
loop-i-preserved c = ending_more c.args.log.now c.loop-i.i (record { inside = c.loop-i.invariant.inside; left = c.loop-i.invariant.left }) (search rules) (flag_no _ _ c.starts_at.ensures c.if-starts_at.false)

pub returns : goal.returns
returns c = ending_nowhere c.args.log.now c.loop-i.i (record { inside = c.loop-i.invariant.inside; left = c.loop-i.invariant.left }) (search rules)
