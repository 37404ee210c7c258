-- `read_text_line::ends::line_end` meets its contract.
use Rattle.read_text_line.specs.laws.LineEnd.{seeking_start, seeking_none, seeking_other, seeking_return, seeking_less, seeking_found}
use Rattle.std.proofs.Common.{sym, ap, ◌∙◌, Some}
use Rattle.source.specs.laws.Facts.{cut_plain}
use Rattle.read_text_line.proofs.ends.line_end.Goals as goal

pub returns-in-Some-Plain : goal.returns-in-Some-Plain
returns-in-Some-Plain g c = rw (cut_plain _ (sym c.cut.ensures ∙ c.in-Some-Plain.is ∙ ap Some c.in-Some-Plain.field-0-is)) c.line_end_plain.ensures

pub loop-n-init : goal.loop-n-init
loop-n-init g c = seeking_start _ _ _

pub returns-then-n-eq-END : goal.returns-then-n-eq-END
returns-then-n-eq-END g c = seeking_none c.loop-n.invariant c.unit-n.ensures c.if-n-eq-END.true

pub returns-then-k-eq-LF : goal.returns-then-k-eq-LF
returns-then-k-eq-LF g c = seeking_found c.loop-n.invariant c.unit-n.ensures c.if-n-eq-END.false c.unit-k.ensures c.if-n-eq-CR.true c.if-k-eq-LF.true c.settled-next.ensures

pub loop-n-smaller-else-k-eq-LF : goal.loop-n-smaller-else-k-eq-LF
loop-n-smaller-else-k-eq-LF g c = seeking_less c.loop-n.invariant c.unit-n.ensures c.if-n-eq-END.false

pub loop-n-preserved-else-k-eq-LF : goal.loop-n-preserved-else-k-eq-LF
loop-n-preserved-else-k-eq-LF g c = seeking_return c.loop-n.invariant c.unit-n.ensures c.if-n-eq-END.false c.unit-k.ensures c.if-k-eq-LF.false

pub loop-n-smaller : goal.loop-n-smaller
loop-n-smaller g c = seeking_less c.loop-n.invariant c.unit-n.ensures c.if-n-eq-END.false

pub loop-n-preserved : goal.loop-n-preserved
loop-n-preserved g c = seeking_other c.loop-n.invariant c.unit-n.ensures c.if-n-eq-END.false c.if-n-eq-CR.false
