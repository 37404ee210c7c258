-- `recur::first_letter` meets its contract.
use Rattle.recur.specs.laws.Fits.{letter_end, letter_here, letter_later}
use Rattle.source.specs.laws.Facts.{byte_small}
use native.Mathlib.Omega.{arith}
use mathlib.Core.Path.{refl}
use mathlib.Core.Path.{sym, ◌∙◌}
use Rattle.recur.proofs.word.first_letter.Goals as goal

pub loop-t-init : goal.loop-t-init
loop-t-init g c = record { left = refl }

pub returns-then-t-eq-END : goal.returns-then-t-eq-END
returns-then-t-eq-END g c = letter_end c.loop-t.invariant c.unit-t.ensures c.if-t-eq-END.true

pub returns-then-is_alpha : goal.returns-then-is_alpha
returns-then-is_alpha g c = letter_here c.loop-t.invariant c.unit-t.ensures c.if-t-eq-END.false (sym c.is_alpha.ensures ∙ c.if-is_alpha.true)

pub loop-t-smaller : goal.loop-t-smaller
loop-t-smaller g c = omega (arith, byte_small c.unit-t.ensures c.if-t-eq-END.false)

pub loop-t-preserved : goal.loop-t-preserved
loop-t-preserved g c = letter_later c.loop-t.invariant c.unit-t.ensures c.if-t-eq-END.false (sym c.is_alpha.ensures ∙ c.if-is_alpha.false)
