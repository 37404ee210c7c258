use Rattle.std.proofs.Common.{sym, ◌∙◌, arith, refl}
use Rattle.source.specs.laws.Facts.{over_cut, meant_small, caret_other, caret_letter, caret_itself, caret_last}
use Rattle.source.proofs.carets.CaretsEncoding.step.Goals as goal

pub returns-in_err-first : goal.returns-in_err-first
returns-in_err-first g c = rw c.from_residual.ensures (caret_other (over_cut _ g.met.B.Cuttable.cut) c.in_err-first.ensures (λ h. omega arith))

pub returns-then-first-ne94 : goal.returns-then-first-ne94
returns-then-first-ne94 g c = caret_other (over_cut _ g.met.B.Cuttable.cut) c.in_ok-first.ensures c.if-first-ne94.true

pub returns-in_default : goal.returns-in_default
returns-in_default g c = caret_last (over_cut _ g.met.B.Cuttable.cut) c.in_ok-first.ensures c.if-first-ne94.false c.in_default.ensures refl

pub overflow_cast-result : goal.overflow_cast-result
overflow_cast-result g c = record { fits = rw c.meant.ensures (meant_small _) }

pub returns-then-is_letter : goal.returns-then-is_letter
returns-then-is_letter g c =
    caret_letter (over_cut _ g.met.B.Cuttable.cut) c.in_ok-first.ensures c.if-first-ne94.false c.in-Some.ensures (λ h. omega (arith, c.in-Some.ensures.small)) (sym c.is_letter.ensures ∙ c.if-is_letter.true) _ c.meant.ensures

pub returns : goal.returns
returns g c =
    caret_itself (over_cut _ g.met.B.Cuttable.cut) c.in_ok-first.ensures c.if-first-ne94.false c.in-Some.ensures (λ h. omega arith) (sym c.is_letter.ensures ∙ c.if-is_letter.false)
