-- `numbers::scan::sign_end` meets its contract.
use Rattle.std.proofs.Common.{arith}
use Rattle.numbers.specs.laws.Spans.{sign_minus, sign_plus, sign_none}
use Rattle.numbers.specs.laws.Until.{turn_byte}
use Rattle.numbers.proofs.scan.sign_end.Goals as goal
use Rattle.numbers.proofs.scan.sign_end.Goals.{then-t-eq-HYPHEN-via-then-t-eq-HYPHEN, then-t-eq-HYPHEN-via-else-t-eq-HYPHEN+then-t-eq-PLUS}

pub returns-then-t-eq-HYPHEN : goal.returns-then-t-eq-HYPHEN
returns-then-t-eq-HYPHEN g c =
    elim c.then-t-eq-HYPHEN.branch [
      | then-t-eq-HYPHEN-via-then-t-eq-HYPHEN w ↦ sign_minus (turn_byte c.unit_to-t.ensures (λ e. omega arith)) w.if-t-eq-HYPHEN.true
      | then-t-eq-HYPHEN-via-else-t-eq-HYPHEN+then-t-eq-PLUS w ↦ sign_plus (turn_byte c.unit_to-t.ensures (λ e. omega arith)) w.if-t-eq-PLUS.true
    ]

pub returns : goal.returns
returns g c = sign_none _ _ c.unit_to-t.ensures.is c.if-t-eq-HYPHEN.false c.if-t-eq-PLUS.false
