-- `write_text_values::typed::type_of_value` meets its contract.
use mathlib.Core.Path.{sym}
use mathlib.Core.Bool.{false≢true}
use native.Mathlib.Omega.{arith}
use Rattle.values.specs.laws.ValueAt.{value_there}
use Rattle.write_text_values.specs.laws.Types.{type_is_period, type_is_recur, type_is_read, type_is_text}
use borrow.Author.Rules.{rules}
use Rattle.write_text_values.proofs.typed.type_of_value.Goals as goal

pub returns-then-t-eq-PERIOD : goal.returns-then-t-eq-PERIOD
returns-then-t-eq-PERIOD c = type_is_period c.args.t c.args.s.now c.args.i c.requires.2 c.if-t-eq-PERIOD.true

pub returns-then-t-eq-RECUR : goal.returns-then-t-eq-RECUR
returns-then-t-eq-RECUR c = type_is_recur c.args.t c.args.s.now c.args.i c.requires.2 c.if-t-eq-PERIOD.false c.if-t-eq-RECUR.true

pub overflow_mul-i : goal.overflow_mul-i
overflow_mul-i c = omega (arith, c.requires)

pub returns-in-Some : goal.returns-in-Some
returns-in-Some c = type_is_read c.args.t c.args.s.now c.args.i c.requires.2 c.if-t-eq-PERIOD.false c.if-t-eq-RECUR.false (value_there _ _ _ _ _ c.read_value.ensures (λ h. absurd (false≢true (sym h)))) c.in-Some.is

pub returns-in-None : goal.returns-in-None
returns-in-None c = type_is_text c.args.t c.args.s.now c.args.i c.requires.2 c.if-t-eq-PERIOD.false c.if-t-eq-RECUR.false (value_there _ _ _ _ _ c.read_value.ensures (λ h. absurd (false≢true (sym h)))) c.in-None.is
