-- `json_text::digits_at` meets its contract. Assumes nothing.
use native.Mathlib.Omega.{arith}
use Rattle.octets.specs.laws.Pick.{flag_yes, flag_no}
use Rattle.json_text.specs.laws.CharAt.{pair_bounds, pair_char, lone_char, unit_char, none_char}
use borrow.Author.Rules.{rules}
use Rattle.json_text.proofs.characters.digits_at.Goals as goal

pub overflow_add-p-then-is_high : goal.overflow_add-p-then-is_high
overflow_add-p-then-is_high c = omega (arith, c.requires.0)

pub pair_of-requires : goal.pair_of-requires
pair_of-requires c = pair_bounds _ _ (flag_yes _ _ c.is_high.ensures c.if-is_high.true) (flag_yes _ _ c.is_low.ensures c.if-is_low.true)

pub overflow_add-result-then-is_low : goal.overflow_add-result-then-is_low
overflow_add-result-then-is_low c = omega (arith, c.requires.0)

pub returns-then-is_low : goal.returns-then-is_low
returns-then-is_low c = pair_char _ _ (omega (arith, c.requires.0)) c.requires.1 c.requires.0 c.requires.2 _ c.code_unit-v.ensures (flag_yes _ _ c.is_high.ensures c.if-is_high.true) _ c.code_unit-l.ensures _ (flag_yes _ _ c.is_low.ensures c.if-is_low.true) c.pair_of.ensures.0 c.pair_of.ensures.1

pub returns-then-is_high : goal.returns-then-is_high
returns-then-is_high c = lone_char _ _ (omega (arith, c.requires.0)) c.requires.1 c.requires.0 c.requires.2 _ c.code_unit-v.ensures (flag_yes _ _ c.is_high.ensures c.if-is_high.true) _ c.code_unit-l.ensures _ (flag_no _ _ c.is_low.ensures c.if-is_low.false)

pub overflow_add-result-then-v-lt-NO_UNIT-2 : goal.overflow_add-result-then-v-lt-NO_UNIT-2
overflow_add-result-then-v-lt-NO_UNIT-2 c = omega (arith, c.requires.0)

pub returns-then-v-lt-NO_UNIT : goal.returns-then-v-lt-NO_UNIT
returns-then-v-lt-NO_UNIT c = unit_char _ _ (omega (arith, c.requires.0)) c.requires.1 c.requires.0 c.requires.2 _ c.code_unit-v.ensures (flag_no _ _ c.is_high.ensures c.if-is_high.false) c.if-v-lt-NO_UNIT.true

pub returns : goal.returns
returns c = none_char _ _ (omega (arith, c.requires.0)) c.requires.1 c.requires.0 c.requires.2 _ c.code_unit-v.ensures _ (flag_no _ _ c.is_high.ensures c.if-is_high.false) c.if-v-lt-NO_UNIT.false
