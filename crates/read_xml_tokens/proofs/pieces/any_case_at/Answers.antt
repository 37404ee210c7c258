-- `read_xml_tokens::pieces::any_case_at` meets its contract.
use mathlib.Core.Path.{sym, ◌∙◌}
use native.Mathlib.Omega.{arith}
use borrow.Author.Rules.{rules}
use Rattle.read_xml_tokens.specs.laws.PieceLaws.{any_case_room, any_case_yes, any_case_no}
use Rattle.read_xml_tokens.specs.laws.Ends.{ends_stuck}
use Rattle.read_xml_tokens.proofs.pieces.any_case_at.Goals as goal

pub returns-then-s-at : goal.returns-then-s-at
returns-then-s-at c = ends_stuck _ _ _ c.if-s-at.true

pub overflow_add-result : goal.overflow_add-result
overflow_add-result c = omega (arith, any_case_room c.args.s.now c.args.at c.args.w.now c.if-s-at.false (sym c.lowered_at.ensures ∙ c.if-lowered_at.true))

pub returns-then-lowered_at : goal.returns-then-lowered_at
returns-then-lowered_at c = any_case_yes _ _ _ c.if-s-at.false (sym c.lowered_at.ensures ∙ c.if-lowered_at.true)

pub returns : goal.returns
returns c = any_case_no _ _ _ c.if-s-at.false (sym c.lowered_at.ensures ∙ c.if-lowered_at.false)
