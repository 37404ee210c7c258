-- `read_xml_tokens::pieces::exactly_at` meets its contract.
use mathlib.Core.Path.{sym, ◌∙◌}
use native.Mathlib.Omega.{arith}
use borrow.Author.Rules.{rules}
use Rattle.xml.specs.laws.Starting.{starts_inside}
use Rattle.read_xml_tokens.specs.laws.PieceLaws.{exact_yes, exact_no}
use Rattle.read_xml_tokens.specs.laws.Ends.{ends_stuck}
use Rattle.read_xml_tokens.proofs.pieces.exactly_at.Goals as goal

pub returns-then-s-at : goal.returns-then-s-at
returns-then-s-at c = ends_stuck _ _ _ c.if-s-at.true

pub starts_at-requires : goal.starts_at-requires
starts_at-requires c = c.if-s-at.false

pub overflow_add-result : goal.overflow_add-result
overflow_add-result c = omega (arith, starts_inside c.args.w.now c.args.s.now c.args.at c.if-s-at.false (sym c.starts_at.ensures ∙ c.if-starts_at.true))

pub returns-then-starts_at : goal.returns-then-starts_at
returns-then-starts_at c = exact_yes _ _ _ c.if-s-at.false (sym c.starts_at.ensures ∙ c.if-starts_at.true)

pub returns : goal.returns
returns c = exact_no _ _ _ c.if-s-at.false (sym c.starts_at.ensures ∙ c.if-starts_at.false)
