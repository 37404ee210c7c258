-- `xml_to_text::to_text` meets its contract.
use mathlib.Core.Path.{sym, ◌∙◌}
use native.Mathlib.Omega.{arith}
use Rattle.xml_to_text.specs.laws.Steps.{too_long, no_edition, in_edition}
use Rattle.xml_to_text.proofs.to_text.Goals as goal

pub returns-then-input-gt65535 : goal.returns-then-input-gt65535
returns-then-input-gt65535 c = too_long c.args.input.now c.args.out.now c.args.edition (omega arith)

pub in_edition-requires : goal.in_edition-requires
in_edition-requires c = omega arith

pub returns-in-Some : goal.returns-in-Some
returns-in-Some c = in_edition c.args.input.now c.args.out.now c.args.edition (omega arith) (sym c.in-Some.is ∙ c.edition_of.ensures) c.in_edition.ensures

pub returns-in-None : goal.returns-in-None
returns-in-None c = no_edition c.args.input.now c.args.out.now c.args.edition (omega arith) (sym c.in-None.is ∙ c.edition_of.ensures)
