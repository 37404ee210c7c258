-- `read_text_whole::read_folded` meets its contract.
use mathlib.Core.Path.{refl, sym, ◌∙◌}
use native.Mathlib.Omega.{arith}
use Rattle.read_text_whole.specs.laws.Steps.{folded_long, folded_edition, folded_read}
use Rattle.read_text_whole.proofs.folded.read_folded.Goals as goal

pub returns-then-input-gt65535 : goal.returns-then-input-gt65535
returns-then-input-gt65535 c = rw c.at.ensures (folded_long c.args.input.now c.args.edition (omega arith))

pub returns-in_default : goal.returns-in_default
returns-in_default c = rw c.at-in_default.ensures (folded_edition c.args.input.now c.args.edition (omega arith) (sym c.in_default.is ∙ c.edition_of.ensures))

pub returns : goal.returns
returns c = folded_read c.args.input.now c.args.edition c.judged.result (omega arith) (sym c.in-Some.is ∙ c.edition_of.ensures) c.judged.ensures
