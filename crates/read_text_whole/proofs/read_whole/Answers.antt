-- `read_text_whole::read_whole` meets its contract.
use mathlib.Core.Path.{refl, sym, ◌∙◌}
use native.Mathlib.Omega.{arith}
use Rattle.read_text_whole.specs.laws.Steps.{kept_inside, kept_count, too_long, no_room, no_edition, unfolded_read}
use Rattle.read_text_whole.proofs.read_whole.Goals as goal

pub returns-then-input-gt65535 : goal.returns-then-input-gt65535
returns-then-input-gt65535 c = rw c.at.ensures (too_long c.args.input.now c.args.work.now c.args.edition (omega arith))

pub returns-then-work-input : goal.returns-then-work-input
returns-then-work-input c = rw c.at-then-work-input.ensures (no_room c.args.input.now c.args.work.now c.args.edition (omega arith) (omega arith))

pub returns-in_default : goal.returns-in_default
returns-in_default c = rw c.at-in_default.ensures (no_edition c.args.input.now c.args.work.now c.args.edition (omega arith) (omega arith) (sym c.in_default.is ∙ c.edition_of.ensures))

pub slice_bounds-judged-end : goal.slice_bounds-judged-end
slice_bounds-judged-end c = kept_inside c.unfold-n.ensures

pub slice_bounds-judged-end-2 : goal.slice_bounds-judged-end-2
slice_bounds-judged-end-2 c = kept_count c.unfold-n.ensures

pub returns : goal.returns
returns c = unfolded_read c.args.input.now c.args.work.now c.args.edition (omega arith) (omega arith) c.judged.result (sym c.in-Some.is ∙ c.edition_of.ensures) c.unfold-n.ensures c.judged.ensures
