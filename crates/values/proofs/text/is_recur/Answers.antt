-- `values::text::is_recur` meets its contract.
use Rattle.std.proofs.Common.{sym, ap, ◌∙◌, refl, Some}
use Rattle.source.specs.laws.Facts.{cut_plain, cut_folded, cut_none}
use Rattle.values.specs.laws.ValueAt.{recur_xml, recur_is, recur_uncut}
use Rattle.values.proofs.text.is_recur.Goals as goal

pub returns-then-xcal : goal.returns-then-xcal
returns-then-xcal g c = recur_xml _ _ c.if-xcal.true

pub returns-in-Some-Plain : goal.returns-in-Some-Plain
returns-in-Some-Plain g c = let m = cut_plain _ (sym c.cut.ensures ∙ c.in-Some-Plain.is ∙ ap Some c.in-Some-Plain.field-0-is) in recur_is _ _ c.if-xcal.false (rw m refl) (c.read_rule.ensures ∙ rw m refl)

pub returns-in-Some-Folded : goal.returns-in-Some-Folded
returns-in-Some-Folded g c = let m = cut_folded _ (sym c.cut.ensures ∙ c.in-Some-Folded.is ∙ ap Some c.in-Some-Folded.field-0-is) in recur_is _ _ c.if-xcal.false (rw m refl) (c.read_rule-in-Some-Folded.ensures ∙ rw m refl)

pub returns-in-None : goal.returns-in-None
returns-in-None g c = recur_uncut _ _ c.if-xcal.false (cut_none _ (sym c.cut.ensures ∙ c.in-None.is))
