use Rattle.std.proofs.Common.{sym, ap, ◌∙◌, Some}
use Rattle.std.proofs.lemmas.Bool.{false≢true}
use Rattle.sink.specs.laws.Sink.{writing}
use Rattle.source.specs.laws.Facts.{cut_plain, cut_folded, cut_none}
use Rattle.write_jcal_value.proofs.value.put_cut_rule_json.Goals as goal

pub returns-in-Some-Plain : goal.returns-in-Some-Plain
returns-in-Some-Plain g c = rw (cut_plain _ (sym c.cut.ensures ∙ c.in-Some-Plain.is ∙ ap Some c.in-Some-Plain.field-0-is)) c.put_recur_json.ensures

pub returns-in-Some-Folded : goal.returns-in-Some-Folded
returns-in-Some-Folded g c = rw (cut_folded _ (sym c.cut.ensures ∙ c.in-Some-Folded.is ∙ ap Some c.in-Some-Folded.field-0-is)) c.put_recur_json-in-Some-Folded.ensures

pub returns-in-None : goal.returns-in-None
returns-in-None g c = absurd (false≢true (sym (cut_none _ (sym c.cut.ensures ∙ c.in-None.is)) ∙ c.requires))
