-- `read_xml_value::value_chars` meets its contract.
use mathlib.Core.Path.{sym}
use mathlib.Core.Bool.{false≢true}
use Rattle.values.specs.laws.ValueAt.{good_yes, good_no, value_there}
use Rattle.read_xml_value.specs.laws.Leaves.{tested_yes, tested_no}
use Rattle.read_xml_value.proofs.leaves.value_chars.Goals as goal

pub returns-in-Some : goal.returns-in-Some
returns-in-Some c = tested_yes c.args.place (sym (good_yes c.args.t (value_there _ _ _ _ _ c.read_value.ensures (λ h. absurd (false≢true (sym h)))) c.in-Some.is))

pub returns-in-None : goal.returns-in-None
returns-in-None c = tested_no c.args.place (sym (good_no c.args.t (value_there _ _ _ _ _ c.read_value.ensures (λ h. absurd (false≢true (sym h)))) c.in-None.is)) c.at.ensures
