-- `read_xml_value::word_chars` meets its contract.
use mathlib.Core.Path.{sym}
use Prim.Native.Nat.{◌*◌}
use Rattle.source.specs.Source.{rest}
use Rattle.schema.specs.Sets.{words_at}
use Rattle.schema.specs.laws.Sets.{word_yes, word_no}
use Rattle.read_xml_value.specs.laws.Leaves.{tested_yes, tested_no}
use Rattle.read_xml_value.proofs.leaves.word_chars.Goals as goal

pub returns-in-Some : goal.returns-in-Some
returns-in-Some c = tested_yes c.args.place (sym (word_yes (words_at c.args.k c.args.p) (rest 1 c.args.s.now (2 * c.args.inside)) c.read_word_of.ensures c.in-Some.is))

pub returns-in-None : goal.returns-in-None
returns-in-None c = tested_no c.args.place (sym (word_no (words_at c.args.k c.args.p) (rest 1 c.args.s.now (2 * c.args.inside)) c.read_word_of.ensures c.in-None.is)) c.at.ensures
