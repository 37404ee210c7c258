-- `read_text_parameters::is_base64` meets its contract.
use Rattle.read_text_parameters.specs.laws.Before.{word_one, word_other, word_none}
use Rattle.octets.specs.Ascii.{ascii}
use Rattle.std.proofs.Common.{ap, ◌∙◌}
use Rattle.read_text_line.specs.Cursor.{there}
use Rattle.read_text_parameters.proofs.base64.is_base64.Goals as goal

pub returns-in_default : goal.returns-in_default
returns-in_default g c = word_none _ g.met.E.Cuttable.cut (ascii "BASE64") c.param_value.ensures (ap there c.in_default.is)

pub returns-then-is_word_in : goal.returns-then-is_word_in
returns-then-is_word_in g c = word_one _ g.met.E.Cuttable.cut (ascii "BASE64") c.param_value.ensures (ap there c.in-Ok.is) c.is_word_in.ensures c.if-is_word_in.true c.is_last.ensures

pub returns-else-is_word_in : goal.returns-else-is_word_in
returns-else-is_word_in g c = c.if-is_word_in.false ∙ word_other _ g.met.E.Cuttable.cut (ascii "BASE64") c.param_value.ensures (ap there c.in-Ok.is) c.is_word_in.ensures c.if-is_word_in.false
