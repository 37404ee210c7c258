-- `read_text_parameters::is_chosen` meets its contract.
use Rattle.octets.specs.Class.{upper}
use Rattle.source.specs.Source.{rest}
use Rattle.schema.specs.Sets.{parameter_words_at}
use Rattle.schema.specs.laws.Sets.{word_yes, word_no}
use Rattle.read_text_parameters.specs.laws.Typing.{chosen_word, chosen_other}
use Rattle.read_text_parameters.proofs.typed.is_chosen.Goals as goal

pub returns-in_default : goal.returns-in_default
returns-in_default g c = chosen_word _ _ _ c.parameter_has_words-closed.ensures c.if-closed.true (word_no (parameter_words_at c.args.q) (upper (rest g.E.Encoding.encoding c.args.s.now c.args.at)) c.read_word_of_parameter.ensures c.in_default.is)

pub returns-then-closed : goal.returns-then-closed
returns-then-closed g c = chosen_word _ _ _ c.parameter_has_words-closed.ensures c.if-closed.true (word_yes (parameter_words_at c.args.q) (upper (rest g.E.Encoding.encoding c.args.s.now c.args.at)) c.read_word_of_parameter.ensures c.in-Some.is)

pub returns : goal.returns
returns g c = chosen_other _ _ _ c.parameter_has_words-closed.ensures c.if-closed.false c.is_typed.ensures
