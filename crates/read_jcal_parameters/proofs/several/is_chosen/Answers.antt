-- `read_jcal_parameters::several::is_chosen` meets its contract.
use Rattle.source.specs.Source.{rest}
use Rattle.schema.specs.Sets.{parameter_words_at}
use Rattle.read_jcal_parameters.specs.laws.Values.{word_told, chosen_word, chosen_typed}
use borrow.Author.Rules.{rules}
use Rattle.read_jcal_parameters.proofs.several.is_chosen.Goals as goal

pub returns-then-closed : goal.returns-then-closed
returns-then-closed c =
    chosen_word c.args.q _ c.parameter_has_words-closed.ensures c.if-closed.true (word_told (parameter_words_at c.args.q) (rest 3 c.args.s.now c.args.at) c.read_word_of_parameter.ensures c.is_some.ensures)

pub returns : goal.returns
returns c = search (chosen_typed, rules)
