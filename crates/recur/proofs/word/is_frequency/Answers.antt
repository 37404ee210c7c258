-- `recur::is_frequency` meets its contract.
use Rattle.source.specs.Source.{rest}
use Rattle.recur.specs.laws.Fits.{word_found, frequencies_are}
use Rattle.recur.specs.Parts.{frequencies}
use Rattle.recur.proofs.word.is_frequency.Goals as goal

pub returns : goal.returns
returns g c = word_found c.args.xcal (rest g.E.Encoding.encoding c.args.s.now c.args.at) frequencies frequencies_are c.find_word.ensures
