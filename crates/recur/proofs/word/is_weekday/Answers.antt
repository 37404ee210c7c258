-- `recur::is_weekday` meets its contract.
use Rattle.source.specs.Source.{rest}
use Rattle.recur.specs.laws.Fits.{word_found, weekdays_are}
use Rattle.recur.specs.Parts.{weekdays}
use Rattle.recur.proofs.word.is_weekday.Goals as goal

pub returns : goal.returns
returns g c = word_found c.args.xcal (rest g.E.Encoding.encoding c.args.s.now c.args.at) weekdays weekdays_are c.find_word.ensures
