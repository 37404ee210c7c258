-- `write_text_jcal_values::put_number` meets its contract. Assumes nothing.
use Rattle.write_text_jcal_values.specs.laws.Scalars.{cut_place}
use Rattle.write_text_jcal_values.specs.laws.Scalars.{number_put, no_number}
use borrow.Author.Rules.{rules}
use lib.Seq.{length-take-le}
use Rattle.sink.specs.laws.Sink.{writing}
use Rattle.write_text_jcal_values.proofs.scalar.put_number.Goals as goal

pub slice_bounds-read_number-end : goal.slice_bounds-read_number-end
slice_bounds-read_number-end c = search (length-take-le, rules)

pub read_number-requires : goal.read_number-requires
read_number-requires c = cut_place _ _ _ c.requires.0 c.requires.1

pub returns-in_default : goal.returns-in_default
returns-in_default c = no_number c.args.s.now c.args.place c.args.next c.read_number.ensures c.in_default.is

pub put_whole-requires : goal.put_whole-requires
put_whole-requires c = search writing

pub returns : goal.returns
returns c = number_put c.args.s.now c.args.place c.args.next c.read_number.ensures c.in-Some.is c.put_whole.ensures
