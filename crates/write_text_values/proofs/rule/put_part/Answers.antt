-- `write_text_values::rule::put_part` meets its contract.
use lib.Seq.{length-take-le}
use Rattle.sink.specs.laws.Sink.{◌▷◌, writing}
use borrow.Author.Rules.{rules}
use Rattle.write_text_values.proofs.rule.put_part.Goals as goal

pub put_between-a-requires : goal.put_between-a-requires
put_between-a-requires c = search writing

pub slice_bounds-put_upper-end : goal.slice_bounds-put_upper-end
slice_bounds-put_upper-end c = search (length-take-le, rules)

pub put_upper-b-requires : goal.put_upper-b-requires
put_upper-b-requires c = search writing

pub put_all-c-requires : goal.put_all-c-requires
put_all-c-requires c = search writing

pub put_items-requires : goal.put_items-requires
put_items-requires c = (c.requires.0, c.requires.1)

pub shape_of-out : goal.shape_of-out
shape_of-out c = search writing

pub returns : goal.returns
returns c = c.put_between-a.ensures ▷ c.put_upper-b.ensures ▷ c.put_all-c.ensures ▷ c.put_items.ensures
