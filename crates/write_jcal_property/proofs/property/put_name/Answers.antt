-- `write_jcal_property::property::put_name` meets its contract.
use lib.Seq.{length-take-le}
use borrow.Author.Rules.{rules}
use Rattle.sink.specs.laws.Sink.{writing}
use Rattle.write_jcal_property.proofs.property.put_name.Goals as goal

pub put-a-requires : goal.put-a-requires
put-a-requires g c = search writing

pub slice_bounds-put_small_quoted-end : goal.slice_bounds-put_small_quoted-end
slice_bounds-put_small_quoted-end g c = search (length-take-le, rules)

pub put_small_quoted-b-requires : goal.put_small_quoted-b-requires
put_small_quoted-b-requires g c = search writing

pub put-requires : goal.put-requires
put-requires g c = search writing

pub shape_of-out : goal.shape_of-out
shape_of-out g c = search writing

pub returns : goal.returns
returns g c = search writing
