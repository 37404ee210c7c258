-- `write_text_jcal::components_inside` meets its contract. Assumes nothing.
use Rattle.write_text_jcal.specs.laws.Walks.{array_behind}
use Rattle.sink.specs.laws.Sink.{writing}
use Rattle.write_text_jcal.proofs.components.components_inside.Goals as goal

pub skip-at-requires : goal.skip-at-requires
skip-at-requires c = search writing

pub array_at-requires : goal.array_at-requires
array_at-requires c = search writing

pub returns : goal.returns
returns c = array_behind c.args.s.now c.args.inside _ _ 2 c.skip-at.ensures c.array_at.ensures
