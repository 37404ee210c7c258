-- `write_jcal::components::put_head` meets its contract.
use borrow.Author.Rules.{rules}
use lib.Seq.{length-take-le}
use Rattle.write_jcal.specs.laws.Places.{ahead_ready, head_put}
use Rattle.write_jcal.proofs.components.put_head.Goals as goal

pub slice_bounds-component_number-end : goal.slice_bounds-component_number-end
slice_bounds-component_number-end g c = search (length-take-le, rules)

pub slice_bounds-put_name-end : goal.slice_bounds-put_name-end
slice_bounds-put_name-end g c = search (length-take-le, rules)

pub cut_at_level-ahead-requires : goal.cut_at_level-ahead-requires
cut_at_level-ahead-requires g c = search (ahead_ready, rules)

pub returns : goal.returns
returns g c = head_put _ _ _ _ _ c.component_number-k.ensures c.put_name-a.ensures c.put_properties-b.ensures (c.cut_at_level-ahead.ensures _ c.put_properties-b.ensures.ahead) c.put_all-c.ensures
