-- `write_xml::parts::put_head` meets its contract.
use borrow.Author.Rules.{rules}
use lib.Seq.{length-take-le}
use Rattle.write_xml.specs.laws.Parts.{head_put}
use Rattle.write_xml.specs.laws.Places.{ahead_ready}
use Rattle.write_xml.proofs.parts.put_head.Goals as goal

pub slice_bounds-component_number-end : goal.slice_bounds-component_number-end
slice_bounds-component_number-end g c = search (length-take-le, rules)

pub slice_bounds-put_small_start-end : goal.slice_bounds-put_small_start-end
slice_bounds-put_small_start-end g c = search (length-take-le, rules)

pub cut_at_level-b-requires : goal.cut_at_level-b-requires
cut_at_level-b-requires g c = search (ahead_ready, rules)

pub slice_bounds-has_components-end : goal.slice_bounds-has_components-end
slice_bounds-has_components-end g c = search (length-take-le, rules)

pub returns : goal.returns
returns g c = head_put _ _ _ _ c.component_number-k.ensures c.put_small_start-a.ensures c.put_properties_element-all.ensures (c.cut_at_level-b.ensures _ c.put_properties_element-all.ensures.ahead) c.has_components-there.ensures c.put_components_start-c.ensures
