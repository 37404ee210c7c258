-- `write_text_jcal::put_head` meets its contract. Assumes nothing.
use Rattle.write_text_jcal.specs.laws.Walks.{number_small, head_name, head_lines, head_put}
use Rattle.sink.specs.laws.Sink.{writing}
use Rattle.write_text_jcal.proofs.components.put_head.Goals as goal

pub string_at-c-requires : goal.string_at-c-requires
string_at-c-requires c = search writing

pub component_number-k-requires : goal.component_number-k-requires
component_number-k-requires c = search writing

pub properties_inside-from-requires : goal.properties_inside-from-requires
properties_inside-from-requires c = search writing

pub put_name_line-a-requires : goal.put_name_line-a-requires
put_name_line-a-requires c = head_name c.args.edition c.args.s.now c.args.inside _ c.string_at-c.ensures _ c.requires.1

pub put_properties-requires : goal.put_properties-requires
put_properties-requires c = (c.requires.0, number_small c.args.s.now c.args.inside 0 _ c.string_at-c.ensures c.component_number-k.ensures, head_lines c.args.edition c.args.s.now c.args.inside _ c.string_at-c.ensures _ c.requires.1 _ c.component_number-k.ensures c.properties_inside-from.ensures c.put_name_line-a.auto.line)

pub shape_of-out : goal.shape_of-out
shape_of-out c = search writing

pub shape_of-line : goal.shape_of-line
shape_of-line c = search writing

pub returns : goal.returns
returns c = head_put c.args.edition c.args.s.now c.args.inside _ c.string_at-c.ensures _ c.component_number-k.ensures c.properties_inside-from.ensures _ c.put_name_line-a.ensures c.put_properties.ensures
