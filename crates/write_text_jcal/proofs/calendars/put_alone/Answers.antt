-- `write_text_jcal::put_alone` meets its contract. Assumes nothing.
use Rattle.write_text_jcal.specs.laws.Calendars.{alone_head, alone_inside, alone_tail, alone_put}
use mathlib.Core.Path.{◌∙◌}
use Rattle.sink.specs.laws.Sink.{writing}
use Rattle.write_text_jcal.proofs.calendars.put_alone.Goals as goal

pub put_head-a-requires : goal.put_head-a-requires
put_head-a-requires c = (c.requires.0, alone_head c.args.edition c.args.s.now c.args.inside _ c.requires.1)

pub components_inside-inner-requires : goal.components_inside-inner-requires
components_inside-inner-requires c = search writing

pub put_components-b-requires : goal.put_components-b-requires
put_components-b-requires c = (c.requires.0, alone_inside c.args.edition c.args.s.now c.args.inside _ c.requires.1 _ c.components_inside-inner.ensures c.put_head-a.auto.line)

pub put_tail-requires : goal.put_tail-requires
put_tail-requires c = (c.requires.0, alone_tail c.args.edition c.args.s.now c.args.inside _ c.requires.1 (c.put_components-b.auto.line ∙ c.put_head-a.auto.line))

pub shape_of-out : goal.shape_of-out
shape_of-out c = search writing

pub shape_of-line : goal.shape_of-line
shape_of-line c = search writing

pub returns : goal.returns
returns c = alone_put c.args.edition c.args.s.now c.args.inside _ c.components_inside-inner.ensures _ c.put_head-a.ensures c.put_components-b.ensures c.put_tail.ensures
