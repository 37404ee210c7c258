-- `write_text_jcal::put_content_line` meets its contract. Assumes nothing.
use Rattle.write_text_jcal.specs.laws.Content.{line_put}
use Rattle.sink.specs.laws.Sink.{writing}
use Rattle.write_text_jcal.proofs.content.put_content_line.Goals as goal

pub string_at-c-requires : goal.string_at-c-requires
string_at-c-requires c = search writing

pub put_upper-a-requires : goal.put_upper-a-requires
put_upper-a-requires c = search writing

pub context_at-context-requires : goal.context_at-context-requires
context_at-context-requires c = search writing

pub put_line_end-requires : goal.put_line_end-requires
put_line_end-requires c = (c.requires.0, c.context_at-context.ensures.small)

pub shape_of-out : goal.shape_of-out
shape_of-out c = search writing

pub returns : goal.returns
returns c = line_put c.args.edition c.args.s.now c.args.k c.args.inside _ c.requires.1 c.string_at-c.ensures c.context_at-context.ensures c.put_upper-a.ensures c.put_line_end.ensures
