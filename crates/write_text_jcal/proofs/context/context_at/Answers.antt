-- `write_text_jcal::context_at` meets its contract. Assumes nothing.
use Rattle.write_text_jcal.specs.laws.Context.{context_made}
use Rattle.sink.specs.laws.Sink.{writing}
use Rattle.write_text_jcal.proofs.context.context_at.Goals as goal

pub string_at-c-requires : goal.string_at-c-requires
string_at-c-requires c = search writing

pub row_of-row-requires : goal.row_of-row-requires
row_of-row-requires c = search writing

pub type_at-t-requires : goal.type_at-t-requires
type_at-t-requires c = search writing

pub returns : goal.returns
returns c = context_made c.args.k c.args.s.now c.args.inside _ c.string_at-c.ensures c.row_of-row.ensures c.type_at-t.ensures
