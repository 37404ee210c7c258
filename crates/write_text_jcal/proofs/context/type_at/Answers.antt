-- `write_text_jcal::type_at` meets its contract. Assumes nothing.
use Rattle.write_text_jcal.specs.laws.Context.{type_word, type_other}
use Rattle.sink.specs.laws.Sink.{writing}
use Rattle.write_text_jcal.proofs.context.type_at.Goals as goal

pub skip-at-requires : goal.skip-at-requires
skip-at-requires c = search writing

pub string_at-c-requires : goal.string_at-c-requires
string_at-c-requires c = search writing

pub find_word-t-requires : goal.find_word-t-requires
find_word-t-requires c = search writing

pub returns-then-t-le-UNKNOWN : goal.returns-then-t-le-UNKNOWN
returns-then-t-le-UNKNOWN c = type_word c.args.s.now c.args.inside _ _ c.skip-at.ensures c.string_at-c.ensures c.find_word-t.ensures c.if-t-le-UNKNOWN.true

pub returns : goal.returns
returns c = type_other c.args.s.now c.args.inside _ _ c.skip-at.ensures c.string_at-c.ensures c.find_word-t.ensures c.if-t-le-UNKNOWN.false
