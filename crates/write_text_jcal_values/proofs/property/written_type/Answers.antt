-- `write_text_jcal_values::written_type` meets its contract. Assumes nothing.
use Rattle.write_text_jcal_values.specs.laws.Property.{written_geo, written_status, written_word, written_stated}
use Rattle.sink.specs.laws.Sink.{writing}
use Rattle.write_text_jcal_values.proofs.property.written_type.Goals as goal

pub returns-then-p-eq-GEO : goal.returns-then-p-eq-GEO
returns-then-p-eq-GEO c = written_geo c.args.context.component c.args.context.row.number c.args.context.value_type c.requires c.if-p-eq-GEO.true

pub returns-then-p-eq-REQUEST_STATUS : goal.returns-then-p-eq-REQUEST_STATUS
returns-then-p-eq-REQUEST_STATUS c = written_status c.args.context.component c.args.context.row.number c.args.context.value_type c.requires c.if-p-eq-GEO.false c.if-p-eq-REQUEST_STATUS.true

pub has_words-words-requires : goal.has_words-words-requires
has_words-words-requires c = search writing

pub returns-then-words : goal.returns-then-words
returns-then-words c = written_word c.args.context.component c.args.context.row.number c.args.context.value_type c.requires c.if-p-eq-GEO.false c.if-p-eq-REQUEST_STATUS.false c.has_words-words.ensures c.if-words.true

pub returns : goal.returns
returns c = written_stated c.args.context.component c.args.context.row.number c.args.context.value_type c.requires c.if-p-eq-GEO.false c.if-p-eq-REQUEST_STATUS.false c.has_words-words.ensures c.if-words.false
