-- `read_text_property::own::read_chosen` meets its contract.
use Rattle.octets.specs.Class.{upper}
use Rattle.source.specs.Source.{rest}
use Rattle.schema.specs.Sets.{words_at}
use Rattle.schema.specs.laws.Sets.{word_yes, word_no}
use Rattle.values.specs.laws.ValueAt.{good_yes, good_no, value_there}
use Rattle.read_text_property.specs.laws.ValuesAt.{values_yes, values_no, chosen_word, chosen_value}
use Rattle.read_text_property.proofs.own.read_chosen.Goals as goal

pub returns-in_default : goal.returns-in_default
returns-in_default g c = values_no c.args.c.value_type (chosen_word _ _ _ c.has_words-closed.ensures c.if-closed.true (word_no (words_at c.args.c.component c.args.c.row.number) (upper (rest g.E.Encoding.encoding c.args.s.now c.args.at)) c.read_word_of.ensures c.in_default.is))

pub returns-then-closed : goal.returns-then-closed
returns-then-closed g c = values_yes c.args.c.value_type (chosen_word _ _ _ c.has_words-closed.ensures c.if-closed.true (word_yes (words_at c.args.c.component c.args.c.row.number) (upper (rest g.E.Encoding.encoding c.args.s.now c.args.at)) c.read_word_of.ensures c.in-Some.is))

pub returns-in_default-read_value : goal.returns-in_default-read_value
returns-in_default-read_value g c = values_no c.args.c.value_type (chosen_value _ _ _ c.has_words-closed.ensures c.if-closed.false (good_no c.args.c.value_type (value_there _ _ _ _ _ c.read_value.ensures (λ h. g.met.E.Cuttable.cut)) c.in_default-read_value.is))

pub returns : goal.returns
returns g c = values_yes c.args.c.value_type (chosen_value _ _ _ c.has_words-closed.ensures c.if-closed.false (good_yes c.args.c.value_type (value_there _ _ _ _ _ c.read_value.ensures (λ h. g.met.E.Cuttable.cut)) c.in-Some-read_value.is))
