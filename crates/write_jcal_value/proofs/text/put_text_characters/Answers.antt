-- `write_jcal_value::text::put_text_characters` meets its contract.
use Rattle.sink.specs.laws.Sink.{writing}
use Rattle.write_jcal_value.specs.laws.Texts.{text_alone, put_read, put_unread}
use Rattle.write_jcal_value.proofs.text.put_text_characters.Goals as goal

pub read_one_text-requires : goal.read_one_text-requires
read_one_text-requires g c = search writing

pub put_strings-requires : goal.put_strings-requires
put_strings-requires g c = search writing

pub shape_of-out-then-read_one_text : goal.shape_of-out-then-read_one_text
shape_of-out-then-read_one_text g c = search writing

pub returns-then-read_one_text : goal.returns-then-read_one_text
returns-then-read_one_text g c = search (put_read, text_alone, writing)

pub returns : goal.returns
returns g c = search (put_unread, writing)
