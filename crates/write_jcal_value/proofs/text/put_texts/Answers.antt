-- `write_jcal_value::text::put_texts` meets its contract.
use Rattle.sink.specs.laws.Sink.{writing}
use Rattle.write_jcal_value.specs.laws.Texts.{put_strings, put_no_strings}
use Rattle.write_jcal_value.proofs.text.put_texts.Goals as goal

pub read_text-requires : goal.read_text-requires
read_text-requires g c = search writing

pub put_strings_quoted-requires : goal.put_strings_quoted-requires
put_strings_quoted-requires g c = search writing

pub shape_of-out-then-read_text : goal.shape_of-out-then-read_text
shape_of-out-then-read_text g c = search writing

pub returns-then-read_text : goal.returns-then-read_text
returns-then-read_text g c = search (put_strings, writing)

pub returns : goal.returns
returns g c = search (put_no_strings, writing)
