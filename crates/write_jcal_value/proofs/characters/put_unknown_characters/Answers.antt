-- `write_jcal_value::characters::put_unknown_characters` meets its contract.
use Rattle.sink.specs.laws.Sink.{writing}
use Rattle.write_jcal_value.specs.laws.Characters.{put_unknown_read, put_unknown_unread}
use Rattle.write_jcal_value.proofs.characters.put_unknown_characters.Goals as goal

pub read_unknown-requires : goal.read_unknown-requires
read_unknown-requires g c = search writing

pub put_escaped-requires : goal.put_escaped-requires
put_escaped-requires g c = search writing

pub shape_of-out-then-read_unknown : goal.shape_of-out-then-read_unknown
shape_of-out-then-read_unknown g c = search writing

pub returns-then-read_unknown : goal.returns-then-read_unknown
returns-then-read_unknown g c = search (put_unknown_read, writing)

pub returns : goal.returns
returns g c = search (put_unknown_unread, writing)
