-- `texts::put_text_xml` meets its contract.
use Rattle.sink.specs.laws.Sink.{writing}
use Rattle.texts.specs.laws.Written.{put_read, put_unread}
use Rattle.texts.proofs.written.put_text_xml.Goals as goal

pub returns-then-read_one_text : goal.returns-then-read_one_text
returns-then-read_one_text g c = search (put_read, writing)

pub returns : goal.returns
returns g c = search (put_unread, writing)
