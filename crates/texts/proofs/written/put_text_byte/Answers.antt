-- `texts::put_text_byte` meets its contract.
use Rattle.octets.specs.laws.Pick.{flag_yes, flag_no}
use Rattle.sink.specs.laws.Sink.{writing}
use Rattle.texts.specs.laws.Written.{put_two}
use Rattle.texts.proofs.written.put_text_byte.Goals as goal

pub returns-then-b-eq10 : goal.returns-then-b-eq10
returns-then-b-eq10 c = search (put_two, flag_yes, flag_no, writing)

pub returns-then-is_escaped : goal.returns-then-is_escaped
returns-then-is_escaped c = search (put_two, flag_yes, flag_no, writing)
