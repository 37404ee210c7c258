-- `read_text_line::encoded::put_encoded` meets its contract.
use Rattle.sink.specs.laws.Sink.{writing}
use Rattle.read_text_line.specs.laws.Written.{put_plain, put_careted}
use Rattle.read_text_line.proofs.encoded.put_encoded.Goals as goal

pub enum_told-1 : goal.enum_told-1
enum_told-1 g c = search writing

pub put_rest-requires : goal.put_rest-requires
put_rest-requires g c = search writing

pub enum_told-in-Rfc6868 : goal.enum_told-in-Rfc6868
enum_told-in-Rfc6868 g c = search writing

pub put_carets-requires : goal.put_carets-requires
put_carets-requires g c = search writing

pub shape_of-out-in-Rfc5545 : goal.shape_of-out-in-Rfc5545
shape_of-out-in-Rfc5545 g c = search writing

pub returns-in-Rfc5545 : goal.returns-in-Rfc5545
returns-in-Rfc5545 g c = search (put_plain, writing)

pub shape_of-out-in-Rfc6868 : goal.shape_of-out-in-Rfc6868
shape_of-out-in-Rfc6868 g c = search writing

pub returns-in-Rfc6868 : goal.returns-in-Rfc6868
returns-in-Rfc6868 g c = search (put_careted, writing)
