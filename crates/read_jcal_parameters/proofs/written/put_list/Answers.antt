-- `read_jcal_parameters::written::put_list` meets its contract.
use Rattle.sink.specs.laws.Sink.{writing}
use Rattle.read_jcal_parameters.specs.laws.Shapes.{string_inside, string_less}
use Rattle.read_jcal_parameters.specs.laws.Written.{emits_start, list_next, list_over}
use Rattle.read_jcal_parameters.proofs.written.put_list.Goals as goal

pub loop-c-init : goal.loop-c-init
loop-c-init c = search (emits_start, writing)

pub element_at-h-requires : goal.element_at-h-requires
element_at-h-requires c = search writing

pub is_string-string-requires : goal.is_string-string-requires
is_string-string-requires c = search writing

pub cursor_of-k-requires : goal.cursor_of-k-requires
cursor_of-k-requires c = search (string_inside, writing)

pub put_item-p-requires : goal.put_item-p-requires
put_item-p-requires c = search writing

pub loop-c-smaller : goal.loop-c-smaller
loop-c-smaller c = search (string_less, writing)

pub loop-c-preserved : goal.loop-c-preserved
loop-c-preserved c = search (list_next, writing)

pub shape_of-out-else-string : goal.shape_of-out-else-string
shape_of-out-else-string c = search writing

pub returns-else-string : goal.returns-else-string
returns-else-string c = search (list_over, writing)
