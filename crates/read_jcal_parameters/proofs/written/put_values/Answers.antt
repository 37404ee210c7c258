-- `read_jcal_parameters::written::put_values` meets its contract.
use Rattle.sink.specs.laws.Sink.{writing}
use Rattle.read_jcal_parameters.specs.laws.Shapes.{string_inside}
use Rattle.read_jcal_parameters.specs.laws.Written.{given_list, given_alone, given_none}
use Rattle.read_jcal_parameters.proofs.written.put_values.Goals as goal

pub element_at-h-requires : goal.element_at-h-requires
element_at-h-requires c = search writing

pub is_array-array-requires : goal.is_array-array-requires
is_array-array-requires c = search writing

pub put_list-requires : goal.put_list-requires
put_list-requires c = search writing

pub shape_of-out-then-array : goal.shape_of-out-then-array
shape_of-out-then-array c = search writing

pub returns-then-array : goal.returns-then-array
returns-then-array c = search (given_list, writing)

pub is_string-string-requires : goal.is_string-string-requires
is_string-string-requires c = search writing

pub cursor_of-k-requires : goal.cursor_of-k-requires
cursor_of-k-requires c = search (string_inside, writing)

pub put_plain-requires : goal.put_plain-requires
put_plain-requires c = search writing

pub shape_of-out-then-string : goal.shape_of-out-then-string
shape_of-out-then-string c = search writing

pub returns-then-string : goal.returns-then-string
returns-then-string c = search (given_alone, writing)

pub returns : goal.returns
returns c = search (given_none, writing)
