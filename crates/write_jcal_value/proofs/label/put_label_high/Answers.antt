-- `write_jcal_value::label::put_label_high` meets its contract.
use native.Mathlib.Omega.{arith}
use Rattle.octets.specs.Computing.{octets_compute}
use Rattle.sink.specs.laws.Sink.{writing}
use Rattle.names.specs.laws.Numbered.{at_number, beyond_from}
use Rattle.json_text.specs.Computing.{json_compute}
use Rattle.write_jcal_value.specs.Labels.{type_label}
use Rattle.write_jcal_value.specs.laws.Labels.{other_type}
use Rattle.write_jcal_value.proofs.label.put_label_high.Goals as goal

pub put_all-requires : goal.put_all-requires
unfolding octets_compute json_compute
put_all-requires c = search writing

pub put_all-requires-in-8 : goal.put_all-requires-in-8
unfolding octets_compute json_compute
put_all-requires-in-8 c = search writing

pub put_all-requires-in-9 : goal.put_all-requires-in-9
unfolding octets_compute json_compute
put_all-requires-in-9 c = search writing

pub put_all-requires-in-10 : goal.put_all-requires-in-10
unfolding octets_compute json_compute
put_all-requires-in-10 c = search writing

pub put_all-requires-in-11 : goal.put_all-requires-in-11
unfolding octets_compute json_compute
put_all-requires-in-11 c = search writing

pub put_all-requires-in-12 : goal.put_all-requires-in-12
unfolding octets_compute json_compute
put_all-requires-in-12 c = search writing

pub put_all-requires-in-13 : goal.put_all-requires-in-13
unfolding octets_compute json_compute
put_all-requires-in-13 c = search writing

pub put_all-requires-in_default : goal.put_all-requires-in_default
unfolding octets_compute json_compute
put_all-requires-in_default c = search writing

pub shape_of-out-in-7 : goal.shape_of-out-in-7
unfolding octets_compute json_compute
shape_of-out-in-7 c = search writing

pub returns-in-7 : goal.returns-in-7
unfolding octets_compute json_compute
returns-in-7 c = at_number type_label 7 c.in-7.is c.put_all.ensures

pub shape_of-out-in-8 : goal.shape_of-out-in-8
unfolding octets_compute json_compute
shape_of-out-in-8 c = search writing

pub returns-in-8 : goal.returns-in-8
unfolding octets_compute json_compute
returns-in-8 c = at_number type_label 8 c.in-8.is c.put_all-in-8.ensures

pub shape_of-out-in-9 : goal.shape_of-out-in-9
unfolding octets_compute json_compute
shape_of-out-in-9 c = search writing

pub returns-in-9 : goal.returns-in-9
unfolding octets_compute json_compute
returns-in-9 c = at_number type_label 9 c.in-9.is c.put_all-in-9.ensures

pub shape_of-out-in-10 : goal.shape_of-out-in-10
unfolding octets_compute json_compute
shape_of-out-in-10 c = search writing

pub returns-in-10 : goal.returns-in-10
unfolding octets_compute json_compute
returns-in-10 c = at_number type_label 10 c.in-10.is c.put_all-in-10.ensures

pub shape_of-out-in-11 : goal.shape_of-out-in-11
unfolding octets_compute json_compute
shape_of-out-in-11 c = search writing

pub returns-in-11 : goal.returns-in-11
unfolding octets_compute json_compute
returns-in-11 c = at_number type_label 11 c.in-11.is c.put_all-in-11.ensures

pub shape_of-out-in-12 : goal.shape_of-out-in-12
unfolding octets_compute json_compute
shape_of-out-in-12 c = search writing

pub returns-in-12 : goal.returns-in-12
unfolding octets_compute json_compute
returns-in-12 c = at_number type_label 12 c.in-12.is c.put_all-in-12.ensures

pub shape_of-out-in-13 : goal.shape_of-out-in-13
unfolding octets_compute json_compute
shape_of-out-in-13 c = search writing

pub returns-in-13 : goal.returns-in-13
unfolding octets_compute json_compute
returns-in-13 c = at_number type_label 13 c.in-13.is c.put_all-in-13.ensures

pub shape_of-out-in_default : goal.shape_of-out-in_default
unfolding octets_compute json_compute
shape_of-out-in_default c = search writing

pub returns-in_default : goal.returns-in_default
unfolding octets_compute json_compute
returns-in_default c = other_type _ (omega arith) c.put_all-in_default.ensures
