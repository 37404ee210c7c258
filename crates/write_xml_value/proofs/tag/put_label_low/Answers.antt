-- `write_xml_value::tag::put_label_low` meets its contract.
use native.Mathlib.Omega.{arith}
use Rattle.octets.specs.Computing.{octets_compute}
use Rattle.sink.specs.laws.Sink.{writing}
use Rattle.names.specs.laws.Numbered.{at_number, last_one}
use Rattle.write_xml_value.specs.Tags.{type_label}
use Rattle.write_xml_value.proofs.tag.put_label_low.Goals as goal

pub put_all-requires : goal.put_all-requires
unfolding octets_compute
put_all-requires c = search writing

pub put_all-requires-in-1 : goal.put_all-requires-in-1
unfolding octets_compute
put_all-requires-in-1 c = search writing

pub put_all-requires-in-2 : goal.put_all-requires-in-2
unfolding octets_compute
put_all-requires-in-2 c = search writing

pub put_all-requires-in-3 : goal.put_all-requires-in-3
unfolding octets_compute
put_all-requires-in-3 c = search writing

pub put_all-requires-in-4 : goal.put_all-requires-in-4
unfolding octets_compute
put_all-requires-in-4 c = search writing

pub put_all-requires-in-5 : goal.put_all-requires-in-5
unfolding octets_compute
put_all-requires-in-5 c = search writing

pub put_all-requires-in_default : goal.put_all-requires-in_default
unfolding octets_compute
put_all-requires-in_default c = search writing

pub shape_of-out-in-0 : goal.shape_of-out-in-0
unfolding octets_compute
shape_of-out-in-0 c = search writing

pub returns-in-0 : goal.returns-in-0
unfolding octets_compute
returns-in-0 c = at_number type_label 0 c.in-0.is c.put_all.ensures

pub shape_of-out-in-1 : goal.shape_of-out-in-1
unfolding octets_compute
shape_of-out-in-1 c = search writing

pub returns-in-1 : goal.returns-in-1
unfolding octets_compute
returns-in-1 c = at_number type_label 1 c.in-1.is c.put_all-in-1.ensures

pub shape_of-out-in-2 : goal.shape_of-out-in-2
unfolding octets_compute
shape_of-out-in-2 c = search writing

pub returns-in-2 : goal.returns-in-2
unfolding octets_compute
returns-in-2 c = at_number type_label 2 c.in-2.is c.put_all-in-2.ensures

pub shape_of-out-in-3 : goal.shape_of-out-in-3
unfolding octets_compute
shape_of-out-in-3 c = search writing

pub returns-in-3 : goal.returns-in-3
unfolding octets_compute
returns-in-3 c = at_number type_label 3 c.in-3.is c.put_all-in-3.ensures

pub shape_of-out-in-4 : goal.shape_of-out-in-4
unfolding octets_compute
shape_of-out-in-4 c = search writing

pub returns-in-4 : goal.returns-in-4
unfolding octets_compute
returns-in-4 c = at_number type_label 4 c.in-4.is c.put_all-in-4.ensures

pub shape_of-out-in-5 : goal.shape_of-out-in-5
unfolding octets_compute
shape_of-out-in-5 c = search writing

pub returns-in-5 : goal.returns-in-5
unfolding octets_compute
returns-in-5 c = at_number type_label 5 c.in-5.is c.put_all-in-5.ensures

pub shape_of-out-in_default : goal.shape_of-out-in_default
unfolding octets_compute
shape_of-out-in_default c = search writing

pub returns-in_default : goal.returns-in_default
unfolding octets_compute
returns-in_default c = at_number type_label 6 (omega arith) c.put_all-in_default.ensures
