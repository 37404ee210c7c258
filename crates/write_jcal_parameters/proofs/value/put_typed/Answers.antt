-- `write_jcal_parameters::value::put_typed` meets its contract.
use Rattle.values.specs.laws.ValueAt.{good_value, value_plain}
use Rattle.write_jcal_parameters.specs.laws.Parts.{put_boolean, put_good, put_bad}
use Rattle.sink.specs.laws.Sink.{writing}
use Rattle.write_jcal_parameters.proofs.value.put_typed.Goals as goal

pub put_boolean_string-requires : goal.put_boolean_string-requires
put_boolean_string-requires g c = search writing

pub shape_of-out-then-t-eq-BOOLEAN : goal.shape_of-out-then-t-eq-BOOLEAN
shape_of-out-then-t-eq-BOOLEAN g c = search writing

pub returns-then-t-eq-BOOLEAN : goal.returns-then-t-eq-BOOLEAN
returns-then-t-eq-BOOLEAN g c = search (put_boolean, writing)

pub read_value-requires : goal.read_value-requires
read_value-requires g c = search writing

pub put_string-requires : goal.put_string-requires
put_string-requires g c = search writing

pub returns-in-Some : goal.returns-in-Some
returns-in-Some g c = put_good c.args.t _ (good_value _ _ (value_plain c.args.t _ _ c.requires c.read_value.ensures)) c.if-t-eq-BOOLEAN.false c.in-Some.is c.put_string.ensures

pub returns-in-None : goal.returns-in-None
returns-in-None g c = put_bad c.args.t _ (good_value _ _ (value_plain c.args.t _ _ c.requires c.read_value.ensures)) c.in-None.is (search writing)
