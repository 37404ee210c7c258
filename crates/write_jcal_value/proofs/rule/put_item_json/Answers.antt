-- `write_jcal_value::rule::put_item_json` meets its contract.
use Rattle.octets.specs.laws.Pick.{flag_yes, flag_no}
use Rattle.sink.specs.laws.Sink.{writing}
use Rattle.write_jcal_value.proofs.rule.put_item_json.Goals as goal

pub has_numbers-number-requires : goal.has_numbers-number-requires
has_numbers-number-requires g c = search writing

pub put_shown-requires : goal.put_shown-requires
put_shown-requires g c = search writing

pub shape_of-out-then-number : goal.shape_of-out-then-number
shape_of-out-then-number g c = search writing

pub returns-then-number : goal.returns-then-number
returns-then-number g c = search (flag_yes, writing)

pub put-a-requires : goal.put-a-requires
put-a-requires g c = search writing

pub put_shown-b-requires : goal.put_shown-b-requires
put_shown-b-requires g c = search writing

pub put-requires : goal.put-requires
put-requires g c = search writing

pub shape_of-out : goal.shape_of-out
shape_of-out g c = search writing

pub returns : goal.returns
returns g c = search (flag_no, writing)
