-- `write_text_values::typed::put_typed` meets its contract.
use Prim.Native.Nat.{◌-◌}
use lib.ListN.{length}
use Rattle.write_text_values.specs.laws.Typed.{Valuing, values_start, values_more, values_end, typed_within, typed_less}
use Rattle.sink.specs.laws.Sink.{writing}
use Rattle.write_text_values.proofs.typed.put_typed.Goals as goal

pub loop-value-init : goal.loop-value-init
loop-value-init c = search (values_start, writing)

pub find_typed-requires : goal.find_typed-requires
find_typed-requires c = search writing

pub put_one_value-q-requires : goal.put_one_value-q-requires
put_one_value-q-requires c = (c.requires, (typed_within c.find_typed.ensures c.in-Some.is).inside, (typed_within c.find_typed.ensures c.in-Some.is).known)

pub node_end-c-requires : goal.node_end-c-requires
node_end-c-requires c = (typed_within c.find_typed.ensures c.in-Some.is).next

pub loop-value-smaller : goal.loop-value-smaller
loop-value-smaller c = typed_less c.find_typed.ensures c.in-Some.is c.node_end-c.ensures

pub loop-value-preserved : goal.loop-value-preserved
loop-value-preserved c = values_more c.loop-value.invariant c.find_typed.ensures c.in-Some.is c.node_end-c.ensures c.put_one_value-q.ensures

pub returns : goal.returns
returns c = values_end c.loop-value.invariant c.find_typed.ensures c.in_default.is
