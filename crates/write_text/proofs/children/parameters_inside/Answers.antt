-- `write_text::children::parameters_inside` meets its contract.
use Prim.Native.Nat.{◌-◌}
use lib.ListN.{length}
use Rattle.write_text.specs.laws.Parameters.{Sought, sought}
use Rattle.write_text.proofs.children.parameters_inside.Goals as goal

pub loop-here-init : goal.loop-here-init
loop-here-init c = search sought

pub node_head-n-requires : goal.node_head-n-requires
node_head-n-requires c = search sought

pub returns-in-Absent : goal.returns-in-Absent
returns-in-Absent c = search sought

pub is_parameters-here-requires : goal.is_parameters-here-requires
is_parameters-here-requires c = search sought

pub returns-then-here : goal.returns-then-here
returns-then-here c = search sought

pub is_value_named-valued-requires : goal.is_value_named-valued-requires
is_value_named-valued-requires c = search sought

pub returns-then-valued : goal.returns-then-valued
returns-then-valued c = search sought

pub node_end-e-requires : goal.node_end-e-requires
node_end-e-requires c = search sought

pub loop-here-smaller-in-Element : goal.loop-here-smaller-in-Element
loop-here-smaller-in-Element c = search sought

pub loop-here-preserved-in-Element : goal.loop-here-preserved-in-Element
loop-here-preserved-in-Element c = search sought

pub loop-here-smaller-in-Literal : goal.loop-here-smaller-in-Literal
loop-here-smaller-in-Literal c = search sought

pub loop-here-preserved-in-Literal : goal.loop-here-preserved-in-Literal
loop-here-preserved-in-Literal c = search sought

pub loop-here-smaller : goal.loop-here-smaller
loop-here-smaller c = search sought

pub loop-here-preserved : goal.loop-here-preserved
loop-here-preserved c = search sought
