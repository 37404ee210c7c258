-- `write_text::children::inside_of` meets its contract.
use Prim.Native.Nat.{◌-◌}
use lib.ListN.{length}
use Rattle.write_text.specs.laws.Children.{Seeking, seeking}
use Rattle.write_text.proofs.children.inside_of.Goals as goal

pub loop-here-init : goal.loop-here-init
loop-here-init c = search seeking

pub node_head-n-requires : goal.node_head-n-requires
node_head-n-requires c = search seeking

pub returns-in-Absent : goal.returns-in-Absent
returns-in-Absent c = search seeking

pub is_named-here-requires : goal.is_named-here-requires
is_named-here-requires c = search seeking

pub returns-then-here : goal.returns-then-here
returns-then-here c = search seeking

pub node_end-e-requires : goal.node_end-e-requires
node_end-e-requires c = search seeking

pub loop-here-smaller-in-Element : goal.loop-here-smaller-in-Element
loop-here-smaller-in-Element c = search seeking

pub loop-here-preserved-in-Element : goal.loop-here-preserved-in-Element
loop-here-preserved-in-Element c = search seeking

pub loop-here-smaller-in-Literal : goal.loop-here-smaller-in-Literal
loop-here-smaller-in-Literal c = search seeking

pub loop-here-preserved-in-Literal : goal.loop-here-preserved-in-Literal
loop-here-preserved-in-Literal c = search seeking

pub loop-here-smaller : goal.loop-here-smaller
loop-here-smaller c = search seeking

pub loop-here-preserved : goal.loop-here-preserved
loop-here-preserved c = search seeking
