-- `read_xml_parameters::children::next_child` meets its contract.
use Prim.Native.Nat.{◌-◌}
use lib.ListN.{length}
use Rattle.read_xml_parameters.specs.laws.Children.{Looking, looking}
use Rattle.read_xml_parameters.proofs.children.next_child.Goals as goal

pub loop-c-init : goal.loop-c-init
loop-c-init c = search looking

pub next_node-n-requires : goal.next_node-n-requires
next_node-n-requires c = search looking

pub enum_told-1 : goal.enum_told-1
enum_told-1 c = search looking

pub returns-in-Absent : goal.returns-in-Absent
returns-in-Absent c = search looking

pub enum_told-in-Element : goal.enum_told-in-Element
enum_told-in-Element c = search looking

pub returns-in-Element : goal.returns-in-Element
returns-in-Element c = search looking

pub enum_told-in-Literal : goal.enum_told-in-Literal
enum_told-in-Literal c = search looking

pub loop-c-smaller-in-Literal : goal.loop-c-smaller-in-Literal
loop-c-smaller-in-Literal c = search looking

pub loop-c-preserved-in-Literal : goal.loop-c-preserved-in-Literal
loop-c-preserved-in-Literal c = search looking

pub enum_told-in-Referred : goal.enum_told-in-Referred
enum_told-in-Referred c = search looking

pub loop-c-smaller : goal.loop-c-smaller
loop-c-smaller c = search looking

pub loop-c-preserved : goal.loop-c-preserved
loop-c-preserved c = search looking
