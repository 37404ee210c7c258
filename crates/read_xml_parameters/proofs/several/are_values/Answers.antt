-- `read_xml_parameters::several::are_values` meets its contract.
use Prim.Native.Nat.{◌-◌}
use lib.ListN.{length}
use Rattle.read_xml_nodes.specs.laws.Walks.{Passing}
use Rattle.read_xml_parameters.specs.Rows.{row_at}
use Rattle.read_xml_parameters.specs.Several.{all_values}
use Rattle.read_xml_parameters.specs.laws.Several.{valued}
use Rattle.read_xml_parameters.proofs.several.are_values.Goals as goal

pub loop-a-init : goal.loop-a-init
loop-a-init c = search valued

pub next_node-n-requires : goal.next_node-n-requires
next_node-n-requires c = search valued

pub enum_told-1 : goal.enum_told-1
enum_told-1 c = search valued

pub returns-in-Absent : goal.returns-in-Absent
returns-in-Absent c = search valued

pub enum_told-in-Element : goal.enum_told-in-Element
enum_told-in-Element c = search valued

pub slice_bounds-is_value-count : goal.slice_bounds-is_value-count
slice_bounds-is_value-count c = search valued

pub slice_bounds-is_value-start : goal.slice_bounds-is_value-start
slice_bounds-is_value-start c = search valued

pub slice_bounds-is_value-end : goal.slice_bounds-is_value-end
slice_bounds-is_value-end c = search valued

pub is_value-value-requires : goal.is_value-value-requires
is_value-value-requires c = search valued

pub loop-a-smaller-then-value : goal.loop-a-smaller-then-value
loop-a-smaller-then-value c = search valued

pub loop-a-preserved-then-value : goal.loop-a-preserved-then-value
loop-a-preserved-then-value c = search valued

pub returns-else-value : goal.returns-else-value
returns-else-value c = search valued

pub enum_told-in-Literal : goal.enum_told-in-Literal
enum_told-in-Literal c = search valued

pub is_space-space-requires : goal.is_space-space-requires
is_space-space-requires c = search valued

pub loop-a-smaller : goal.loop-a-smaller
loop-a-smaller c = search valued

pub loop-a-preserved : goal.loop-a-preserved
loop-a-preserved c = search valued

pub returns-else-space : goal.returns-else-space
returns-else-space c = search valued

pub enum_told-in-Referred : goal.enum_told-in-Referred
enum_told-in-Referred c = search valued

pub returns-in-Referred : goal.returns-in-Referred
returns-in-Referred c = search valued
