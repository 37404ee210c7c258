-- `read_xml_parameters::several::are_plain` meets its contract.
use Prim.Native.Nat.{◌-◌}
use lib.ListN.{length}
use Rattle.xcal.specs.ParameterNodes.{are_plain}
use Rattle.read_xml_nodes.specs.laws.Walks.{Passing}
use Rattle.read_xml_parameters.specs.laws.Several.{plains}
use Rattle.read_xml_parameters.proofs.several.are_plain.Goals as goal

pub loop-k-init : goal.loop-k-init
loop-k-init c = search plains

pub next_child-n-requires : goal.next_child-n-requires
next_child-n-requires c = search plains

pub cursor_of-k-requires : goal.cursor_of-k-requires
cursor_of-k-requires c = search plains

pub has_byte-quote-requires : goal.has_byte-quote-requires
has_byte-quote-requires c = search plains

pub returns-then-quote : goal.returns-then-quote
returns-then-quote c = search plains

pub has_byte-feed-requires : goal.has_byte-feed-requires
has_byte-feed-requires c = search plains

pub returns-then-feed : goal.returns-then-feed
returns-then-feed c = search plains

pub loop-k-smaller : goal.loop-k-smaller
loop-k-smaller c = search plains

pub loop-k-preserved : goal.loop-k-preserved
loop-k-preserved c = search plains

pub returns-else-n : goal.returns-else-n
returns-else-n c = search plains
