-- `read_xml_parameters::leaf::has_byte` meets its contract.
use Prim.Native.Nat.{◌*◌, ◌-◌}
use lib.ListN.{length}
use Rattle.read_xml_parameters.specs.laws.Leaves.{Holding, holding}
use Rattle.read_xml_parameters.proofs.leaf.has_byte.Goals as goal

pub loop-n-init : goal.loop-n-init
loop-n-init c = search holding

pub xml_unit-n-requires : goal.xml_unit-n-requires
xml_unit-n-requires c = search holding

pub returns-then-u-eq-END : goal.returns-then-u-eq-END
returns-then-u-eq-END c = search holding

pub returns-then-u-b : goal.returns-then-u-b
returns-then-u-b c = search holding

pub loop-n-smaller : goal.loop-n-smaller
loop-n-smaller c = search holding

pub loop-n-preserved : goal.loop-n-preserved
loop-n-preserved c = search holding
