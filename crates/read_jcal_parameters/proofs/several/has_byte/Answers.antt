-- `read_jcal_parameters::several::has_byte` meets its contract.
use Rattle.read_jcal_parameters.specs.laws.Values.{holding}
use Rattle.read_jcal_parameters.proofs.several.has_byte.Goals as goal

pub loop-n-init : goal.loop-n-init
loop-n-init c = search holding

pub quoted_unit-n-requires : goal.quoted_unit-n-requires
quoted_unit-n-requires c = search holding

pub returns-then-u-eq-END : goal.returns-then-u-eq-END
returns-then-u-eq-END c = search holding

pub returns-then-u-b : goal.returns-then-u-b
returns-then-u-b c = search holding

pub loop-n-smaller : goal.loop-n-smaller
loop-n-smaller c = search holding

pub loop-n-preserved : goal.loop-n-preserved
loop-n-preserved c = search holding
