-- `read_jcal::properties_verdict` meets its contract.
use Prim.Native.Nat.{◌-◌}
use lib.ListN.{length}
use Rattle.read_jcal.specs.laws.Properties.{Listing}
use Rattle.read_jcal.proofs.properties.properties_verdict.Given as goal

abbrev pub invariant-loop-edition : goal.invariant-loop-edition
invariant-loop-edition l = Listing l.edition l.k l.s l.inside l.at l.kept

abbrev pub decreases-loop-edition : goal.decreases-loop-edition
decreases-loop-edition l = length l.s - l.at
