-- `read_text_parameters::is_again` meets its contract.
use Rattle.octets.specs.laws.Pick.{branching}
use Rattle.read_text_parameters.proofs.walk.is_again.Goals as goal

pub returns-then-q-eq-KNOWN : goal.returns-then-q-eq-KNOWN
returns-then-q-eq-KNOWN g c = let cut = g.met.E.Cuttable.cut in search branching

pub returns : goal.returns
returns g c = let cut = g.met.E.Cuttable.cut in search branching
