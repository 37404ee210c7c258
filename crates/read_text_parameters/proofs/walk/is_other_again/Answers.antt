-- `read_text_parameters::is_other_again` meets its contract.
use Rattle.octets.specs.laws.Pick.{branching}
use Rattle.read_text_parameters.proofs.walk.is_other_again.Goals as goal

pub returns-then-k-lt-FEW : goal.returns-then-k-lt-FEW
returns-then-k-lt-FEW g c = let cut = g.met.E.Cuttable.cut in search branching

pub returns : goal.returns
returns g c = let cut = g.met.E.Cuttable.cut in search branching
