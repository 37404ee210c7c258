-- `read_text_parameters::is_fit` meets its contract.
use Rattle.octets.specs.laws.Pick.{branching}
use Rattle.read_text_parameters.proofs.walk.is_fit.Goals as goal

pub returns-then-read : goal.returns-then-read
returns-then-read g c = let cut = g.met.E.Cuttable.cut in search branching

pub returns-then-permitted : goal.returns-then-permitted
returns-then-permitted g c = let cut = g.met.E.Cuttable.cut in search branching

pub returns : goal.returns
returns g c = let cut = g.met.E.Cuttable.cut in search branching
