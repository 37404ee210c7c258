-- `read_jcal_parameters::judge` meets its contract.
use Rattle.read_jcal_parameters.specs.laws.Rounds.{passes_all}
use Rattle.read_jcal_parameters.proofs.rounds.judge.Goals as goal

pub returns : goal.returns
returns c = passes_all c.rise-r.ensures c.if-r-n.false c.found_end-end.ensures c.in_ok-absent.ensures
