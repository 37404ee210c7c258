-- `read_text_parameters::found_end` meets its contract. Assumes nothing.
use Rattle.read_text_parameters.specs.Rounds.{Found}
use Rattle.read_text_parameters.proofs.rounds.found_end.Given as goal

abbrev pub invariant-loop-more : goal.invariant-loop-more
invariant-loop-more g l = Found g.E.Encoding.encoding l.s l.places l.n l.from l.left (record { count = l.k; next = l.c; left = l.more })

abbrev pub decreases-loop-more : goal.decreases-loop-more
decreases-loop-more g l = l.more
