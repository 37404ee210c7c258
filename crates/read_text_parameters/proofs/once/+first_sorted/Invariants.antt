-- `read_text_parameters::first_sorted`, which calls itself, meets its contract.
use Rattle.read_text_parameters.proofs.once.+first_sorted.Given as goal

abbrev pub decreases-first_sorted : goal.decreases-first_sorted
decreases-first_sorted g l = l.tries
