-- `read_text_parameters::first_in_rounds`, which calls itself, meets its contract. Assumes nothing.
use Rattle.read_text_parameters.proofs.once.+first_in_rounds.Given as goal

abbrev pub decreases-first_in_rounds : goal.decreases-first_in_rounds
decreases-first_in_rounds g l = l.tries
