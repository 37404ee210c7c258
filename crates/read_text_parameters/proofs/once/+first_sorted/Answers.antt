-- `read_text_parameters::first_sorted`, which calls itself, meets its contract.
use Rattle.read_text_parameters.proofs.once.+first_sorted.Goals as goal

pub returns-in-Some : goal.returns-in-Some
returns-in-Some g t c = rw (rw c.in-Some.is at c.collect.ensures) c.first_again.ensures
