-- `numbers::integer::put_digits`, which calls itself, meets its contract.
use Rattle.numbers.proofs.integer.+put_digits.Given as goal

abbrev pub decreases-put_digits : goal.decreases-put_digits
decreases-put_digits l = l.left
