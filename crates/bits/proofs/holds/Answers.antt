-- `bits::holds` meets its contract.
use Rattle.std.proofs.Common.{sym, le-ltb}
use borrow.Author.Rules.{rules}
use lib.Bits.{and_mask}
use Rattle.bits.specs.laws.Masks.{has_past}
use Rattle.bits.proofs.holds.Goals as goal

pub returns-then-i-lt-WIDTH : goal.returns-then-i-lt-WIDTH
returns-then-i-lt-WIDTH c = rw (and_mask _ 1)

pub returns-else-i-lt-WIDTH : goal.returns-else-i-lt-WIDTH
returns-else-i-lt-WIDTH c = rw (le-ltb c.args.i 32 c.if-i-lt-WIDTH.false) (sym (has_past 32 _ _ (search rules) c.if-i-lt-WIDTH.false))
