-- `read_jcal_value::is_number_part` meets its contract.
use Rattle.read_jcal_value.specs.laws.Items.{numbered_at, numbered_beyond}
use borrow.Author.Tests.{le-ltb}
use Rattle.read_jcal_value.proofs.items.is_number_part.Goals as goal

pub returns-then-i-lt-KNOWN : goal.returns-then-i-lt-KNOWN
returns-then-i-lt-KNOWN c = numbered_at c.args.i

pub returns-else-i-lt-KNOWN : goal.returns-else-i-lt-KNOWN
returns-else-i-lt-KNOWN c = rw (le-ltb c.args.i 14 c.if-i-lt-KNOWN.false) (numbered_beyond c.args.i c.if-i-lt-KNOWN.false)
