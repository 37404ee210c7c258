-- `read_jcal_parameters::written::is_quoted` meets its contract.
use Rattle.read_jcal_parameters.specs.laws.Written.{quoted_always, quoted_colon, quoted_semicolon, quoted_comma}
use borrow.Author.Rules.{rules}
use Rattle.read_jcal_parameters.proofs.written.is_quoted.Goals as goal

pub returns-then-has_byte-2 : goal.returns-then-has_byte-2
returns-then-has_byte-2 c = search (quoted_always, quoted_colon, quoted_semicolon, quoted_comma, rules)

pub returns-else-has_byte-2 : goal.returns-else-has_byte-2
returns-else-has_byte-2 c = search (quoted_always, quoted_colon, quoted_semicolon, quoted_comma, rules)
