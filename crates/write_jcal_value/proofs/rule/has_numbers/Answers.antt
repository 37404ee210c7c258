-- `write_jcal_value::rule::has_numbers` meets its contract.
use Rattle.std.proofs.Common.{◌∙◌, le-ltb}
use Rattle.write_jcal_value.specs.laws.PutRule.{numbers_at, numbers_beyond}
use Rattle.write_jcal_value.proofs.rule.has_numbers.Goals as goal

pub returns-then-p-lt-KNOWN : goal.returns-then-p-lt-KNOWN
returns-then-p-lt-KNOWN c = numbers_at c.args.p

pub returns-else-p-lt-KNOWN : goal.returns-else-p-lt-KNOWN
returns-else-p-lt-KNOWN c = le-ltb c.args.p 14 c.if-p-lt-KNOWN.false ∙ numbers_beyond c.args.p c.if-p-lt-KNOWN.false
