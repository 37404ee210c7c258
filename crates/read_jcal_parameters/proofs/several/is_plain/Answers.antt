-- `read_jcal_parameters::several::is_plain` meets its contract.
use Rattle.read_jcal_parameters.specs.laws.Values.{plain_quote, plain_feed, plain_yes}
use borrow.Author.Rules.{rules}
use Rattle.read_jcal_parameters.proofs.several.is_plain.Goals as goal

pub returns-then-quote : goal.returns-then-quote
returns-then-quote c = search (plain_quote, rules)

pub returns-then-feed : goal.returns-then-feed
returns-then-feed c = search (plain_feed, rules)

pub returns : goal.returns
returns c = search (plain_yes, rules)
