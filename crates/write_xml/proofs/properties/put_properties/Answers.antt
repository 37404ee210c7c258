-- `write_xml::properties::put_properties` meets its contract.
use borrow.Author.Rules.{rules}
use Rattle.write_xml.specs.laws.Places.{leading_bare, leading_more}
use Rattle.write_xml.proofs.properties.put_properties.Goals as goal

pub returns-then-ahead : goal.returns-then-ahead
returns-then-ahead g c = search (leading_bare, rules)

pub returns : goal.returns
returns g c = search (leading_more, rules)
