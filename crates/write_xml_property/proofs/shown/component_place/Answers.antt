-- `write_xml_property::component_place` meets its contract.
use borrow.Author.Rules.{rules}
use Rattle.write_xml_property.specs.laws.Placed.{component_again, component_other}
use Rattle.write_xml_property.proofs.shown.component_place.Goals as goal

pub returns-then-k-lt-KNOWN : goal.returns-then-k-lt-KNOWN
returns-then-k-lt-KNOWN c = search (component_again, rules)

pub returns : goal.returns
returns c = search (component_other, rules)
