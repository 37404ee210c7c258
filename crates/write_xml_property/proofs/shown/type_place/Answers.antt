-- `write_xml_property::type_place` meets its contract.
use borrow.Author.Rules.{rules}
use Rattle.write_xml_property.specs.laws.Placed.{type_here, type_other}
use Rattle.write_xml_property.proofs.shown.type_place.Goals as goal

pub returns-then-t-lt-KNOWN : goal.returns-then-t-lt-KNOWN
returns-then-t-lt-KNOWN c = search (type_here, rules)

pub returns : goal.returns
returns c = search (type_other, rules)
