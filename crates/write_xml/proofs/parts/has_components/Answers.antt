-- `write_xml::parts::has_components` meets its contract.
use borrow.Author.Rules.{rules}
use Rattle.octets.specs.laws.Pick.{branching}
use Rattle.write_xml.proofs.parts.has_components.Goals as goal

pub returns-then-calendar : goal.returns-then-calendar
returns-then-calendar g c = search branching

pub returns-then-bare : goal.returns-then-bare
returns-then-bare g c = search branching

pub returns : goal.returns
returns g c = search branching
