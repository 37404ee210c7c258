-- `read_xml_parameters::is_again` meets its contract.
use mathlib.Core.Path.{sym}
use borrow.Author.Rules.{rules}
use Rattle.read_xml_parameters.proofs.verdict.is_again.Goals as goal

pub returns-then-fresh : goal.returns-then-fresh
returns-then-fresh c = sym (c.requires c.if-fresh.true)
