-- `write_xml::parts::put_tail` meets its contract.
use borrow.Author.Rules.{rules}
use Rattle.write_xml.specs.laws.Parts.{tail_put}
use Rattle.write_xml.proofs.parts.put_tail.Goals as goal

pub returns : goal.returns
returns g c = search (tail_put, rules)
