-- `read_xml_tokens::tag::closed_at` meets its contract.
use borrow.Author.Rules.{rules}
use Rattle.read_xml_tokens.specs.laws.TokenLaws.{end_read, end_fault}
use Rattle.read_xml_tokens.proofs.tag.closed_at.Goals as goal

pub returns-then-f-s : goal.returns-then-f-s
returns-then-f-s c = end_read c.requires.0 c.name_at-n.ensures c.blank_at-e.ensures c.exactly_at-f.ensures c.if-f-s.true

pub returns : goal.returns
returns c = end_fault c.requires.0 c.name_at-n.ensures c.blank_at-e.ensures c.exactly_at-f.ensures c.requires.1 c.if-f-s.false c.fault_at.ensures
