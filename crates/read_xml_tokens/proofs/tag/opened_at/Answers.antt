-- `read_xml_tokens::tag::opened_at` meets its contract.
use borrow.Author.Rules.{rules}
use Rattle.read_xml_tokens.specs.laws.TokenLaws.{start_read, empty_read, start_fault}
use Rattle.read_xml_tokens.proofs.tag.opened_at.Goals as goal

pub returns-then-f-s : goal.returns-then-f-s
returns-then-f-s c = λ p q t. start_read q t c.exactly_at-f.ensures c.if-f-s.true

pub returns-then-g-s : goal.returns-then-g-s
returns-then-g-s c = λ p q t. empty_read q t c.exactly_at-f.ensures c.exactly_at-g.ensures c.if-f-s.false c.if-g-s.true

pub returns : goal.returns
returns c = λ p q t. start_fault q t c.exactly_at-f.ensures c.exactly_at-g.ensures c.if-f-s.false c.if-g-s.false c.fault_at.ensures
