-- `read_xml_tokens::pieces::quoted_at` meets its contract.
use borrow.Author.Rules.{rules}
use Rattle.read_xml_tokens.specs.laws.Ends.{ends_quoted, ends_apostrophe}
use Rattle.read_xml_tokens.proofs.pieces.quoted_at.Goals as goal

pub returns-then-q-s : goal.returns-then-q-s
returns-then-q-s c = ends_quoted c.exactly_at-q.ensures c.if-q-s.true c.exactly_at-v.ensures c.exactly_at.ensures

pub returns : goal.returns
returns c = ends_apostrophe c.exactly_at-q.ensures c.if-q-s.false c.exactly_at-p.ensures c.exactly_at-v-2.ensures c.exactly_at-2.ensures
