-- `read_xml_tokens::token::token_at` meets its contract.
use borrow.Author.Rules.{rules}
use Rattle.read_xml_tokens.specs.laws.TokenLaws.{tag_read, past_read}
use Rattle.read_xml_tokens.proofs.token.token_at.Goals as goal

pub tag_at-requires : goal.tag_at-requires
tag_at-requires c = c.if-at-s.true

pub returns-then-b-eq-LESS : goal.returns-then-b-eq-LESS
returns-then-b-eq-LESS c = tag_read c.if-at-s.true c.wide-b.ensures c.if-b-eq-LESS.true c.tag_at.ensures

pub char_token_at-requires : goal.char_token_at-requires
char_token_at-requires c = (c.if-at-s.true, c.wide-b.ensures, c.if-b-eq-LESS.false)

pub returns-then-at-s : goal.returns-then-at-s
returns-then-at-s c = c.char_token_at.ensures

pub returns : goal.returns
returns c = past_read c.if-at-s.false c.fault_at.ensures
