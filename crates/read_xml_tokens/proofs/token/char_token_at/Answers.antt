-- `read_xml_tokens::token::char_token_at` meets its contract.
use native.Mathlib.Omega.{arith}
use borrow.Author.Rules.{rules}
use Rattle.read_xml_tokens.specs.laws.TokenLaws.{char_fault, byte_read, reference_read}
use Rattle.read_xml_tokens.proofs.token.char_token_at.Goals as goal

pub returns-then-u-eq-END : goal.returns-then-u-eq-END
returns-then-u-eq-END c = char_fault c.requires.0 c.requires.1 c.requires.2 c.char_at-c.ensures c.if-u-eq-END.true c.fault_at.ensures

pub returns-then-u-lt-END : goal.returns-then-u-lt-END
returns-then-u-lt-END c = byte_read c.requires.0 c.requires.1 c.requires.2 c.char_at-c.ensures c.if-u-eq-END.false c.if-u-lt-END.true

pub overflow_sub-result : goal.overflow_sub-result
overflow_sub-result c = omega (arith, c.if-u-eq-END.false, c.if-u-lt-END.false)

pub returns : goal.returns
returns c = reference_read c.requires.0 c.requires.1 c.requires.2 c.char_at-c.ensures c.if-u-eq-END.false c.if-u-lt-END.false
