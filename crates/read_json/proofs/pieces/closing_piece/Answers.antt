-- `read_json::closing_piece` meets its contract.
use native.Mathlib.Omega.{arith}
use Rattle.read_json.specs.laws.Pieces.{close_array, close_object, begins_word}
use Rattle.read_json.proofs.pieces.closing_piece.Goals as goal

pub overflow_add-result : goal.overflow_add-result
overflow_add-result c = omega (arith, c.requires.0)

pub returns-then-u-eq-RIGHT_BRACKET : goal.returns-then-u-eq-RIGHT_BRACKET
returns-then-u-eq-RIGHT_BRACKET c = close_array _ _ c.requires.0 _ c.requires.1 c.requires.2 c.requires.3 c.requires.4 c.if-u-eq-RIGHT_BRACKET.true

pub overflow_add-result-then-u-eq-RIGHT_BRACE : goal.overflow_add-result-then-u-eq-RIGHT_BRACE
overflow_add-result-then-u-eq-RIGHT_BRACE c = omega (arith, c.requires.0)

pub returns-then-u-eq-RIGHT_BRACE : goal.returns-then-u-eq-RIGHT_BRACE
returns-then-u-eq-RIGHT_BRACE c = close_object _ _ c.requires.0 _ c.requires.1 c.requires.2 c.requires.3 c.requires.4 c.if-u-eq-RIGHT_BRACE.true

pub word_piece-requires : goal.word_piece-requires
word_piece-requires c = (c.requires.0, begins_word _ _ c.requires.1 c.requires.2 c.requires.3 c.requires.4 c.if-u-eq-RIGHT_BRACKET.false c.if-u-eq-RIGHT_BRACE.false c.requires.5)

pub returns : goal.returns
returns c = c.word_piece.ensures
