-- `read_json::piece_at` meets its contract.
use mathlib.Core.Path.{sym, ap, ◌∙◌}
use native.Mathlib.Omega.{arith}
use Rattle.json_text.specs.Tree.{is_separator}
use Rattle.read_json.specs.laws.Pieces.{array_piece, object_piece}
use Rattle.read_json.proofs.pieces.piece_at.Goals as goal

pub bounds-s-p : goal.bounds-s-p
bounds-s-p c = c.requires.0

pub overflow_add-result : goal.overflow_add-result
overflow_add-result c = omega (arith, c.requires.0)

pub returns-then-u-eq-LEFT_BRACKET : goal.returns-then-u-eq-LEFT_BRACKET
returns-then-u-eq-LEFT_BRACKET c = array_piece _ _ c.requires.0 _ c.wide-u.ensures.0 c.if-u-eq-LEFT_BRACKET.true

pub overflow_add-result-then-u-eq-LEFT_BRACE : goal.overflow_add-result-then-u-eq-LEFT_BRACE
overflow_add-result-then-u-eq-LEFT_BRACE c = omega (arith, c.requires.0)

pub returns-then-u-eq-LEFT_BRACE : goal.returns-then-u-eq-LEFT_BRACE
returns-then-u-eq-LEFT_BRACE c = object_piece _ _ c.requires.0 _ c.wide-u.ensures.0 c.if-u-eq-LEFT_BRACE.true

pub string_piece-requires : goal.string_piece-requires
string_piece-requires c = (c.requires.0, sym c.wide-u.ensures.0 ∙ c.if-u-eq-QUOTE.true)

pub returns-then-u-eq-QUOTE : goal.returns-then-u-eq-QUOTE
returns-then-u-eq-QUOTE c = c.string_piece.ensures

pub closing_piece-requires : goal.closing_piece-requires
closing_piece-requires c = (c.requires.0, c.wide-u.ensures.0, ap is_separator c.wide-u.ensures.0 ∙ c.requires.1, c.if-u-eq-LEFT_BRACKET.false, c.if-u-eq-LEFT_BRACE.false, c.if-u-eq-QUOTE.false)

pub returns : goal.returns
returns c = c.closing_piece.ensures
