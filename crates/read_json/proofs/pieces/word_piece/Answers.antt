-- `read_json::word_piece` meets its contract.
use native.Mathlib.Omega.{arith}
use Rattle.octets.specs.laws.Pick.{flag_yes, flag_no}
use Rattle.read_json.specs.laws.Pieces.{number_piece, literal_piece}
use Rattle.read_json.proofs.pieces.word_piece.Goals as goal

pub overflow_add-p : goal.overflow_add-p
overflow_add-p c = omega (arith, c.requires.0)

pub word_end-next-requires : goal.word_end-next-requires
word_end-next-requires c = omega (arith, c.requires.0)

pub bounds-s-p : goal.bounds-s-p
bounds-s-p c = c.requires.0

pub returns-then-is_small : goal.returns-then-is_small
returns-then-is_small c = literal_piece _ _ c.requires.0 c.requires.1 _ c.word_end-next.ensures _ c.wide.ensures.0 (flag_yes _ _ c.is_small.ensures c.if-is_small.true)

pub returns-else-is_small : goal.returns-else-is_small
returns-else-is_small c = number_piece _ _ c.requires.0 c.requires.1 _ c.word_end-next.ensures _ c.wide.ensures.0 (flag_no _ _ c.is_small.ensures c.if-is_small.false)
