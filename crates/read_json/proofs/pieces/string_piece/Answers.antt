-- `read_json::string_piece` meets its contract.
use native.Mathlib.Omega.{arith}
use Rattle.octets.specs.laws.Pick.{flag_yes, flag_no}
use Rattle.read_json.specs.laws.Pieces.{name_piece, string_piece}
use Rattle.read_json.proofs.pieces.string_piece.Goals as goal

pub overflow_add-p : goal.overflow_add-p
overflow_add-p c = omega (arith, c.requires.0)

pub string_end-next-requires : goal.string_end-next-requires
string_end-next-requires c = omega (arith, c.requires.0)

pub returns-then-colon_follows : goal.returns-then-colon_follows
returns-then-colon_follows c = name_piece _ _ c.requires.0 c.requires.1 _ c.string_end-next.ensures (flag_yes _ _ c.colon_follows.ensures c.if-colon_follows.true)

pub returns-else-colon_follows : goal.returns-else-colon_follows
returns-else-colon_follows c = string_piece _ _ c.requires.0 c.requires.1 _ c.string_end-next.ensures (flag_no _ _ c.colon_follows.ensures c.if-colon_follows.false)
