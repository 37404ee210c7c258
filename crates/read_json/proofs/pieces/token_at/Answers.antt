-- `read_json::token_at` meets its contract.
use Rattle.read_json.specs.laws.Pieces.{piece_from, no_piece}
use Rattle.read_json.proofs.pieces.token_at.Goals as goal

pub piece_at-requires : goal.piece_at-requires
piece_at-requires c = (c.if-p-s.true, c.token_place-p.ensures.stop c.if-p-s.true)

pub returns-then-p-s : goal.returns-then-p-s
returns-then-p-s c = piece_from c.token_place-p.ensures c.piece_at.ensures

pub returns : goal.returns
returns c = no_piece _ _ _ _ c.token_place-p.ensures c.if-p-s.false
