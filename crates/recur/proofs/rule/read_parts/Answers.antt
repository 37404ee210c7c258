-- `recur::rule::read_parts` meets its contract.
use Rattle.recur.specs.laws.NotedLaws.{parts_beyond}
use Rattle.recur.proofs.rule.read_parts.Goals as goal

pub returns-then-s-at : goal.returns-then-s-at
returns-then-s-at g c = parts_beyond _ _ _ g.met.E.Cuttable.cut c.if-s-at.true

pub find_parts-requires : goal.find_parts-requires
find_parts-requires g c = record { cut = g.met.E.Cuttable.cut; most = c.if-s-at.false }
