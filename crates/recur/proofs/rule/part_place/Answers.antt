-- `recur::rule::part_place` meets its contract.
use Rattle.recur.specs.laws.PieceLaws.{cut_count}
use Rattle.recur.specs.laws.Whole.{name_found}
use Rattle.recur.proofs.rule.part_place.Goals as goal

pub byte_end-e-requires : goal.byte_end-e-requires
byte_end-e-requires g c = c.requires

pub slice_bounds-part_number-end : goal.slice_bounds-part_number-end
slice_bounds-part_number-end g c = cut_count c.byte_end-e.ensures

pub returns : goal.returns
returns g c = name_found g.E.Encoding.encoding c.args.s.now c.args.at c.byte_end-e.result c.byte_end-e.ensures c.part_number.ensures
