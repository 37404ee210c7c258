-- `read_text::line::property_line` meets its contract.
use Rattle.read_text.specs.laws.Kinds.{name_count, name-row}
use Rattle.read_text.proofs.line.property_line.Goals as goal

pub slice_bounds-row_of-end : goal.slice_bounds-row_of-end
slice_bounds-row_of-end g c = name_count g.met.E.Cuttable.cut c.requires.1 c.requires.0

pub returns : goal.returns
returns g c = λ i n o. c.row_line.ensures i n _ o (name-row g.met.E.Cuttable.cut c.requires.1 c.row_of-row.ensures)
