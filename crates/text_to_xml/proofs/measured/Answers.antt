-- `text_to_xml::measured` meets its contract.
use native.Mathlib.Omega.{arith}
use borrow.Author.Rules.{rules}
use Rattle.sink.specs.laws.Sink.{writing}
use Rattle.calls.specs.laws.Answered.{done_written, done_room}
use Rattle.text_to_xml.specs.laws.Steps.{xml_counted}
use Rattle.text_to_xml.proofs.measured.Goals as goal

pub slice_bounds-put_document-end : goal.slice_bounds-put_document-end
slice_bounds-put_document-end g c = let cut = g.met.E.Cuttable.cut in search writing

pub slice_bounds-put_document-end-2 : goal.slice_bounds-put_document-end-2
slice_bounds-put_document-end-2 g c = let cut = g.met.E.Cuttable.cut in search writing

pub shape_of-out-then-need-out : goal.shape_of-out-then-need-out
shape_of-out-then-need-out g c = let cut = g.met.E.Cuttable.cut in search writing

pub returns-then-need-out : goal.returns-then-need-out
returns-then-need-out g c = done_written (xml_counted _ _ _ g.met.E.Cuttable.cut c.requires) c.put_document-need.ensures (omega (arith, c.if-need-out.true)) c.put_document.ensures

pub shape_of-out : goal.shape_of-out
shape_of-out g c = let cut = g.met.E.Cuttable.cut in search writing

pub returns : goal.returns
returns g c = done_room (xml_counted _ _ _ g.met.E.Cuttable.cut c.requires) c.put_document-need.ensures (omega (arith, c.if-need-out.false))
