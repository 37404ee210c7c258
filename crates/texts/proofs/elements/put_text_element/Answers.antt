-- `texts::put_text_element` meets its contract.
use native.Mathlib.Omega.{arith}
use lib.ListN.{length-take}
use Rattle.sink.specs.laws.Sink.{writing}
use Rattle.texts.specs.laws.Elements.{put_part}
use Rattle.texts.proofs.elements.put_text_element.Goals as goal

pub slice_bounds-put_text_xml-end : goal.slice_bounds-put_text_xml-end
slice_bounds-put_text_xml-end g c = simp length-take (omega arith)

pub returns : goal.returns
returns g c = search (put_part, writing)
