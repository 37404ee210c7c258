-- `texts::put_items_xml` meets its contract.
use Rattle.texts.specs.laws.Elements.{listing}
use Rattle.texts.proofs.elements.put_items_xml.Goals as goal

pub returns-then-n-eq-END : goal.returns-then-n-eq-END
returns-then-n-eq-END g c = let cut = g.met.E.Cuttable.cut in search listing

pub loop-n-preserved : goal.loop-n-preserved
loop-n-preserved g c = let cut = g.met.E.Cuttable.cut in search listing
