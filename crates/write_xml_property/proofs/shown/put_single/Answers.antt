-- `write_xml_property::put_single` meets its contract.
use Rattle.octets.specs.laws.Pick.{flag_yes, flag_no}
use Rattle.sink.specs.laws.Sink.{writing}
use Rattle.write_xml_property.proofs.shown.put_single.Goals as goal

pub has_words-chosen-requires : goal.has_words-chosen-requires
has_words-chosen-requires g c = let cut = g.met.E.Cuttable.cut in search writing

pub put_word_element-requires : goal.put_word_element-requires
put_word_element-requires g c = let cut = g.met.E.Cuttable.cut in search writing

pub shape_of-out-then-chosen : goal.shape_of-out-then-chosen
shape_of-out-then-chosen g c = let cut = g.met.E.Cuttable.cut in search writing

pub returns-then-chosen : goal.returns-then-chosen
returns-then-chosen g c = let cut = g.met.E.Cuttable.cut in search (flag_yes, writing)

pub put_value_element-requires : goal.put_value_element-requires
put_value_element-requires g c = let cut = g.met.E.Cuttable.cut in search writing

pub shape_of-out : goal.shape_of-out
shape_of-out g c = let cut = g.met.E.Cuttable.cut in search writing

pub returns : goal.returns
returns g c = let cut = g.met.E.Cuttable.cut in search (flag_no, writing)
