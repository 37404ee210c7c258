-- `write_xml_parameters::line::put_parameters` meets its contract.
use Rattle.write_xml_parameters.specs.laws.Parts.{put_unread, put_only, put_shown}
use Rattle.sink.specs.laws.Sink.{writing}
use Rattle.write_xml_parameters.proofs.line.put_parameters.Goals as goal

pub are_read-requires : goal.are_read-requires
are_read-requires g c = let cut = g.met.E.Cuttable.cut in search writing

pub is_bare-requires : goal.is_bare-requires
is_bare-requires g c = let cut = g.met.E.Cuttable.cut in search writing

pub put_element-requires : goal.put_element-requires
put_element-requires g c = let cut = g.met.E.Cuttable.cut in search writing

pub returns-then-not-are_read : goal.returns-then-not-are_read
returns-then-not-are_read g c = let cut = g.met.E.Cuttable.cut in search (put_unread, writing)

pub returns-then-is_bare : goal.returns-then-is_bare
returns-then-is_bare g c = let cut = g.met.E.Cuttable.cut in search (put_only, writing)

pub returns : goal.returns
returns g c = let cut = g.met.E.Cuttable.cut in search (put_shown, writing)
