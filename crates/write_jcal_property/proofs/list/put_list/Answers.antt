-- `write_jcal_property::list::put_list` meets its contract.
use Rattle.write_jcal_property.specs.laws.Pieces.{put_list_texts, put_list_past, put_list_pieces, end_within, index_within}
use Rattle.sink.specs.laws.Sink.{writing}
use Rattle.write_jcal_property.proofs.list.put_list.Goals as goal

pub put_texts-requires : goal.put_texts-requires
put_texts-requires g c = let cut = g.met.E.Cuttable.cut in search writing

pub shape_of-out-then-t-eq-TEXT : goal.shape_of-out-then-t-eq-TEXT
shape_of-out-then-t-eq-TEXT g c = let cut = g.met.E.Cuttable.cut in search writing

pub returns-then-t-eq-TEXT : goal.returns-then-t-eq-TEXT
returns-then-t-eq-TEXT g c = let cut = g.met.E.Cuttable.cut in search (put_list_texts, writing)

pub put_pieces-requires : goal.put_pieces-requires
put_pieces-requires g c = let cut = g.met.E.Cuttable.cut in search (end_within, writing)

pub shape_of-out-then-s-at : goal.shape_of-out-then-s-at
shape_of-out-then-s-at g c = let cut = g.met.E.Cuttable.cut in search writing

pub returns-then-s-at : goal.returns-then-s-at
returns-then-s-at g c = let cut = g.met.E.Cuttable.cut in search (put_list_past, writing)

pub put_pieces-requires-2 : goal.put_pieces-requires-2
put_pieces-requires-2 g c = let cut = g.met.E.Cuttable.cut in search (index_within, writing)

pub shape_of-out : goal.shape_of-out
shape_of-out g c = let cut = g.met.E.Cuttable.cut in search writing

pub returns : goal.returns
returns g c = let cut = g.met.E.Cuttable.cut in search (put_list_pieces, writing)
