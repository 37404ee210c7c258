-- `write_jcal_property::shown::put_shown` meets its contract.
use Rattle.sink.specs.laws.Sink.{writing}
use Rattle.write_jcal_property.proofs.shown.put_shown.Goals as goal

pub put_geo-requires : goal.put_geo-requires
put_geo-requires g c = let cut = g.met.E.Cuttable.cut in search writing

pub shape_of-out-then-p-eq-GEO : goal.shape_of-out-then-p-eq-GEO
shape_of-out-then-p-eq-GEO g c = let cut = g.met.E.Cuttable.cut in search writing

pub returns-then-p-eq-GEO : goal.returns-then-p-eq-GEO
returns-then-p-eq-GEO g c = let cut = g.met.E.Cuttable.cut in search writing

pub put_status-requires : goal.put_status-requires
put_status-requires g c = let cut = g.met.E.Cuttable.cut in search writing

pub shape_of-out-then-p-eq-REQUEST_STATUS : goal.shape_of-out-then-p-eq-REQUEST_STATUS
shape_of-out-then-p-eq-REQUEST_STATUS g c = let cut = g.met.E.Cuttable.cut in search writing

pub returns-then-p-eq-REQUEST_STATUS : goal.returns-then-p-eq-REQUEST_STATUS
returns-then-p-eq-REQUEST_STATUS g c = let cut = g.met.E.Cuttable.cut in search writing

pub put_list-requires : goal.put_list-requires
put_list-requires g c = let cut = g.met.E.Cuttable.cut in search writing

pub shape_of-out-then-c : goal.shape_of-out-then-c
shape_of-out-then-c g c = let cut = g.met.E.Cuttable.cut in search writing

pub returns-then-c : goal.returns-then-c
returns-then-c g c = let cut = g.met.E.Cuttable.cut in search writing

pub put_single-requires : goal.put_single-requires
put_single-requires g c = let cut = g.met.E.Cuttable.cut in search writing

pub shape_of-out : goal.shape_of-out
shape_of-out g c = let cut = g.met.E.Cuttable.cut in search writing

pub returns : goal.returns
returns g c = let cut = g.met.E.Cuttable.cut in search writing
