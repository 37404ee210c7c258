-- `write_jcal_property::shown::put_values` meets its contract.
use Rattle.sink.specs.laws.Sink.{writing}
use Rattle.write_jcal_property.specs.laws.Shown.{put_values, put_no_values}
use Rattle.write_jcal_property.proofs.shown.put_values.Goals as goal

pub component_place-requires : goal.component_place-requires
component_place-requires g c = let cut = g.met.E.Cuttable.cut in search writing

pub type_place-requires : goal.type_place-requires
type_place-requires g c = let cut = g.met.E.Cuttable.cut in search writing

pub read_values-requires : goal.read_values-requires
read_values-requires g c = let cut = g.met.E.Cuttable.cut in search writing

pub put_type_label-requires : goal.put_type_label-requires
put_type_label-requires g c = let cut = g.met.E.Cuttable.cut in search writing

pub returns-in-None : goal.returns-in-None
returns-in-None g c = let a = c.args in λ w e. put_no_values a.c.component a.c.row a.c.value_type _ _ _ c.component_place.ensures c.type_place.ensures c.read_values.ensures w e c.in-None.is c.put_type_label.ensures

pub put_typed-requires : goal.put_typed-requires
put_typed-requires g c = let cut = g.met.E.Cuttable.cut in search writing

pub returns-in-Some : goal.returns-in-Some
returns-in-Some g c = let a = c.args in λ w e. put_values a.c.component a.c.row a.c.value_type _ _ _ c.component_place.ensures c.type_place.ensures c.read_values.ensures w e _ c.in-Some.is c.put_typed.ensures
