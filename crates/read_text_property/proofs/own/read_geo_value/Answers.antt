-- `read_text_property::own::read_geo_value` meets its contract.
use Rattle.read_text_property.specs.laws.ValuesAt.{values_yes, values_no, geo_yes, geo_no}
use Rattle.read_text_property.proofs.own.read_geo_value.Goals as goal

pub returns-in_default : goal.returns-in_default
returns-in_default g c = values_no c.args.t (geo_no c.read_geo.ensures c.in_default.is)

pub returns : goal.returns
returns g c = values_yes c.args.t (geo_yes c.read_geo.ensures c.in-Some.is)
