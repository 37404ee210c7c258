-- `read_jcal_value::is_geo` meets its contract.
use Rattle.read_jcal_value.specs.laws.Typed.{geo_pair, geos}
use Rattle.read_jcal_value.proofs.own.is_geo.Goals as goal

pub returns-in_default : goal.returns-in_default
returns-in_default c = search geos

pub returns-in_default-leaf_at : goal.returns-in_default-leaf_at
returns-in_default-leaf_at c = search geos

pub returns-then-is_end : goal.returns-then-is_end
returns-then-is_end c = geo_pair c.in-Some.ensures c.in-Some-leaf_at.ensures c.is_end.ensures c.if-is_end.true c.is_place.ensures

pub returns-else-is_end : goal.returns-else-is_end
returns-else-is_end c = search geos
