-- `numbers::geo::read_geo` meets its contract.
use Rattle.numbers.specs.laws.ReadGeo.{geo_single, geo_triple, geo_no_latitude, geo_no_longitude, geo_both}
use mathlib.Core.Path.{sym, ◌∙◌}
use Rattle.numbers.proofs.geo.read_geo.Goals as goal

pub returns-in_err-longitude : goal.returns-in_err-longitude
returns-in_err-longitude g c = rw c.from_residual.ensures (geo_single _ _ _ c.after_first.ensures c.in_err-longitude.was)

pub returns-then-is_some : goal.returns-then-is_some
returns-then-is_some g c = geo_triple _ _ _ c.after_first.ensures c.in_ok-longitude.was c.after_first-2.ensures (sym c.is_some.ensures ∙ c.if-is_some.true)

pub returns-in_err-float_to : goal.returns-in_err-float_to
returns-in_err-float_to g c =
    rw c.from_residual-in_err-float_to.ensures
    (geo_no_latitude _ _ _ c.after_first.ensures c.in_ok-longitude.was c.after_first-2.ensures (sym c.is_some.ensures ∙ c.if-is_some.false) (rw c.in_err-float_to.was at c.float_to.ensures))

pub returns-in_err-read_float : goal.returns-in_err-read_float
returns-in_err-read_float g c =
    rw c.from_residual-in_err-read_float.ensures
    (geo_no_longitude _ _ _ c.after_first.ensures c.in_ok-longitude.was c.after_first-2.ensures (sym c.is_some.ensures ∙ c.if-is_some.false) (rw c.in_err-read_float.was at c.read_float.ensures))

pub returns : goal.returns
returns g c =
    geo_both _ _ _ c.after_first.ensures c.in_ok-longitude.was c.after_first-2.ensures (sym c.is_some.ensures ∙ c.if-is_some.false)
    (rw c.in_ok-float_to.was at c.float_to.ensures) (rw c.in_ok-read_float.was at c.read_float.ensures)
