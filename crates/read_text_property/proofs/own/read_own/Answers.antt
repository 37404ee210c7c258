-- `read_text_property::own::read_own` meets its contract.
use borrow.Author.Tests.{eq-eqb, ne_eqb}
use Rattle.read_text_property.specs.laws.ValuesAt.{own_take, own_skip}
use Rattle.read_text_property.proofs.own.read_own.Goals as goal

pub returns-then-p-eq-GEO : goal.returns-then-p-eq-GEO
returns-then-p-eq-GEO g c = own_take _ _ _ (eq-eqb _ _ c.if-p-eq-GEO.true) c.read_geo_value.ensures

pub returns-then-p-eq-REQUEST_STATUS : goal.returns-then-p-eq-REQUEST_STATUS
returns-then-p-eq-REQUEST_STATUS g c = own_skip _ _ _ (ne_eqb _ _ c.if-p-eq-GEO.false) (own_take _ _ _ (eq-eqb _ _ c.if-p-eq-REQUEST_STATUS.true) c.read_status.ensures)

pub returns-then-c : goal.returns-then-c
returns-then-c g c = own_skip _ _ _ (ne_eqb _ _ c.if-p-eq-GEO.false) (own_skip _ _ _ (ne_eqb _ _ c.if-p-eq-REQUEST_STATUS.false) (own_take _ _ _ c.if-c.true c.read_listed.ensures))

pub returns : goal.returns
returns g c = own_skip _ _ _ (ne_eqb _ _ c.if-p-eq-GEO.false) (own_skip _ _ _ (ne_eqb _ _ c.if-p-eq-REQUEST_STATUS.false) (own_skip _ _ _ c.if-c.false c.read_chosen.ensures))
