-- `write_text_values::property::type_of_values` meets its contract.
use Rattle.xml.specs.NodesAt.{nodes_at}
use Rattle.write_text_values.specs.laws.ValuesAt.{type_geo, type_status, type_typed}
use Rattle.write_text_values.proofs.property.type_of_values.Goals as goal

pub returns-then-p-eq-GEO : goal.returns-then-p-eq-GEO
returns-then-p-eq-GEO c = type_geo c.args.p (nodes_at c.args.s.now c.args.inside) c.if-p-eq-GEO.true

pub returns-then-p-eq-REQUEST_STATUS : goal.returns-then-p-eq-REQUEST_STATUS
returns-then-p-eq-REQUEST_STATUS c = type_status c.args.p (nodes_at c.args.s.now c.args.inside) c.if-p-eq-GEO.false c.if-p-eq-REQUEST_STATUS.true

pub type_of_typed-requires : goal.type_of_typed-requires
type_of_typed-requires c = c.requires

pub returns : goal.returns
returns c = type_typed c.args.p (nodes_at c.args.s.now c.args.inside) c.if-p-eq-GEO.false c.if-p-eq-REQUEST_STATUS.false c.type_of_typed.ensures
