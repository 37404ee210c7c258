-- `read_text::named::is_same_name` meets its contract.
use Rattle.read_text.specs.laws.Names.{comparing}
use Rattle.read_text.proofs.named.is_same_name.Goals as goal

pub compare_from-order-requires : goal.compare_from-order-requires
compare_from-order-requires g c = search comparing

pub returns-then-order-eq0 : goal.returns-then-order-eq0
returns-then-order-eq0 g c = search comparing

pub returns : goal.returns
returns g c = search comparing
