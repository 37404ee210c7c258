-- `read_text::named::is_component_name` meets its contract.
use Rattle.read_text.specs.laws.Names.{naming}
use Rattle.read_text.proofs.named.is_component_name.Goals as goal

pub unit-first-requires : goal.unit-first-requires
unit-first-requires g c = search naming

pub returns-then-first-eq-END : goal.returns-then-first-eq-END
returns-then-first-eq-END g c = search naming

pub name_end-e-requires : goal.name_end-e-requires
name_end-e-requires g c = search naming

pub unit-last-requires : goal.unit-last-requires
unit-last-requires g c = search naming

pub is_carried_name-requires : goal.is_carried_name-requires
is_carried_name-requires g c = search naming

pub returns-then-last-eq-END : goal.returns-then-last-eq-END
returns-then-last-eq-END g c = search naming

pub returns : goal.returns
returns g c = search naming
