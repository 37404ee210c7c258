-- `write_jcal::alone::is_alone` meets its contract.
use Rattle.write_jcal.specs.laws.Alone.{begun_at, alone_is_last, alone_none}
use Rattle.write_jcal.proofs.alone.is_alone.Goals as goal

pub returns-in_default : goal.returns-in_default
returns-in_default g c = alone_none c.next_begin.ensures c.in_default.is

pub pass_component-end-requires : goal.pass_component-end-requires
pass_component-end-requires g c = (begun_at c.next_begin.ensures c.in-Some.is).ready

pub next_begin-requires-2 : goal.next_begin-requires-2
next_begin-requires-2 g c = c.pass_component-end.ensures.ready

pub returns : goal.returns
returns g c = alone_is_last c.next_begin.ensures c.in-Some.is c.pass_component-end.ensures c.next_begin-2.ensures c.is_none.ensures
