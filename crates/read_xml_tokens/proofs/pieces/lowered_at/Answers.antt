-- `read_xml_tokens::pieces::lowered_at` meets its contract.
use Prim.Native.Nat.{◌-◌}
use lib.ListN.{length}
use Rattle.read_xml_tokens.specs.laws.PieceLaws.{lowering_stop, Lowering, lowering}
use Rattle.read_xml_tokens.proofs.pieces.lowered_at.Goals as goal

pub loop-i-init : goal.loop-i-init
loop-i-init c = search lowering

pub bounds-s-c : goal.bounds-s-c
bounds-s-c c = search lowering

pub wide-b-requires : goal.wide-b-requires
wide-b-requires c = search lowering

pub lower_unit-l-requires : goal.lower_unit-l-requires
lower_unit-l-requires c = search lowering

pub bounds-w-i : goal.bounds-w-i
bounds-w-i c = search lowering

pub wide-t-requires : goal.wide-t-requires
wide-t-requires c = search lowering

pub overflow_add-c : goal.overflow_add-c
overflow_add-c c = search lowering

pub overflow_add-i : goal.overflow_add-i
overflow_add-i c = search lowering

pub loop-i-smaller : goal.loop-i-smaller
loop-i-smaller c = search lowering

pub loop-i-preserved : goal.loop-i-preserved
loop-i-preserved c = search lowering

pub returns-else-l-t : goal.returns-else-l-t
returns-else-l-t c = lowering_stop _ _ _ _ _ c.loop-i.invariant c.loop-i-test.true c.if-c-s.true c.wide-b.ensures c.lower_unit-l.ensures c.wide-t.ensures c.if-l-t.false

pub returns-else-c-s : goal.returns-else-c-s
returns-else-c-s c = search lowering

pub returns : goal.returns
returns c = search lowering
