-- `read_xml_tokens::pieces::blank_at` meets its contract.
use mathlib.Core.Path.{sym, ◌∙◌}
use Prim.Native.Nat.{◌-◌}
use lib.ListN.{length}
use Rattle.read_xml_tokens.specs.laws.PieceLaws.{blank_more, blank_stop, Blank, passing}
use Rattle.read_xml_tokens.proofs.pieces.blank_at.Goals as goal

pub loop-i-init : goal.loop-i-init
loop-i-init c = search passing

pub bounds-s-i : goal.bounds-s-i
bounds-s-i c = search passing

pub wide-b-requires : goal.wide-b-requires
wide-b-requires c = search passing

pub is_space-requires : goal.is_space-requires
is_space-requires c = search passing

pub overflow_add-i : goal.overflow_add-i
overflow_add-i c = search passing

pub loop-i-smaller : goal.loop-i-smaller
loop-i-smaller c = search passing

pub loop-i-preserved : goal.loop-i-preserved
loop-i-preserved c = blank_more _ _ _ _ c.loop-i.invariant c.loop-i-test.true c.wide-b.ensures (sym c.is_space.ensures ∙ c.if-is_space.true)

pub returns-else-is_space : goal.returns-else-is_space
returns-else-is_space c = blank_stop _ _ _ _ c.loop-i.invariant c.loop-i-test.true c.wide-b.ensures (sym c.is_space.ensures ∙ c.if-is_space.false)

pub returns : goal.returns
returns c = search passing
