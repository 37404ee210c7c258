-- `read_xml_tokens::formed::content_formed` meets its contract.
use native.Mathlib.Omega.{arith}
use borrow.Author.Rules.{rules}
use Rattle.read_xml_tokens.specs.laws.Formed.{ongoing_start, over_fine, over_open}
use Rattle.read_xml_tokens.proofs.formed.content_formed.Goals as goal

pub loop-at-init : goal.loop-at-init
loop-at-init c = ongoing_start _ _ _ _ _ c.requires.1 (search rules) (search rules) c.requires.0

pub depth_after-requires : goal.depth_after-requires
depth_after-requires c = (c.token_at-t.ensures, c.loop-at-test.true, c.loop-at.invariant.deep)

pub returns-in_default : goal.returns-in_default
returns-in_default c = rw c.at.ensures ((c.depth_after.ensures _ c.loop-at.invariant).stops c.in_default.is)

pub bounds-a-depth : goal.bounds-a-depth
bounds-a-depth c = omega (arith, c.if-depth-d.true, ((c.depth_after.ensures _ c.loop-at.invariant).opens c.in-Some.is c.if-depth-d.true).deep)

pub bounds-e-depth : goal.bounds-e-depth
bounds-e-depth c = omega (arith, c.if-depth-d.true, ((c.depth_after.ensures _ c.loop-at.invariant).opens c.in-Some.is c.if-depth-d.true).deep)

pub loop-at-smaller-then-depth-d : goal.loop-at-smaller-then-depth-d
loop-at-smaller-then-depth-d c = (c.depth_after.ensures _ c.loop-at.invariant).less c.in-Some.is

pub loop-at-preserved-then-depth-d : goal.loop-at-preserved-then-depth-d
loop-at-preserved-then-depth-d c = (c.depth_after.ensures _ c.loop-at.invariant).opens c.in-Some.is c.if-depth-d.true

pub loop-at-smaller : goal.loop-at-smaller
loop-at-smaller c = (c.depth_after.ensures _ c.loop-at.invariant).less c.in-Some.is

pub loop-at-preserved : goal.loop-at-preserved
loop-at-preserved c = (c.depth_after.ensures _ c.loop-at.invariant).stays c.in-Some.is c.if-depth-d.false

pub returns-then-depth-eq0 : goal.returns-then-depth-eq0
returns-then-depth-eq0 c = over_fine c.loop-at.invariant c.loop-at-test.false c.if-depth-eq0.true

pub returns-else-depth-eq0 : goal.returns-else-depth-eq0
returns-else-depth-eq0 c = rw c.at-else-depth-eq0.ensures (over_open c.loop-at.invariant c.loop-at-test.false c.if-depth-eq0.false)
