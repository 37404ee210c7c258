-- `write_jcal::alone::next_begin` meets its contract.
use Rattle.std.proofs.Common.{inl, inr}
use Rattle.write_jcal.proofs.Seeking.{seekings, seeking_property, seeking_nothing}
use Rattle.write_jcal.proofs.alone.next_begin.Goals as goal

pub loop-at-init : goal.loop-at-init
loop-at-init g c = search seekings

pub bound_at-f-requires : goal.bound_at-f-requires
bound_at-f-requires g c = search seekings

pub returns-in-Begin : goal.returns-in-Begin
returns-in-Begin g c = search seekings

pub returns-in-End : goal.returns-in-End
returns-in-End g c = search seekings

pub loop-at-smaller : goal.loop-at-smaller
loop-at-smaller g c = search seekings

pub loop-at-preserved : goal.loop-at-preserved
loop-at-preserved g c = elim c.in-Property.is [ inl q ↦ seeking_property c.loop-at.invariant c.bound_at-f.ensures q | inr q ↦ seeking_nothing c.loop-at.invariant c.bound_at-f.ensures q ]

pub returns : goal.returns
returns g c = search seekings
