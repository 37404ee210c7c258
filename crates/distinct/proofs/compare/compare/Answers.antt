-- `distinct::compare` meets its contract.
use Rattle.distinct.specs.laws.Listed.{word_cut}
use lib.ListN.{length-take}
use native.Mathlib.Omega.{arith}
use borrow.Author.Rules.{rules}
use Rattle.distinct.proofs.compare.compare.Goals as goal

pub slice_bounds-compare_from-end : goal.slice_bounds-compare_from-end
slice_bounds-compare_from-end g c = simp length-take (omega arith)

pub slice_bounds-compare_from-end-2 : goal.slice_bounds-compare_from-end-2
slice_bounds-compare_from-end-2 g c = simp length-take (omega arith)

pub returns : goal.returns
returns g c = rw (← (word_cut g.E.Encoding.encoding c.args.s.now c.args.from.now c.args.to.now c.args.i c.number_at-e.ensures c.smaller-x.ensures c.number_at-a.ensures), ← (word_cut g.E.Encoding.encoding c.args.s.now c.args.from.now c.args.to.now c.args.j c.number_at-f.ensures c.smaller-y.ensures c.number_at-b.ensures)) c.compare_from.ensures
