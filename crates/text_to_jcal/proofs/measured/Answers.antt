-- `text_to_jcal::measured` meets its contract.
use mathlib.Core.Path.{refl}
use Prim.Native.Nat.{◌^◌, ◌<◌}
use native.Mathlib.Omega.{arith}
use borrow.Author.Rules.{rules}
use lib.ListN.{length}
use Rattle.sink.specs.laws.Sink.{writing}
use Rattle.calls.specs.laws.Answered.{done_written, done_room}
use Rattle.text_to_jcal.specs.laws.Steps.{put_kept, jcal_counted}
use Rattle.folding.specs.Lines.{lines}
use Rattle.text.specs.Tree.{calendar_of}
use Rattle.jcal.specs.WriteJcal.{write_jcal}
use Rattle.text_to_jcal.proofs.measured.Goals as goal

pub slice_bounds-put_jcal-end : goal.slice_bounds-put_jcal-end
slice_bounds-put_jcal-end c = search writing

pub slice_bounds-put_jcal-end-2 : goal.slice_bounds-put_jcal-end-2
slice_bounds-put_jcal-end-2 c = search writing

pub shape_of-out-then-need-out : goal.shape_of-out-then-need-out
shape_of-out-then-need-out c = search writing

pub returns-then-need-out : goal.returns-then-need-out
returns-then-need-out c = let k : length (write_jcal (calendar_of c.args.edition (lines c.args.kept.now))) < 2 ^ 63 = jcal_counted _ _ c.requires in done_written k (put_kept _ c.args.kept.now c.put_jcal-need.ensures) (omega (arith, c.if-need-out.true)) (put_kept _ c.args.kept.now c.put_jcal.ensures)

pub shape_of-out : goal.shape_of-out
shape_of-out c = search writing

pub returns : goal.returns
returns c = let k : length (write_jcal (calendar_of c.args.edition (lines c.args.kept.now))) < 2 ^ 63 = jcal_counted _ _ c.requires in done_room k (put_kept _ c.args.kept.now c.put_jcal-need.ensures) (omega (arith, c.if-need-out.false))
