-- `text_to_jcal::written_at_once` meets its contract.
use mathlib.Core.Path.{refl}
use borrow.Author.Rules.{rules}
use Rattle.lengths_jcal.specs.laws.Streams.{jcal_fits}
use Rattle.calls.specs.laws.Answered.{done_at_once}
use Rattle.text_to_jcal.specs.laws.Steps.{put_kept, jcal_counted}
use Rattle.text_to_jcal.proofs.written_at_once.Goals as goal

pub returns : goal.returns
returns c = done_at_once (jcal_counted _ _ c.requires.0) (jcal_fits _ _ _ c.requires.1) (put_kept _ c.args.kept.now c.put_jcal.ensures)
