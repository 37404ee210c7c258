-- Where the input can't be read, nothing is written.
use Rattle.std.proofs.Common.{take}
use Rattle.edition.specs.Edition.{edition_of}
use Rattle.calls_jcal.specs.JcalToText.{jcal_to_text}
use Rattle.reporting.specs.Line.{reply}
use Rattle.reporting.specs.laws.Line.{unread}
use Rattle.jcal_to_text.proofs.run.Goals as goal

pub returns-in_err-n : goal.returns-in_err-n
returns-in_err-n g c = unread (g.R.Read.remaining c.args.from.now) _ c.from_residual.result (λ xs. reply (jcal_to_text (edition_of 0) (take 65536 xs)) 393216) c.from_residual.ensures.0
