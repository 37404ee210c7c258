-- Where the input can't be read, nothing is written.
use Rattle.std.proofs.Common.{take}
use Rattle.edition.specs.Edition.{edition_of}
use Rattle.calls.specs.ToXml.{to_xml}
use Rattle.reporting.specs.Line.{reply}
use Rattle.reporting.specs.laws.Line.{unread}
use Rattle.to_xml.proofs.run.Goals as goal

pub returns-in_err-n : goal.returns-in_err-n
returns-in_err-n g c = unread (g.R.Read.remaining c.args.from.now) _ c.from_residual.result (λ xs. reply (to_xml (edition_of 0) (take 65536 xs) 65536) 1310720) c.from_residual.ensures.0
