-- `schema::words::has_words` meets its contract.
use Rattle.std.specs.Prelude.{is_some}
use mathlib.Core.Path.{◌∙◌, ap}
use Rattle.schema.specs.laws.Sets.{set_there}
use Rattle.schema.proofs.words.has_words.Goals as goal

pub returns : goal.returns
returns c = c.is_some.ensures ∙ ap is_some c.set_at.ensures ∙ set_there c.args.k c.args.p
