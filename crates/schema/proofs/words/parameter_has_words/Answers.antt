-- `schema::words::parameter_has_words` meets its contract.
use Rattle.std.specs.Prelude.{is_some}
use mathlib.Core.Path.{◌∙◌, ap}
use Rattle.schema.specs.laws.Sets.{parameter_set_there}
use Rattle.schema.proofs.words.parameter_has_words.Goals as goal

pub returns : goal.returns
returns c = c.is_some.ensures ∙ ap is_some c.parameter_set.ensures ∙ parameter_set_there c.args.q
