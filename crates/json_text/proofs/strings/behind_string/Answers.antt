-- `json_text::behind_string` meets its contract. Assumes nothing.
use Rattle.octets.specs.laws.Pick.{branching}
use Rattle.json_text.proofs.strings.behind_string.Goals as goal

pub returns-then-name : goal.returns-then-name
returns-then-name c = search branching

pub returns : goal.returns
returns c = search branching
