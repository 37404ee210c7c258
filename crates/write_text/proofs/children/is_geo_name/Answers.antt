-- `write_text::children::is_geo_name` meets its contract.
use Rattle.write_text.specs.laws.Parameters.{naming}
use Rattle.write_text.proofs.children.is_geo_name.Goals as goal

pub is_word-latitude-requires : goal.is_word-latitude-requires
is_word-latitude-requires c = search naming

pub returns-then-latitude : goal.returns-then-latitude
returns-then-latitude c = search naming

pub is_word-requires : goal.is_word-requires
is_word-requires c = search naming

pub returns : goal.returns
returns c = search naming
