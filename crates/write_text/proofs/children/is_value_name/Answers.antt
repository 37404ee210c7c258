-- `write_text::children::is_value_name` meets its contract.
use Rattle.write_text.specs.laws.Parameters.{naming}
use Rattle.write_text.proofs.children.is_value_name.Goals as goal

pub is_geo_name-requires : goal.is_geo_name-requires
is_geo_name-requires c = search naming

pub returns-then-p-eq-GEO : goal.returns-then-p-eq-GEO
returns-then-p-eq-GEO c = search naming

pub is_status_name-requires : goal.is_status_name-requires
is_status_name-requires c = search naming

pub returns-then-p-eq-REQUEST_STATUS : goal.returns-then-p-eq-REQUEST_STATUS
returns-then-p-eq-REQUEST_STATUS c = search naming

pub find_word-t-requires : goal.find_word-t-requires
find_word-t-requires c = search naming

pub returns : goal.returns
returns c = search naming
