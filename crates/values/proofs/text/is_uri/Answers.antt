-- `values::text::is_uri` meets its contract.
use Rattle.values.specs.laws.ValueAt.{uri_is}
use Rattle.values.proofs.text.is_uri.Goals as goal

pub returns : goal.returns
returns g c = uri_is _ _ c.read_uri.ensures
