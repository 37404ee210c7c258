-- `read_jcal_parameters::base64::has_encoding` meets its contract.
use Rattle.read_jcal_parameters.specs.laws.Encoded.{encoding}
use Rattle.read_jcal_parameters.proofs.base64.has_encoding.Goals as goal

pub returns-then-is_encoded : goal.returns-then-is_encoded
returns-then-is_encoded c = search encoding

pub loop-m-preserved : goal.loop-m-preserved
loop-m-preserved c = search encoding

pub returns : goal.returns
returns c = search encoding
