-- `octets::find::find_return` meets its contract.
use Rattle.octets.specs.laws.Find.{return_some, return_none}
use Rattle.octets.proofs.find.find_return.Goals as goal

pub returns-in-Some : goal.returns-in-Some
returns-in-Some c = return_some _ _ _ _ c.memchr.ensures c.in-Some.is

pub returns-in-None : goal.returns-in-None
returns-in-None c = return_none _ _ _ c.memchr.ensures c.in-None.is c.requires
