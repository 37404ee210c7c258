-- `xml::starting::starts_at` meets its contract.
use Prim.Native.Nat.{◌-◌}
use lib.ListN.{length}
use borrow.Author.Rules.{rules}
use Rattle.xml.specs.laws.Starting.{Starting, starting}
use Rattle.xml.proofs.starting.starts_at.Goals as goal

pub loop-j-init : goal.loop-j-init
loop-j-init c = search starting

pub loop-j-preserved : goal.loop-j-preserved
loop-j-preserved c = search starting

pub returns-else-s-k : goal.returns-else-s-k
returns-else-s-k c = search starting

pub returns-else-k-s : goal.returns-else-k-s
returns-else-k-s c = search starting

pub returns : goal.returns
returns c = search starting
