-- `read_json::member_at` meets its contract.
use Rattle.read_json.specs.laws.MemberHeads.{searching}
use Rattle.read_json.proofs.members.member_at.Goals as goal

pub returns-in-Absent : goal.returns-in-Absent
returns-in-Absent c = search searching

pub returns-in-Name : goal.returns-in-Name
returns-in-Name c = search searching

pub loop-c-preserved-in-Array : goal.loop-c-preserved-in-Array
loop-c-preserved-in-Array c = search searching

pub loop-c-preserved : goal.loop-c-preserved
loop-c-preserved c = search searching
