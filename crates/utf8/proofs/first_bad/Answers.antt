-- `utf8::first_bad` meets its contract.
use Rattle.octets.specs.laws.Scan.{scanning}
use Rattle.utf8.specs.laws.Automaton.{found}
use Rattle.utf8.proofs.first_bad.Goals as goal

pub at_start-st-requires : goal.at_start-st-requires
at_start-st-requires c = search scanning

pub loop-i-init : goal.loop-i-init
loop-i-init c = rw c.at_start-st.ensures (search scanning)

pub bounds-s-i : goal.bounds-s-i
bounds-s-i c = search scanning

pub read-st-requires : goal.read-st-requires
read-st-requires c = search scanning

pub overflow_add-i : goal.overflow_add-i
overflow_add-i c = search scanning

pub loop-i-smaller : goal.loop-i-smaller
loop-i-smaller c = search scanning

pub loop-i-preserved : goal.loop-i-preserved
loop-i-preserved c = search scanning

pub end-requires : goal.end-requires
end-requires c = search scanning

pub returns : goal.returns
returns c = search (found, scanning)
