-- `read_xml_parameters::verdict::is_before` meets its contract.
use Prim.Native.Nat.{◌-◌}
use lib.ListN.{length}
use Rattle.read_xml_nodes.specs.laws.Walks.{Passing}
use Rattle.read_xml_parameters.specs.Seen.{is_before}
use Rattle.read_xml_parameters.specs.laws.Seen.{befores}
use borrow.Author.Rules.{rules}
use Rattle.read_xml_parameters.proofs.verdict.is_before.Goals as goal

pub loop-a-init : goal.loop-a-init
loop-a-init c = search befores

pub slice_bounds-is_word-count : goal.slice_bounds-is_word-count
slice_bounds-is_word-count c = search befores

pub slice_bounds-is_word-start : goal.slice_bounds-is_word-start
slice_bounds-is_word-start c = search befores

pub slice_bounds-is_word-end : goal.slice_bounds-is_word-end
slice_bounds-is_word-end c = search befores

pub returns-then-again : goal.returns-then-again
returns-then-again c = search befores

pub loop-a-smaller : goal.loop-a-smaller
loop-a-smaller c = search befores

pub loop-a-preserved : goal.loop-a-preserved
loop-a-preserved c = search befores

pub returns-else-n-at : goal.returns-else-n-at
returns-else-n-at c = search befores

pub returns-else-n : goal.returns-else-n
returns-else-n c = search befores
