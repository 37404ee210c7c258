-- `write_text_values::typed::find_typed` meets its contract.
use Rattle.read_xml_nodes.specs.laws.HeadFound.{tag_within, end_less, head_literal_less, head_referred_less}
use Prim.Native.Nat.{◌-◌}
use lib.ListN.{length}
use Rattle.xcal.specs.ValueNodes.{typed_values}
use Rattle.write_text_values.specs.laws.Walking.{Seeking}
use Rattle.write_text_values.specs.laws.Typed.{typings, typed_none, typed_here, typed_other, typed_literal, typed_referred}
use borrow.Author.Rules.{rules}
use Rattle.write_text_values.proofs.typed.find_typed.Given as goal

abbrev pub invariant-values : goal.invariant-values
invariant-values l = Seeking typed_values l.s l.at l.c

abbrev pub decreases-values : goal.decreases-values
decreases-values l = length l.s - l.c
