-- `xml::references::digits_at` meets its contract.
use Prim.Native.Nat.{◌-◌}
use lib.ListN.{length}
use borrow.Author.Rules.{rules}
use Rattle.xml.specs.laws.Digits.{Counting, counting}
use Rattle.xml.proofs.references.digits_at.Goals as goal

pub loop-i-init : goal.loop-i-init
loop-i-init c = search counting

pub grow-v-requires : goal.grow-v-requires
grow-v-requires c = search counting

pub loop-i-smaller : goal.loop-i-smaller
loop-i-smaller c = search counting

pub loop-i-preserved : goal.loop-i-preserved
loop-i-preserved c = search counting

pub returns-else-is_digit_in : goal.returns-else-is_digit_in
returns-else-is_digit_in c = search counting

pub returns : goal.returns
returns c = search counting
