-- `bits::low_bits` meets its contract.
use lib.Bits.{and_mask}
use Rattle.bits.specs.laws.Masks.{one_shifted, one_shifted_pos}
use Rattle.bits.proofs.low_bits.Goals as goal

pub overflow_sub-result : goal.overflow_sub-result
overflow_sub-result c = one_shifted_pos c.args.count c.requires

pub returns : goal.returns
returns c = rw (one_shifted c.args.count c.requires, and_mask c.args.x c.args.count)
