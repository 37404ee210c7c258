-- `write_text_pieces::types::put_type_low` meets its contract.
use Prim.Native.Nat.{ℕ}
use native.Mathlib.Omega.{arith}
use Rattle.sink.specs.laws.Sink.{writing}
use Rattle.names.specs.laws.Numbered.{at_number, last_one}
use Rattle.schema.specs.Types.{type_name}
use Rattle.schema.specs.Numbers.{type_at}
use Rattle.write_text_pieces.proofs.types.put_type_low.Goals as goal

pub put_all-requires : goal.put_all-requires
put_all-requires c = search writing

pub put_all-requires-in-1 : goal.put_all-requires-in-1
put_all-requires-in-1 c = search writing

pub put_all-requires-in-2 : goal.put_all-requires-in-2
put_all-requires-in-2 c = search writing

pub put_all-requires-in-3 : goal.put_all-requires-in-3
put_all-requires-in-3 c = search writing

pub put_all-requires-in-4 : goal.put_all-requires-in-4
put_all-requires-in-4 c = search writing

pub put_all-requires-in-5 : goal.put_all-requires-in-5
put_all-requires-in-5 c = search writing

pub put_all-requires-in_default : goal.put_all-requires-in_default
put_all-requires-in_default c = search writing

pub shape_of-out-in-0 : goal.shape_of-out-in-0
shape_of-out-in-0 c = search writing

pub returns-in-0 : goal.returns-in-0
returns-in-0 c = at_number (λ (n : ℕ). type_name (type_at n)) 0 c.in-0.is c.put_all.ensures

pub shape_of-out-in-1 : goal.shape_of-out-in-1
shape_of-out-in-1 c = search writing

pub returns-in-1 : goal.returns-in-1
returns-in-1 c = at_number (λ (n : ℕ). type_name (type_at n)) 1 c.in-1.is c.put_all-in-1.ensures

pub shape_of-out-in-2 : goal.shape_of-out-in-2
shape_of-out-in-2 c = search writing

pub returns-in-2 : goal.returns-in-2
returns-in-2 c = at_number (λ (n : ℕ). type_name (type_at n)) 2 c.in-2.is c.put_all-in-2.ensures

pub shape_of-out-in-3 : goal.shape_of-out-in-3
shape_of-out-in-3 c = search writing

pub returns-in-3 : goal.returns-in-3
returns-in-3 c = at_number (λ (n : ℕ). type_name (type_at n)) 3 c.in-3.is c.put_all-in-3.ensures

pub shape_of-out-in-4 : goal.shape_of-out-in-4
shape_of-out-in-4 c = search writing

pub returns-in-4 : goal.returns-in-4
returns-in-4 c = at_number (λ (n : ℕ). type_name (type_at n)) 4 c.in-4.is c.put_all-in-4.ensures

pub shape_of-out-in-5 : goal.shape_of-out-in-5
shape_of-out-in-5 c = search writing

pub returns-in-5 : goal.returns-in-5
returns-in-5 c = at_number (λ (n : ℕ). type_name (type_at n)) 5 c.in-5.is c.put_all-in-5.ensures

pub shape_of-out-in_default : goal.shape_of-out-in_default
shape_of-out-in_default c = search writing

pub returns-in_default : goal.returns-in_default
returns-in_default c = at_number (λ (n : ℕ). type_name (type_at n)) 6 (omega arith) c.put_all-in_default.ensures
