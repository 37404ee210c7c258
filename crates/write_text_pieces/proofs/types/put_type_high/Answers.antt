-- `write_text_pieces::types::put_type_high` meets its contract.
use Prim.Native.Nat.{ℕ}
use native.Mathlib.Omega.{arith}
use Rattle.sink.specs.laws.Sink.{writing}
use Rattle.names.specs.laws.Numbered.{at_number, beyond_from}
use Rattle.schema.specs.Types.{type_name}
use Rattle.schema.specs.Numbers.{type_at}
use Rattle.write_text_pieces.specs.laws.Typing.{type_unnamed}
use Rattle.write_text_pieces.proofs.types.put_type_high.Goals as goal

pub put_all-requires : goal.put_all-requires
put_all-requires c = search writing

pub put_all-requires-in-8 : goal.put_all-requires-in-8
put_all-requires-in-8 c = search writing

pub put_all-requires-in-9 : goal.put_all-requires-in-9
put_all-requires-in-9 c = search writing

pub put_all-requires-in-10 : goal.put_all-requires-in-10
put_all-requires-in-10 c = search writing

pub put_all-requires-in-11 : goal.put_all-requires-in-11
put_all-requires-in-11 c = search writing

pub put_all-requires-in-12 : goal.put_all-requires-in-12
put_all-requires-in-12 c = search writing

pub put_all-requires-in-13 : goal.put_all-requires-in-13
put_all-requires-in-13 c = search writing

pub put_all-requires-in_default : goal.put_all-requires-in_default
put_all-requires-in_default c = search writing

pub shape_of-out-in-7 : goal.shape_of-out-in-7
shape_of-out-in-7 c = search writing

pub returns-in-7 : goal.returns-in-7
returns-in-7 c = at_number (λ (n : ℕ). type_name (type_at n)) 7 c.in-7.is c.put_all.ensures

pub shape_of-out-in-8 : goal.shape_of-out-in-8
shape_of-out-in-8 c = search writing

pub returns-in-8 : goal.returns-in-8
returns-in-8 c = at_number (λ (n : ℕ). type_name (type_at n)) 8 c.in-8.is c.put_all-in-8.ensures

pub shape_of-out-in-9 : goal.shape_of-out-in-9
shape_of-out-in-9 c = search writing

pub returns-in-9 : goal.returns-in-9
returns-in-9 c = at_number (λ (n : ℕ). type_name (type_at n)) 9 c.in-9.is c.put_all-in-9.ensures

pub shape_of-out-in-10 : goal.shape_of-out-in-10
shape_of-out-in-10 c = search writing

pub returns-in-10 : goal.returns-in-10
returns-in-10 c = at_number (λ (n : ℕ). type_name (type_at n)) 10 c.in-10.is c.put_all-in-10.ensures

pub shape_of-out-in-11 : goal.shape_of-out-in-11
shape_of-out-in-11 c = search writing

pub returns-in-11 : goal.returns-in-11
returns-in-11 c = at_number (λ (n : ℕ). type_name (type_at n)) 11 c.in-11.is c.put_all-in-11.ensures

pub shape_of-out-in-12 : goal.shape_of-out-in-12
shape_of-out-in-12 c = search writing

pub returns-in-12 : goal.returns-in-12
returns-in-12 c = at_number (λ (n : ℕ). type_name (type_at n)) 12 c.in-12.is c.put_all-in-12.ensures

pub shape_of-out-in-13 : goal.shape_of-out-in-13
shape_of-out-in-13 c = search writing

pub returns-in-13 : goal.returns-in-13
returns-in-13 c = at_number (λ (n : ℕ). type_name (type_at n)) 13 c.in-13.is c.put_all-in-13.ensures

pub shape_of-out-in_default : goal.shape_of-out-in_default
shape_of-out-in_default c = search writing

pub returns-in_default : goal.returns-in_default
returns-in_default c = type_unnamed _ (omega arith) c.put_all-in_default.ensures
