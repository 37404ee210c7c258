-- `write_text_jcal_values::put_scalar` meets its contract. Assumes nothing.
use Rattle.write_text_jcal_values.specs.laws.Scalars.{scalar_binary, scalar_boolean, scalar_float, scalar_integer, scalar_string}
use borrow.Author.Rules.{rules}
use lib.Seq.{length-take-le}
use native.Mathlib.Omega.{arith}
use Rattle.sink.specs.laws.Sink.{writing}
use Rattle.write_text_jcal_values.proofs.scalar.put_scalar.Goals as goal

pub overflow_add-h : goal.overflow_add-h
overflow_add-h c = omega (arith, c.requires.0, c.requires.1.begins, c.requires.1.inside)

pub overflow_mul-h : goal.overflow_mul-h
overflow_mul-h c = omega (arith, c.requires.0, c.requires.1.begins, c.requires.1.inside)

pub put_binary-requires : goal.put_binary-requires
put_binary-requires c = search writing

pub shape_of-out-then-t-eq-BINARY : goal.shape_of-out-then-t-eq-BINARY
shape_of-out-then-t-eq-BINARY c = search writing

pub returns-then-t-eq-BINARY : goal.returns-then-t-eq-BINARY
returns-then-t-eq-BINARY c = λ n m. scalar_binary c.args.s.now c.args.h c.args.t c.if-t-eq-BINARY.true c.put_binary.ensures

pub slice_bounds-put_leaf-end : goal.slice_bounds-put_leaf-end
slice_bounds-put_leaf-end c = search (length-take-le, rules)

pub put_leaf-requires : goal.put_leaf-requires
put_leaf-requires c = search writing

pub shape_of-out-then-t-eq-BOOLEAN : goal.shape_of-out-then-t-eq-BOOLEAN
shape_of-out-then-t-eq-BOOLEAN c = search writing

pub returns-then-t-eq-BOOLEAN : goal.returns-then-t-eq-BOOLEAN
returns-then-t-eq-BOOLEAN c = λ n m. scalar_boolean c.args.s.now c.args.h c.args.t c.if-t-eq-BOOLEAN.true c.put_leaf.ensures

pub slice_bounds-put_leaf-end-then-t-eq-FLOAT : goal.slice_bounds-put_leaf-end-then-t-eq-FLOAT
slice_bounds-put_leaf-end-then-t-eq-FLOAT c = search (length-take-le, rules)

pub put_leaf-requires-then-t-eq-FLOAT : goal.put_leaf-requires-then-t-eq-FLOAT
put_leaf-requires-then-t-eq-FLOAT c = search writing

pub shape_of-out-then-t-eq-FLOAT : goal.shape_of-out-then-t-eq-FLOAT
shape_of-out-then-t-eq-FLOAT c = search writing

pub returns-then-t-eq-FLOAT : goal.returns-then-t-eq-FLOAT
returns-then-t-eq-FLOAT c = λ n m. scalar_float c.args.s.now c.args.h c.args.t c.if-t-eq-FLOAT.true c.put_leaf-then-t-eq-FLOAT.ensures

pub put_number-requires : goal.put_number-requires
put_number-requires c = (omega (arith, c.requires.1.begins), c.requires.1.inside)

pub shape_of-out-then-t-eq-INTEGER : goal.shape_of-out-then-t-eq-INTEGER
shape_of-out-then-t-eq-INTEGER c = search writing

pub returns-then-t-eq-INTEGER : goal.returns-then-t-eq-INTEGER
returns-then-t-eq-INTEGER c = λ n m. scalar_integer c.args.s.now c.args.h c.args.t c.if-t-eq-INTEGER.true c.put_number.ensures

pub overflow_add-h-2 : goal.overflow_add-h-2
overflow_add-h-2 c = omega (arith, c.requires.0, c.requires.1.begins, c.requires.1.inside)

pub overflow_mul-h-2 : goal.overflow_mul-h-2
overflow_mul-h-2 c = omega (arith, c.requires.0, c.requires.1.begins, c.requires.1.inside)

pub put_leaf-requires-2 : goal.put_leaf-requires-2
put_leaf-requires-2 c = search writing

pub shape_of-out : goal.shape_of-out
shape_of-out c = search writing

pub returns : goal.returns
returns c = scalar_string c.args.s.now c.args.h c.args.t c.requires.2 c.if-t-eq-BINARY.false c.if-t-eq-BOOLEAN.false c.if-t-eq-FLOAT.false c.if-t-eq-INTEGER.false c.put_leaf-2.ensures
