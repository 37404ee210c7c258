-- `source::point_unit` meets its contract. Assumes nothing.
use native.Mathlib.Omega.{arith}
use Rattle.source.specs.laws.Stepping.{left_more, left_last, left_none}
use borrow.Author.Rules.{rules}
use Rattle.source.proofs.points.point_unit.Goals as goal

pub spelled_byte-b-requires : goal.spelled_byte-b-requires
spelled_byte-b-requires c = c.requires.0

pub overflow_add-result : goal.overflow_add-result
overflow_add-result c = omega (arith, c.requires.1, c.requires.2)

pub overflow_mul-result : goal.overflow_mul-result
overflow_mul-result c = omega (arith, c.requires.1, c.requires.2)

pub overflow_add-result-then-j-m-2 : goal.overflow_add-result-then-j-m-2
overflow_add-result-then-j-m-2 c = omega (arith, c.requires.1, c.requires.2)

pub returns-then-j-m-2 : goal.returns-then-j-m-2
returns-then-j-m-2 c = λ m f. left_more f c.requires.1 c.requires.2 _ _ (omega (arith, c.spelled_length-m.ensures)) c.spelled_byte-b.ensures.0 c.spelled_byte-b.ensures.1

pub overflow_mul-result-then-j-m : goal.overflow_mul-result-then-j-m
overflow_mul-result-then-j-m c = omega (arith, c.requires.2)

pub returns-then-j-m : goal.returns-then-j-m
returns-then-j-m c = λ m f. left_last f c.requires.1 c.requires.2 _ _ (omega (arith, c.spelled_length-m.ensures)) (omega (arith, c.spelled_length-m.ensures)) c.spelled_byte-b.ensures.0 c.spelled_byte-b.ensures.1

pub returns : goal.returns
returns c = λ m f. left_none f c.requires.1 c.requires.2 _ _ (omega (arith, c.spelled_length-m.ensures)) (omega arith) (omega (arith, c.requires))
