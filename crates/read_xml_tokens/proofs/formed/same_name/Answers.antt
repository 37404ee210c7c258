-- `read_xml_tokens::formed::same_name` meets its contract.
use native.Mathlib.Omega.{arith}
use lib.Seq.{length-take-le, take_all}
use borrow.Author.Rules.{rules}
use Rattle.source.specs.laws.Facts.{rest_part}
use Rattle.read_xml_tokens.proofs.formed.same_name.Goals as goal

pub slice_bounds-is_word-end : goal.slice_bounds-is_word-end
slice_bounds-is_word-end c = search (length-take-le, rules)

pub slice_bounds-is_word-count : goal.slice_bounds-is_word-count
slice_bounds-is_word-count c = c.requires.0

pub returns-then-e-s : goal.returns-then-e-s
returns-then-e-s c = rw (rest_part c.args.s.now c.args.b c.args.f) c.is_word.ensures

pub slice_bounds-is_word-count-2 : goal.slice_bounds-is_word-count-2
slice_bounds-is_word-count-2 c = c.requires.0

pub returns : goal.returns
returns c = rw (rest_part c.args.s.now c.args.b c.args.f, take_all c.args.e c.args.s.now (omega (arith, c.if-e-s.false))) c.is_word-2.ensures
