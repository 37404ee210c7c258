-- `write_text_jcal_values::put_item_of` meets its contract. Assumes nothing.
use Rattle.write_text_jcal_values.specs.laws.Items.{item_string, item_word}
use borrow.Author.Rules.{rules}
use lib.Seq.{length-take-le}
use native.Mathlib.Omega.{arith}
use mathlib.Core.Path.{sym, ◌∙◌}
use Rattle.sink.specs.laws.Sink.{writing}
use Rattle.write_text_jcal_values.proofs.item.put_item_of.Goals as goal

pub is_string-string-requires : goal.is_string-string-requires
is_string-string-requires c = search writing

pub overflow_add-h : goal.overflow_add-h
overflow_add-h c = omega (arith, c.requires.0, c.requires.1.place (sym c.is_string-string.ensures ∙ c.if-string.true))

pub overflow_mul-h : goal.overflow_mul-h
overflow_mul-h c = omega (arith, c.requires.0, c.requires.1.place (sym c.is_string-string.ensures ∙ c.if-string.true))

pub put_item-requires : goal.put_item-requires
put_item-requires c = search writing

pub shape_of-out-then-string : goal.shape_of-out-then-string
shape_of-out-then-string c = search writing

pub returns-then-string : goal.returns-then-string
returns-then-string c = item_string c.args.p c.args.s.now c.args.h c.is_string-string.ensures c.if-string.true c.put_item.ensures

pub slice_bounds-put_item-end : goal.slice_bounds-put_item-end
slice_bounds-put_item-end c = search (length-take-le, rules)

pub put_item-requires-2 : goal.put_item-requires-2
put_item-requires-2 c = search writing

pub shape_of-out : goal.shape_of-out
shape_of-out c = search writing

pub returns : goal.returns
returns c = item_word c.args.p c.args.s.now c.args.h c.is_string-string.ensures c.if-string.false c.put_item-2.ensures
