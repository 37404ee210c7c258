-- `recur::rule::is_part` meets its contract.
use mathlib.Core.Path.{sym, ◌∙◌}
use Rattle.recur.specs.laws.Whole.{part_listed, part_single}
use Rattle.source.specs.Source.{rest}
use Rattle.recur.proofs.rule.is_part.Goals as goal

pub value_at-v-requires : goal.value_at-v-requires
value_at-v-requires g c = c.requires.1

pub are_items-requires : goal.are_items-requires
are_items-requires g c = c.value_at-v.ensures.1

pub returns-then-is_list_part : goal.returns-then-is_list_part
returns-then-is_list_part g c = part_listed (rest g.E.Encoding.encoding c.args.s.now c.args.at) (rw (← c.requires.0) (sym c.is_list_part.ensures ∙ c.if-is_list_part.true)) (rw (← c.requires.0, c.value_at-v.ensures.0) c.are_items.ensures)

pub returns : goal.returns
returns g c = part_single (rest g.E.Encoding.encoding c.args.s.now c.args.at) (rw (← c.requires.0) (sym c.is_list_part.ensures ∙ c.if-is_list_part.false)) (rw (← c.requires.0, c.value_at-v.ensures.0) c.is_item.ensures)
