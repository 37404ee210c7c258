-- `write_text_values::child::child_inside` meets its contract.
use Rattle.write_text_values.specs.laws.Children.{text_or_end}
use Rattle.std.proofs.Common.{sym, subst}
use Rattle.write_text_values.specs.Children.{TextAt}
use Rattle.write_text_values.proofs.child.child_inside.Goals as goal

pub returns : goal.returns
returns c = subst (TextAt c.args.name.now c.args.s.now c.args.inside) (sym c.unwrap_or.ensures) (text_or_end c.find_child.ensures)
