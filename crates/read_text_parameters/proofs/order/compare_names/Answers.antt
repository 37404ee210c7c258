-- `read_text_parameters::compare_names` meets its contract. Assumes nothing.
use mathlib.Core.Path.{refl}
use Rattle.read_text_parameters.specs.laws.Naming.{name_less, name_more, name_end, name_on, name_nearer}
use borrow.Author.Rules.{rules}
use Rattle.read_text_parameters.proofs.order.compare_names.Goals as goal

pub loop-x-init : goal.loop-x-init
loop-x-init g c = refl

pub returns-then-xu-yu : goal.returns-then-xu-yu
returns-then-xu-yu g c = search (name_less, rules)

pub returns-then-yu-xu : goal.returns-then-yu-xu
returns-then-yu-xu g c = search (name_more, rules)

pub returns-then-xu-eq-END : goal.returns-then-xu-eq-END
returns-then-xu-eq-END g c = search (name_end, rules)

pub loop-x-smaller : goal.loop-x-smaller
loop-x-smaller g c = search (name_nearer, rules)

pub loop-x-preserved : goal.loop-x-preserved
loop-x-preserved g c = search (name_on, rules)
