-- `recur::rule::part_number` meets its contract.
use mathlib.Core.Path.{refl}
use Rattle.names.specs.Packing.{find}
use Rattle.names.specs.laws.Packing.{by_packs, finding}
use Rattle.recur.specs.Parts.{part_names}
use Rattle.recur.specs.Packs.{part_rows, part_rows2}
use Rattle.recur.specs.laws.Whole.{names_packed}
use Rattle.recur.proofs.rule.part_number.Goals as goal

pub returns-then-w-lt37548788525918789 : goal.returns-then-w-lt37548788525918789
unfolding find
returns-then-w-lt37548788525918789 g c = by_packs _ part_rows part_rows2 part_names 14 names_packed refl c.pack-w.ensures (search finding depth 12)

pub returns : goal.returns
unfolding find
returns g c = by_packs _ part_rows part_rows2 part_names 14 names_packed refl c.pack-w.ensures (search finding depth 12)
