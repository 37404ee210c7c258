-- `text_entries::levels::cut_at_level` meets its contract.
use Rattle.text_entries.specs.laws.Levels.{cut_bare, cut_more, cut_deep}
use Rattle.text_entries.proofs.levels.cut_at_level.Goals as goal

pub returns-then-all : goal.returns-then-all
returns-then-all g c = λ from p. cut_bare c.args.left p c.if-all.true

pub returns-then-left-lt2 : goal.returns-then-left-lt2
returns-then-left-lt2 g c = λ from p. cut_deep c.args.left p c.if-left-lt2.true c.pass_component-next.ensures

pub returns : goal.returns
returns g c = λ from p. cut_more c.args.left p c.if-left-lt2.false
