-- `read_text_whole::index_at` meets its contract.
use native.Mathlib.Omega.{arith}
use borrow.Author.Rules.{rules}
use Rattle.read_text_whole.specs.laws.Steps.{index_start, index_counted, index_none}
use Rattle.std.proofs.Common.{sym, ap, ◌∙◌, Some}
use Rattle.source.specs.laws.Facts.{cut_plain}
use Rattle.read_text_whole.proofs.index_at.Goals as goal

pub returns-in-Some-Plain : goal.returns-in-Some-Plain
returns-in-Some-Plain g c = index_start _ (cut_plain _ (sym c.cut.ensures ∙ c.in-Some-Plain.is ∙ ap Some c.in-Some-Plain.field-0-is)) c.requires

pub returns-then-left-all : goal.returns-then-left-all
returns-then-left-all g c = index_counted _ _ _ c.count_from-all.ensures c.count_from-left.ensures

pub returns-else-left-all : goal.returns-else-left-all
returns-else-left-all g c = index_none _ _ _ c.count_from-all.ensures c.count_from-left.ensures c.if-left-all.false
