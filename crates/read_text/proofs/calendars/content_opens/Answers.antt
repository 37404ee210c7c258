-- `read_text::calendars::content_opens` meets its contract.
use Rattle.read_text.specs.laws.Outer.{outer_begin, outer_stray, outer_uncarried}
use Rattle.read_text.specs.laws.Kinds.{name_count}
use Rattle.read_text.proofs.calendars.content_opens.Goals as goal

pub slice_bounds-is_word_any_case-end : goal.slice_bounds-is_word_any_case-end
slice_bounds-is_word_any_case-end g c = name_count g.met.E.Cuttable.cut c.requires.1 c.requires.0

pub returns-then-begin : goal.returns-then-begin
returns-then-begin g c = outer_begin _ g.met.E.Cuttable.cut c.requires.1 c.names_carried.ensures c.if-not-names_carried.false c.is_word_any_case-begin.ensures c.begin_opens.result c.if-begin.true c.begin_opens.ensures

pub returns : goal.returns
returns g c = rw c.at-2.ensures (outer_stray _ g.met.E.Cuttable.cut c.requires.1 c.names_carried.ensures c.if-not-names_carried.false c.is_word_any_case-begin.ensures c.if-begin.false)

pub returns-then-not-names_carried : goal.returns-then-not-names_carried
returns-then-not-names_carried g c = rw c.at.ensures (outer_uncarried _ g.met.E.Cuttable.cut c.requires.1 c.names_carried.ensures c.if-not-names_carried.true)
