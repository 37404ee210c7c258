-- `read_text::line::content_line` meets its contract.
use mathlib.Core.List.{[]}
use Rattle.read_text.specs.laws.Kinds.{name_count, kind_begin, kind_end, kind_property, kind_uncarried}
use Rattle.read_text.proofs.line.content_line.Goals as goal

pub slice_bounds-is_word_any_case-end : goal.slice_bounds-is_word_any_case-end
slice_bounds-is_word_any_case-end g c = name_count g.met.E.Cuttable.cut c.requires.2 c.requires.1

pub returns-then-begin : goal.returns-then-begin
returns-then-begin g c = kind_begin _ g.met.E.Cuttable.cut c.requires.2 _ _ c.args.inner c.names_carried.ensures c.begin_line.result c.if-not-names_carried.false c.is_word_any_case-begin.ensures c.if-begin.true (c.begin_line.ensures _ [] c.requires.0)

pub returns-then-end : goal.returns-then-end
returns-then-end g c = kind_end _ g.met.E.Cuttable.cut c.requires.2 _ _ c.args.inner c.names_carried.ensures c.end_line.result c.if-not-names_carried.false c.is_word_any_case-begin.ensures c.if-begin.false c.is_word_any_case-end.ensures c.if-end.true (c.end_line.ensures _ [])

pub property_line-requires : goal.property_line-requires
property_line-requires g c = (c.requires.1, c.requires.2)

pub returns : goal.returns
returns g c = kind_property _ g.met.E.Cuttable.cut c.requires.2 _ _ c.args.inner c.names_carried.ensures c.property_line.result c.if-not-names_carried.false c.is_word_any_case-begin.ensures c.if-begin.false c.is_word_any_case-end.ensures c.if-end.false (c.property_line.ensures _ _ c.requires.0)

pub returns-then-not-names_carried : goal.returns-then-not-names_carried
returns-then-not-names_carried g c = rw c.at.ensures (kind_uncarried _ g.met.E.Cuttable.cut c.requires.2 _ _ c.args.inner c.names_carried.ensures c.if-not-names_carried.true)
