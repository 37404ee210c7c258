-- `json_text::escape_at` meets its contract. Assumes nothing.
use mathlib.Core.Path.{sym, ◌∙◌}
use Rattle.json_text.specs.laws.CharAt.{letter_char, cut_char}
use borrow.Author.Rules.{rules}
use Rattle.json_text.proofs.characters.escape_at.Goals as goal

pub digits_at-requires : goal.digits_at-requires
digits_at-requires c = (c.if-p-s.true, c.requires.1, sym c.wide-c.ensures.0 ∙ c.if-c-eq117.true)

pub returns-then-c-eq117 : goal.returns-then-c-eq117
returns-then-c-eq117 c = c.digits_at.ensures

pub returns-then-p-s : goal.returns-then-p-s
returns-then-p-s c = letter_char _ _ c.requires.0 c.requires.1 c.if-p-s.true _ _ c.wide-c.ensures.0 c.if-c-eq117.false c.named_by.ensures.0 c.named_by.ensures.1

pub returns : goal.returns
returns c = cut_char _ _ c.requires.0 c.requires.1 _ c.if-p-s.false
