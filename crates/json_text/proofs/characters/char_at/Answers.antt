-- `json_text::char_at` meets its contract. Assumes nothing.
use mathlib.Core.Path.{sym, ◌∙◌}
use Rattle.json_text.specs.laws.CharAt.{quote_char, plain_char, past_char}
use borrow.Author.Rules.{rules}
use Rattle.json_text.proofs.characters.char_at.Goals as goal

pub returns-then-u-eq-QUOTE : goal.returns-then-u-eq-QUOTE
returns-then-u-eq-QUOTE c = quote_char _ _ c.if-p-s.true _ c.wide-u.ensures.0 _ c.if-u-eq-QUOTE.true

pub escape_at-requires : goal.escape_at-requires
escape_at-requires c = (c.if-p-s.true, sym c.wide-u.ensures.0 ∙ c.if-u-eq-BACKSLASH.true)

pub returns-then-u-eq-BACKSLASH : goal.returns-then-u-eq-BACKSLASH
returns-then-u-eq-BACKSLASH c = c.escape_at.ensures

pub returns-then-p-s : goal.returns-then-p-s
returns-then-p-s c = plain_char _ _ c.if-p-s.true _ c.wide-u.ensures.0 c.if-u-eq-QUOTE.false c.if-u-eq-BACKSLASH.false c.wide-u.ensures.1

pub returns : goal.returns
returns c = past_char _ _ _ c.if-p-s.false
