-- `schema::words::read_in_set` meets its contract.
use borrow.Author.Rules.{rules}
use Rattle.schema.specs.laws.Sets.{word_missing, stored, set_yes, set_no, word_none}
use Rattle.schema.proofs.words.read_in_set.Goals as goal

pub returns-in_err-n : goal.returns-in_err-n
returns-in_err-n g c = search (rules, word_missing)

pub returns-then-n-ge-COUNT : goal.returns-then-n-ge-COUNT
returns-then-n-ge-COUNT g c = word_none _ c.in_ok-n.was c.if-n-ge-COUNT.true

pub slice_bounds-find_word-count : goal.slice_bounds-find_word-count
slice_bounds-find_word-count g c = (stored _ c.if-n-ge-COUNT.false).rises

pub slice_bounds-find_word-start : goal.slice_bounds-find_word-start
slice_bounds-find_word-start g c = (stored _ c.if-n-ge-COUNT.false).rises

pub slice_bounds-find_word-end : goal.slice_bounds-find_word-end
slice_bounds-find_word-end g c = (stored _ c.if-n-ge-COUNT.false).within

pub returns-then-i-n : goal.returns-then-i-n
returns-then-i-n g c = set_yes _ c.in_ok-n.was c.if-n-ge-COUNT.false c.find_word-i.ensures c.if-i-n.true

pub returns : goal.returns
returns g c = set_no _ c.in_ok-n.was c.if-n-ge-COUNT.false c.find_word-i.ensures c.if-i-n.false
