-- A RECUR from its elements, written as text (RFC 6321, section 3.6.10): for each part in the schema's order its items.
--     item_text       an item as text
use Rattle.std.specs.Prelude.{List, ℕ}
use Rattle.calendar.specs.Calendar.{ical}
use Rattle.recur.specs.Item.{write_item}
use Rattle.write_text_values.specs.Rules.{item_at}

-- ---- one item

abbrev pub item_text : ℕ → List ℕ → ℕ → List ℕ
item_text p s i = write_item ical (item_at p s i)
