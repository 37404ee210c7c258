-- Lists of TEXT, of CATEGORIES (RFC 5545, section 3.8.1.2) and RESOURCES (3.8.1.10), as iCalendar text writes them. In xCal each has its own element.
--     read_texts s     the texts between bare commas; a bare semicolon is a fault; no bytes are one empty text, and empty texts count
--     write_texts ts   escaped, with commas between them
use Rattle.std.specs.Prelude.{List, map, ℕ, Option}
use Rattle.octets.specs.Words.{joined_by}
use Rattle.texts.specs.Text.{split_text, write_text}

--   categories = "CATEGORIES" catparam ":" text *("," text) CRLF
--   resources  = "RESOURCES" resrcparam ":" text *("," text) CRLF

abbrev pub read_texts : List ℕ → Option (List (List ℕ))
read_texts s = split_text 44 s

abbrev pub write_texts : List (List ℕ) → List ℕ
write_texts ts = joined_by 44 (map write_text ts)
