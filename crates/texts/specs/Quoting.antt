-- A parameter value that stands between double quotes in iCalendar text (RFC 5545, section 3.2), although its parameter is not always quoted: exactly one that
-- holds a colon, a semicolon or a comma.
use Rattle.std.specs.Prelude.{Bool, List, ℕ}
use Rattle.octets.specs.Pick.{◌or◌}
use Rattle.octets.specs.Words.{holds}

--   param-value   = paramtext / quoted-string
--   paramtext     = *SAFE-CHAR
--   quoted-string = DQUOTE *QSAFE-CHAR DQUOTE
--   SAFE-CHAR     = any character except CONTROL, DQUOTE, ";", ":", ","

abbrev pub needs_quotes : List ℕ → Bool
needs_quotes s = holds 58 s or holds 59 s or holds 44 s
