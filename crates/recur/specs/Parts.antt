-- The parts of a recurrence rule (RFC 5545, section 3.3.10, `recur-rule-part`), in the order of the schema's `value-recur` (RFC 6321, appendix A),
-- and what an item of each part is.
--     part_table    the fourteen parts
--     part_names    their names, in capitals
--     is_list_part  a part that has a list of items: in XML its element may stand several times
--     part_order    the place of a name in the schema's order, from 0; of another name, the number of the parts
use Rattle.std.specs.Prelude.{Bool, true, false, List, [], ◌∷◌, map, ℕ, Option, None, Some}
use Rattle.octets.specs.Ascii.{ascii}
use Rattle.octets.specs.Words.{row_of}
use Rattle.names.specs.Table.{place_of}

-- freq = "SECONDLY" / "MINUTELY" / "HOURLY" / "DAILY" / "WEEKLY" / "MONTHLY" / "YEARLY"
abbrev pub frequencies : List (List ℕ)
frequencies = ascii "SECONDLY" ∷ ascii "MINUTELY" ∷ ascii "HOURLY" ∷ ascii "DAILY" ∷ ascii "WEEKLY" ∷ ascii "MONTHLY" ∷ ascii "YEARLY" ∷ []

-- weekday = "SU" / "MO" / "TU" / "WE" / "TH" / "FR" / "SA"
abbrev pub weekdays : List (List ℕ)
weekdays = ascii "SU" ∷ ascii "MO" ∷ ascii "TU" ∷ ascii "WE" ∷ ascii "TH" ∷ ascii "FR" ∷ ascii "SA" ∷ []

-- what an item is
pub data ItemForm : Type 0 where
  word_of : List (List ℕ) → ItemForm  -- one of these words
  enddate : ItemForm  -- enddate = date / date-time
  counting : ItemForm  -- 1*DIGIT, 1 to 2147483647
  unsigned : ℕ → ℕ → ℕ → ItemForm  -- unsigned d lo hi: 1*dDIGIT, lo to hi
  signed : ℕ → ℕ → ItemForm  -- signed d hi: [plus / minus] 1*dDIGIT, 1 to hi
  weekdaynum : ItemForm  -- weekdaynum = [[plus / minus] ordwk] weekday;  ordwk = 1*2DIGIT, 1 to 53

-- a part: its name, whether it has a list of items, and what an item is
pub record Part : Type 0 where
  pub name : List ℕ
  pub listed : Bool
  pub form : ItemForm

abbrev pub one : List ℕ → ItemForm → Part
one n f = record { name = n; listed = false; form = f }

abbrev pub several : List ℕ → ItemForm → Part
several n f = record { name = n; listed = true; form = f }

abbrev pub part_table : List Part
part_table =
    one (ascii "FREQ") (word_of frequencies)
    ∷ one (ascii "UNTIL") enddate
    ∷ one (ascii "COUNT") counting
    ∷ one (ascii "INTERVAL") counting
    ∷ several (ascii "BYSECOND") (unsigned 2 0 60)  -- seconds = 1*2DIGIT, 0 to 60
    ∷ several (ascii "BYMINUTE") (unsigned 2 0 59)  -- minutes = 1*2DIGIT, 0 to 59
    ∷ several (ascii "BYHOUR") (unsigned 2 0 23)  -- hour = 1*2DIGIT, 0 to 23
    ∷ several (ascii "BYDAY") weekdaynum
    ∷ several (ascii "BYMONTHDAY") (signed 2 31)  -- monthdaynum = [plus / minus] ordmoday;  ordmoday = 1*2DIGIT, 1 to 31
    ∷ several (ascii "BYYEARDAY") (signed 3 366)  -- yeardaynum = [plus / minus] ordyrday;  ordyrday = 1*3DIGIT, 1 to 366
    ∷ several (ascii "BYWEEKNO") (signed 2 53)  -- weeknum = [plus / minus] ordwk
    ∷ several (ascii "BYMONTH") (unsigned 2 1 12)  -- monthnum = 1*2DIGIT, 1 to 12
    ∷ several (ascii "BYSETPOS") (signed 3 366)  -- setposday = yeardaynum
    ∷ one (ascii "WKST") (word_of weekdays)
    ∷ []

abbrev pub part_names : List (List ℕ)
part_names = map (λ (r : Part). r.name) part_table

abbrev pub part_of : List ℕ → Option Part
part_of n = row_of (λ (r : Part). r.name) n part_table

abbrev pub is_listed : Option Part → Bool
is_listed None = false
is_listed (Some r) = r.listed

abbrev pub is_list_part : List ℕ → Bool
is_list_part n = is_listed (part_of n)

abbrev pub part_order : List ℕ → ℕ
part_order n = place_of n part_names
