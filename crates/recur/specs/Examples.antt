-- Computed examples of items and rules.
use Rattle.std.specs.Prelude.{◌≡◌, refl, true, false, List, [], ◌∷◌, map, ℕ, None, Some}
use Rattle.octets.specs.Ascii.{ascii}
use Rattle.octets.specs.Reading.{is_read}
use Rattle.calendar.specs.Calendar.{Format, ical, xcal, RulePart, moment, number, word, weekday}
use Rattle.recur.specs.Parts.{part_names, is_list_part, part_order}
use Rattle.recur.specs.Item.{whole_number, read_item, write_item, is_item}
use Rattle.recur.specs.Rule.{rule_part, read_rule, write_rule, is_rule}
use Rattle.recur.specs.Computing.{recur_compute}

-- words: any case from text, capitals from XML
words : map (λ (f : Format). read_item f (ascii "FREQ") (ascii "Daily")) (ical ∷ xcal ∷ []) ≡ Some (word (ascii "DAILY")) ∷ None ∷ []
unfolding recur_compute
words = refl

-- digit counts, signs and ranges
counts : map (read_item ical (ascii "COUNT")) (ascii "0005" ∷ ascii "+5" ∷ ascii "0" ∷ ascii "2147483647" ∷ ascii "2147483648" ∷ ascii "" ∷ [])
    ≡ Some (number (whole_number false 5)) ∷ None ∷ None ∷ Some (number (whole_number false 2147483647)) ∷ None ∷ None ∷ []
unfolding recur_compute
counts = refl

seconds : map (read_item ical (ascii "BYSECOND")) (ascii "07" ∷ ascii "007" ∷ ascii "60" ∷ ascii "61" ∷ ascii "-1" ∷ [])
    ≡ Some (number (whole_number false 7)) ∷ None ∷ Some (number (whole_number false 60)) ∷ None ∷ None ∷ []
unfolding recur_compute
seconds = refl

positions : map (read_item xcal (ascii "BYSETPOS")) (ascii "-366" ∷ ascii "+001" ∷ ascii "0" ∷ ascii "-" ∷ ascii "+-1" ∷ [])
    ≡ Some (number (whole_number true 366)) ∷ Some (number (whole_number false 1)) ∷ None ∷ None ∷ None ∷ []
unfolding recur_compute
positions = refl

days : map (read_item ical (ascii "BYDAY")) (ascii "su" ∷ ascii "+2Mo" ∷ ascii "-1SU" ∷ ascii "54SU" ∷ ascii "+SU" ∷ ascii "1" ∷ ascii "SUMO" ∷ ascii "SU1" ∷ [])
    ≡ Some (weekday None (ascii "SU")) ∷ Some (weekday (Some (whole_number false 2)) (ascii "MO")) ∷ Some (weekday (Some (whole_number true 1)) (ascii "SU")) ∷ None ∷ None ∷ None ∷ None ∷ None ∷ []
unfolding recur_compute
days = refl

ends : map (read_item ical (ascii "UNTIL")) (ascii "20240504" ∷ ascii "20240504t080000z" ∷ ascii "20240504T080000" ∷ ascii "20230229" ∷ ascii "2024-05-04" ∷ [])
    ≡ Some (moment (ascii "20240504")) ∷ Some (moment (ascii "20240504T080000Z")) ∷ Some (moment (ascii "20240504T080000")) ∷ None ∷ None ∷ []
unfolding recur_compute
ends = refl

xml_ends : map (read_item xcal (ascii "UNTIL")) (ascii "2024-05-04" ∷ ascii "2024-05-04T08:00:00Z" ∷ ascii "2024-05-04t08:00:00Z" ∷ ascii "20240504" ∷ [])
    ≡ Some (moment (ascii "20240504")) ∷ Some (moment (ascii "20240504T080000Z")) ∷ None ∷ None ∷ []
unfolding recur_compute
xml_ends = refl

xml_written : map (write_item xcal) (moment (ascii "20240504") ∷ moment (ascii "20240504T080000Z") ∷ [])
    ≡ ascii "2024-05-04" ∷ ascii "2024-05-04T08:00:00Z" ∷ []
unfolding recur_compute
xml_written = refl

written : map (write_item ical) (number (whole_number true 366) ∷ weekday (Some (whole_number true 1)) (ascii "SU") ∷ weekday None (ascii "MO") ∷ word (ascii "DAILY") ∷ [])
    ≡ ascii "-366" ∷ ascii "-1SU" ∷ ascii "MO" ∷ ascii "DAILY" ∷ []
unfolding recur_compute
written = refl

-- what can be an item of a part
items : map (is_item (ascii "BYMONTHDAY")) (number (whole_number true 31) ∷ number (whole_number false 0) ∷ number (whole_number false 32) ∷ word (ascii "SU") ∷ []) ≡ true ∷ false ∷ false ∷ false ∷ []
unfolding recur_compute
items = refl

-- a whole rule: its parts are put in the schema's order
rule : read_rule (ascii "byday=-1SU,mo;FREQ=monthly;Count=010")
    ≡ Some (
    rule_part (ascii "FREQ") (word (ascii "MONTHLY") ∷ [])
    ∷ rule_part (ascii "COUNT") (number (whole_number false 10) ∷ [])
    ∷ rule_part (ascii "BYDAY") (weekday (Some (whole_number true 1)) (ascii "SU") ∷ weekday None (ascii "MO") ∷ [])
    ∷ [])
unfolding recur_compute
rule = refl

rule_written : write_rule (
    rule_part (ascii "FREQ") (word (ascii "YEARLY") ∷ [])
    ∷ rule_part (ascii "UNTIL") (moment (ascii "20240504") ∷ [])
    ∷ rule_part (ascii "BYMONTH") (number (whole_number false 1) ∷ number (whole_number false 12) ∷ [])
    ∷ [])
    ≡ ascii "FREQ=YEARLY;UNTIL=20240504;BYMONTH=1,12"
unfolding recur_compute
rule_written = refl

freq : RulePart
freq = rule_part (ascii "FREQ") (word (ascii "DAILY") ∷ [])

count : RulePart
count = rule_part (ascii "COUNT") (number (whole_number false 5) ∷ [])

until : RulePart
until = rule_part (ascii "UNTIL") (moment (ascii "20240504") ∷ [])

-- parts in another order, a part twice, UNTIL and COUNT, no FREQ, no item
kept_rules : map is_rule (
    (freq ∷ count ∷ [])
    ∷ (count ∷ freq ∷ [])
    ∷ (freq ∷ freq ∷ [])
    ∷ (freq ∷ until ∷ count ∷ [])
    ∷ (count ∷ [])
    ∷ (freq ∷ rule_part (ascii "BYHOUR") [] ∷ [])
    ∷ [])
    ≡ true ∷ false ∷ false ∷ false ∷ false ∷ false ∷ []
unfolding recur_compute freq count until
kept_rules = refl

-- what is a fault and what is none
rules : map (λ (s : List ℕ). is_read (read_rule s)) (
    ascii "FREQ=DAILY;BYSETPOS=1,1"
    ∷ ascii "UNTIL=20240504;FREQ=DAILY"
    ∷ ascii "FREQ=DAILY;UNTIL=20240504;COUNT=1"
    ∷ ascii "COUNT=1"
    ∷ ascii "FREQ=DAILY;"
    ∷ ascii "FREQ=DAILY;COUNT"
    ∷ ascii "FREQ=DAILY;BYDAY=SU,"
    ∷ ascii "FREQ=DAILY;FREQ=DAILY"
    ∷ ascii "FREQ=DAILY;RSCALE=GREGORIAN"
    ∷ ascii "FREQ=DAILY,WEEKLY"
    ∷ ascii "FREQ=DAILY=WEEKLY"
    ∷ ascii ""
    ∷ [])
    ≡ true ∷ true ∷ false ∷ false ∷ false ∷ false ∷ false ∷ false ∷ false ∷ false ∷ false ∷ false ∷ []
unfolding recur_compute
rules = refl

names : map part_order (ascii "FREQ" ∷ ascii "WKST" ∷ ascii "RSCALE" ∷ []) ≡ 0 ∷ 13 ∷ 14 ∷ []
unfolding recur_compute
names = refl

in_order_lem : map part_order part_names ≡ 0 ∷ 1 ∷ 2 ∷ 3 ∷ 4 ∷ 5 ∷ 6 ∷ 7 ∷ 8 ∷ 9 ∷ 10 ∷ 11 ∷ 12 ∷ 13 ∷ []
unfolding recur_compute
in_order_lem = refl

lists : map is_list_part (ascii "INTERVAL" ∷ ascii "BYDAY" ∷ ascii "X-A" ∷ []) ≡ false ∷ true ∷ false ∷ []
unfolding recur_compute
lists = refl
