-- A rule is read back from its text, and what is read is a rule.
--     rule_read_back
--     rule_accepted
--     rule_visible      the text of a rule is visible characters
use Rattle.std.specs.Prelude.{◌≡◌, refl, Bool, true, false, List, [], ◌∷◌, map, ℕ, eqb, Some}
use Rattle.std.proofs.Common.{◌∙◌}
use Rattle.std.proofs.lemmas.Bool.{false≢true}
use Rattle.octets.specs.Ascii.{ascii}
use Rattle.octets.specs.Pick.{pick, ◌and◌, ◌or◌}
use Rattle.octets.specs.laws.Pick.{and_yes, or_left, and_both}
use Rattle.octets.specs.Scan.{all_of}
use Rattle.octets.specs.laws.Scan.{all_weaker}
use Rattle.octets.specs.Class.{is_visible}
use Rattle.octets.specs.Words.{holds, cut_at, row_of}
use Rattle.octets.specs.laws.Words.{cut_joined, all_without}
use Rattle.octets.specs.Lists.{every, distinct}
use Rattle.octets.specs.laws.Lists.{all_joined, none_holds_lem}
use Rattle.octets.specs.Reading.{and_then, read_each, is_read}
use Rattle.octets.specs.laws.Reading.{and_then-some, each_accepted, each_read_back, provided-some}
use Rattle.octets.specs.Computing.{octets_compute}
use Rattle.times.specs.Spelling.{is_time_char}
use Rattle.times.specs.laws.Spelling.{chars_visible}
use Rattle.calendar.specs.Calendar.{RulePart}
use Rattle.recur.specs.Parts.{part_names}
use Rattle.recur.specs.Rule.{read_part, write_part, is_part, name_of, is_complete, in_order, is_ordered, ruled, read_rule, write_rule, is_rule}
use Rattle.recur.specs.laws.OrderLaws.{once_ordered, order_back, ordered_order, every_order, named_order}
use Rattle.recur.specs.laws.PartLaws.{part_read_back, part_accepted, part_characters}

pub names_once : distinct part_names ≡ true
unfolding distinct octets_compute
names_once = refl

-- ---- what a rule is

rule_ordered : (r : List RulePart) → is_rule r ≡ true → is_ordered part_names r ≡ true
rule_ordered r h = (and_both (is_ordered part_names r) (is_complete r and every is_part r) h).0

rule_complete : (r : List RulePart) → is_rule r ≡ true → is_complete r ≡ true
rule_complete r h = (and_both (is_complete r) (every is_part r) (and_both (is_ordered part_names r) (is_complete r and every is_part r) h).1).0

rule_parts : (r : List RulePart) → is_rule r ≡ true → every is_part r ≡ true
rule_parts r h = (and_both (is_complete r) (every is_part r) (and_both (is_ordered part_names r) (is_complete r and every is_part r) h).1).1

-- ---- read back

-- a character of a part
is_part_char : ℕ → Bool
is_part_char b = is_time_char b or eqb b 61 or eqb b 44

part_lacks : (p : RulePart) → is_part p ≡ true → holds 59 (write_part p) ≡ false
unfolding is_part_char is_time_char octets_compute
part_lacks p h =
    all_without is_part_char 59 refl (write_part p)
    (part_characters is_part_char (all_weaker is_time_char is_part_char (λ b e. or_left (is_time_char b) (eqb b 61 or eqb b 44) e)) refl refl p h)

rule_cut : (r : List RulePart) → is_rule r ≡ true → cut_at 59 (write_rule r) ≡ map write_part r
unfolding row_of is_read ◌and◌ is_ordered
rule_cut [] h = absurd (false≢true (rule_complete [] h))
rule_cut (p ∷ ps) h = cut_joined 59 (write_part p) (map write_part ps) (none_holds_lem is_part write_part 59 part_lacks (p ∷ ps) (rule_parts (p ∷ ps) h))

pub rule_read_back : (r : List RulePart) → is_rule r ≡ true → read_rule (write_rule r) ≡ Some r
unfolding and_then pick ◌and◌
rule_read_back r h =
    let o = rule_ordered r h in
    rw (
      rule_cut r h,
      each_read_back read_part is_part write_part part_read_back r (rule_parts r h),
      once_ordered part_names r names_once o,
      rule_complete r h,
      order_back part_names r names_once o,
    )

-- ---- accepted

same_complete : (ps : List RulePart) → is_complete (in_order part_names ps) ≡ is_complete ps
unfolding octets_compute
same_complete ps =
    rw (
      named_order (ascii "FREQ") part_names ps names_once refl,
      named_order (ascii "UNTIL") part_names ps names_once refl,
      named_order (ascii "COUNT") part_names ps names_once refl,
    )

pub rule_accepted : (s : List ℕ) (r : List RulePart) → read_rule s ≡ Some r → is_rule r ≡ true
rule_accepted s r h =
    let e = and_then-some (read_each read_part (cut_at 59 s)) ruled r h in
    let ps = e.0 in
    let f = provided-some (distinct (map name_of ps) and is_complete ps) (in_order part_names ps) r e.2 in
    let q = in_order part_names ps in
    rw (← f.1)
    (and_yes (is_ordered part_names q) (is_complete q and every is_part q) (ordered_order part_names ps names_once)
    (and_yes (is_complete q) (every is_part q)
    (same_complete ps ∙ (and_both (distinct (map name_of ps)) (is_complete ps) f.0).1)
    (every_order is_part part_names ps (each_accepted read_part is_part part_accepted (cut_at 59 s) ps e.1))))

-- ---- visible

pub rule_visible : (r : List RulePart) → is_rule r ≡ true → all_of is_visible (write_rule r) ≡ true
unfolding ◌and◌
rule_visible r h = all_joined is_part write_part is_visible 59 refl (part_characters is_visible chars_visible refl refl) r (rule_parts r h)
