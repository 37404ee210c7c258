-- Laws of what specs/Rules.antt defines.
--     rule_xml            they are the elements of the rule that is read
use Rattle.std.specs.Prelude.{◌≡◌, refl, Bool, true, false, List, [], ◌∷◌, map, ℕ, Option, None, Some}
use Rattle.std.proofs.Common.{sym, ap, ◌∙◌}
use Rattle.std.proofs.lemmas.Bool.{false≢true}
use Rattle.octets.specs.Pick.{pick, ◌and◌, ◌or◌}
use Rattle.octets.specs.Append.{◌⊕◌}
use Rattle.octets.specs.Class.{lower}
use Rattle.octets.specs.Words.{same, cut_at, row_of}
use Rattle.octets.specs.laws.Words.{same_true}
use Rattle.octets.specs.Lists.{distinct}
use Rattle.octets.specs.Reading.{is_read, read_each, cons_read, or_nothing}
use Rattle.octets.specs.laws.Reading.{and_then-some, cons_read-some, provided-some}
use Rattle.octets.specs.Front.{past}
use Rattle.calendar.specs.Calendar.{ical, xcal, RuleItem, moment, number, word, weekday, RulePart}
use Rattle.times.specs.Date.{is_date, write_date}
use Rattle.times.specs.laws.Date.{date_read_back}
use Rattle.times.specs.DateTime.{is_date_time, write_date_time}
use Rattle.times.specs.laws.DateTime.{date_time_read_back}
use Rattle.recur.specs.Parts.{ItemForm, word_of, enddate, counting, unsigned, signed, weekdaynum, Part, part_of, part_names}
use Rattle.recur.specs.Item.{read_item, write_item, write_enddate, is_of_form, is_for, is_item}
use Rattle.recur.specs.Shown.{shown_at}
use Rattle.recur.specs.laws.Shown.{item_shown_lem}
use Rattle.recur.specs.laws.ItemLaws.{item_characters, item_accepted}
use Rattle.recur.specs.Rule.{rule_part, is_equals, items_of, read_part, name_of, part_named, is_complete, with_part, in_order, ruled, read_rule}
use Rattle.recur.specs.Pieces.{piece_name}
use Rattle.values.specs.laws.Bare.{bare_escaped, chars_bare, date_bare, date_time_bare}
use Rattle.xml.specs.Escape.{escaped}
use Rattle.xcal.specs.WriteXml.{items_xml, parts_xml}
use Rattle.write_xml_value.specs.Rules.{each_xml, piece_xml, named_xml}

-- ---- an item has no character that is escaped

moment_bare : (m : List ℕ) → (is_date m or is_date_time m) ≡ true → escaped (write_enddate xcal m) ≡ write_enddate xcal m
unfolding ◌or◌ pick
moment_bare m h = go (is_date m) refl h
  where
    go : (t : Bool) → is_date m ≡ t → (t or is_date_time m) ≡ true → escaped (pick t (write_date xcal m) (write_date_time xcal m)) ≡ pick t (write_date xcal m) (write_date_time xcal m)
    go true e k = date_bare (write_date ical m) m (date_read_back ical m e)
    go false e k = date_time_bare (write_date_time ical m) m (date_time_read_back ical m k)

moment_form : (k : ItemForm) (m : List ℕ) → is_of_form k (moment m) ≡ true → (is_date m or is_date_time m) ≡ true
moment_form (word_of ws) m h = absurd (false≢true h)
moment_form enddate m h = h
moment_form counting m h = absurd (false≢true h)
moment_form (unsigned d lo hi) m h = absurd (false≢true h)
moment_form (signed d hi) m h = absurd (false≢true h)
moment_form weekdaynum m h = absurd (false≢true h)

moment_for : (o : Option Part) (m : List ℕ) → is_for o (moment m) ≡ true → (is_date m or is_date_time m) ≡ true
moment_for None m h = absurd (false≢true h)
moment_for (Some r) m h = moment_form r.form m h

item_bare : (n : List ℕ) (i : RuleItem) → is_item n i ≡ true → escaped (write_item xcal i) ≡ write_item xcal i
item_bare n (moment m) h = moment_bare m (moment_for (part_of n) m h)
item_bare n (number w) h = bare_escaped _ (chars_bare _ (item_characters n (number w) h))
item_bare n (word w) h = bare_escaped _ (chars_bare _ (item_characters n (word w) h))
item_bare n (weekday o d) h = bare_escaped _ (chars_bare _ (item_characters n (weekday o d) h))

-- ---- a part

item_xml_lem : (n w : List ℕ) (ws : List (List ℕ)) (i : RuleItem) (is : List RuleItem) → read_item ical n w ≡ Some i → items_xml (lower n) is ≡ each_xml n ws →
    items_xml (lower n) (i ∷ is) ≡ each_xml n (w ∷ ws)
unfolding items_xml each_xml is_read
item_xml_lem n w ws i is h k =
    let e : write_item xcal i ≡ shown_at xcal ical (part_of n) w = rw h at (item_shown_lem xcal ical n w (rw h)) in
    rw (item_bare n i (item_accepted ical n w i h), e, k)

items_xml_lem : (n : List ℕ) (ws : List (List ℕ)) (is : List RuleItem) → read_each (read_item ical n) ws ≡ Some is → items_xml (lower n) is ≡ each_xml n ws
unfolding read_each items_xml each_xml
items_xml_lem n [] is h = let z : [] ≡ is = cc in rw (← z)
items_xml_lem n (w ∷ ws) is h =
    let e = and_then-some (read_item ical n w) (λ b. cons_read b (read_each (read_item ical n) ws)) is h in
    let f = cons_read-some e.0 (read_each (read_item ical n) ws) is e.2 in
    sym (ap (items_xml (lower n)) f.2) ∙ item_xml_lem n w ws e.0 f.0 e.1 (items_xml_lem n ws f.0 f.1)

abbrev part_xml : RulePart → List ℕ
part_xml p = items_xml (lower p.part) p.items

part_xml_lem : (w : List ℕ) (p : RulePart) → read_part w ≡ Some p → (p.part ≡ piece_name w) × (part_xml p ≡ piece_xml (piece_name w) w)
unfolding piece_xml
part_xml_lem w p h =
    let n = piece_name w in
    let e = and_then-some (read_each (read_item ical n) (items_of n (past is_equals w))) (λ is. Some (rule_part n is)) p h in
    let z : rule_part n e.0 ≡ p = cc e.2 in
    rw (← z) (refl, items_xml_lem n (items_of n (past is_equals w)) e.0 e.1)

-- ---- the parts in order

named_xml_lem : (n : List ℕ) (ws : List (List ℕ)) (ps : List RulePart) → read_each read_part ws ≡ Some ps → or_nothing part_xml (part_named n ps) ≡ or_nothing (piece_xml n) (row_of piece_name n ws)
unfolding read_each row_of pick
named_xml_lem n [] ps h = let z : [] ≡ ps = cc in rw (← z)
named_xml_lem n (w ∷ ws) ps h =
    let e = and_then-some (read_part w) (λ b. cons_read b (read_each read_part ws)) ps h in
    let f = cons_read-some e.0 (read_each read_part ws) ps e.2 in
    let g = part_xml_lem w e.0 e.1 in
    rw (← f.2, g.0) (go e.0 f.0 g.1 (named_xml_lem n ws f.0 f.1) (same n (piece_name w)) refl)
  where
    go : (p : RulePart) (l : List RulePart) → part_xml p ≡ piece_xml (piece_name w) w → or_nothing part_xml (part_named n l) ≡ or_nothing (piece_xml n) (row_of piece_name n ws) →
        (t : Bool) → same n (piece_name w) ≡ t → or_nothing part_xml (pick t (Some p) (part_named n l)) ≡ or_nothing (piece_xml n) (pick t (Some w) (row_of piece_name n ws))
    go p l g ih true e = g ∙ ap (λ (x : List ℕ). piece_xml x w) (sym (same_true n (piece_name w) e))
    go p l g ih false e = ih

with_xml : (o : Option RulePart) (l : List RulePart) → parts_xml (with_part o l) ≡ or_nothing part_xml o ⊕ parts_xml l
unfolding with_part parts_xml ◌⊕◌
with_xml None l = refl
with_xml (Some p) l = refl

order_xml : (ns ws : List (List ℕ)) (ps : List RulePart) → read_each read_part ws ≡ Some ps → parts_xml (in_order ns ps) ≡ named_xml ns ws
unfolding in_order named_xml parts_xml
order_xml [] ws ps h = refl
order_xml (n ∷ ns) ws ps h = with_xml (part_named n ps) (in_order ns ps) ∙ rw (named_xml_lem n ws ps h, order_xml ns ws ps h)

pub rule_xml : (s : List ℕ) (r : List RulePart) → read_rule s ≡ Some r → parts_xml r ≡ named_xml part_names (cut_at 59 s)
rule_xml s r h =
    let e = and_then-some (read_each read_part (cut_at 59 s)) ruled r h in
    let ps = e.0 in
    let f = provided-some (distinct (map name_of ps) and is_complete ps) (in_order part_names ps) r e.2 in
    rw (← f.1) (order_xml part_names (cut_at 59 s) ps e.1)
