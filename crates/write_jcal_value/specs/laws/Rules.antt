-- Laws of what specs/Rules.antt defines.
--     rule_json            they are the members of the rule that is read
use Rattle.std.specs.Prelude.{◌≡◌, refl, Bool, true, false, List, [], ◌∷◌, map, ℕ, Option, None, Some, option_map}
use Rattle.std.proofs.Common.{sym, ap, ◌∙◌}
use Rattle.std.proofs.lemmas.Bool.{false≢true}
use Rattle.octets.specs.Ascii.{ascii}
use Rattle.octets.specs.Pick.{pick, ◌and◌}
use Rattle.octets.specs.Append.{◌⊕◌}
use Rattle.octets.specs.Words.{same, cut_at, row_of}
use Rattle.octets.specs.laws.Words.{same_true}
use Rattle.octets.specs.Lists.{distinct}
use Rattle.octets.specs.Reading.{is_read, read_each, cons_read}
use Rattle.octets.specs.laws.Reading.{and_then-some, cons_read-some, provided-some}
use Rattle.octets.specs.Front.{past}
use Rattle.calendar.specs.Calendar.{ical, xcal, RuleItem, moment, number, word, weekday, RulePart}
use Rattle.recur.specs.Parts.{ItemForm, word_of, enddate, counting, unsigned, signed, weekdaynum, Part, part_of, part_names}
use Rattle.recur.specs.Item.{read_item, write_item, write_enddate, is_of_form, is_for}
use Rattle.recur.specs.Shown.{shown_at}
use Rattle.recur.specs.laws.Shown.{item_shown_lem}
use Rattle.recur.specs.laws.ItemLaws.{item_accepted}
use Rattle.recur.specs.Rule.{rule_part, is_equals, items_of, read_part, name_of, part_named, is_complete, with_part, in_order, ruled, read_rule}
use Rattle.recur.specs.Pieces.{piece_name}
use Rattle.json_text.specs.Write.{escaped}
use Rattle.jcal.specs.WriteJcal.{item_json, part_json}
use Rattle.jcal.proofs.laws.Plain.{item_plain}
use Rattle.write_jcal_value.specs.laws.Each.{each_written}
use Rattle.write_jcal_value.specs.Rules.{is_numbers, has_numbers, plain_json, item_shown, items_shown, piece_shown, with_member, named_shown}

-- ---- an item is a number or not, by its part

quoted_plain : (s : List ℕ) → escaped s ≡ s → ascii "\"" ⊕ escaped s ⊕ ascii "\"" ≡ ascii "\"" ⊕ s ⊕ ascii "\""
quoted_plain s e = ap (λ (l : List ℕ). ascii "\"" ⊕ l ⊕ ascii "\"") e

form_json : (k : ItemForm) (i : RuleItem) → is_of_form k i ≡ true → escaped (write_item xcal i) ≡ write_item xcal i → item_json i ≡ plain_json (is_numbers k) (write_item xcal i)
unfolding pick
form_json (word_of ws) (moment m) h e = absurd (false≢true h)
form_json (word_of ws) (number w) h e = absurd (false≢true h)
form_json (word_of ws) (word w) h e = quoted_plain w e
form_json (word_of ws) (weekday o d) h e = absurd (false≢true h)
form_json enddate (moment m) h e = quoted_plain (write_enddate xcal m) e
form_json enddate (number w) h e = absurd (false≢true h)
form_json enddate (word w) h e = absurd (false≢true h)
form_json enddate (weekday o d) h e = absurd (false≢true h)
form_json counting (moment m) h e = absurd (false≢true h)
form_json counting (number w) h e = refl
form_json counting (word w) h e = absurd (false≢true h)
form_json counting (weekday o d) h e = absurd (false≢true h)
form_json (unsigned a b c) (moment m) h e = absurd (false≢true h)
form_json (unsigned a b c) (number w) h e = refl
form_json (unsigned a b c) (word w) h e = absurd (false≢true h)
form_json (unsigned a b c) (weekday o d) h e = absurd (false≢true h)
form_json (signed a b) (moment m) h e = absurd (false≢true h)
form_json (signed a b) (number w) h e = refl
form_json (signed a b) (word w) h e = absurd (false≢true h)
form_json (signed a b) (weekday o d) h e = absurd (false≢true h)
form_json weekdaynum (moment m) h e = absurd (false≢true h)
form_json weekdaynum (number w) h e = absurd (false≢true h)
form_json weekdaynum (word w) h e = absurd (false≢true h)
form_json weekdaynum (weekday o d) h e = quoted_plain (write_item xcal (weekday o d)) e

item_for : (o : Option Part) (i : RuleItem) → is_for o i ≡ true → escaped (write_item xcal i) ≡ write_item xcal i → item_json i ≡ plain_json (has_numbers o) (write_item xcal i)
item_for None i h e = absurd (false≢true h)
item_for (Some r) i h e = form_json r.form i h e

item_json_lem : (n w : List ℕ) (i : RuleItem) → read_item ical n w ≡ Some i → item_json i ≡ item_shown n w
unfolding is_read
item_json_lem n w i h =
    let a = item_accepted ical n w i h in
    let e : write_item xcal i ≡ shown_at xcal ical (part_of n) w = rw h at (item_shown_lem xcal ical n w (rw h)) in
    item_for (part_of n) i a (item_plain n i a) ∙ ap (plain_json (has_numbers (part_of n))) e

-- ---- a part

items_json : (n : List ℕ) (ws : List (List ℕ)) (is : List RuleItem) → read_each (read_item ical n) ws ≡ Some is → map item_json is ≡ map (item_shown n) ws
items_json n ws is h = sym (each_written (read_item ical n) (item_shown n) item_json (λ w i e. sym (item_json_lem n w i e)) ws is h)

part_json_lem : (w : List ℕ) (p : RulePart) → read_part w ≡ Some p → (p.part ≡ piece_name w) × (part_json p ≡ piece_shown (piece_name w) w)
unfolding piece_shown items_shown
part_json_lem w p h =
    let n = piece_name w in
    let e = and_then-some (read_each (read_item ical n) (items_of n (past is_equals w))) (λ is. Some (rule_part n is)) p h in
    let z : rule_part n e.0 ≡ p = cc e.2 in
    rw (← z) (refl, rw (items_json n (items_of n (past is_equals w)) e.0 e.1))

-- ---- the parts in order

named_json : (n : List ℕ) (ws : List (List ℕ)) (ps : List RulePart) → read_each read_part ws ≡ Some ps → option_map part_json (part_named n ps) ≡ option_map (piece_shown n) (row_of piece_name n ws)
unfolding read_each row_of pick
named_json n [] ps h = let z : [] ≡ ps = cc in rw (← z)
named_json n (w ∷ ws) ps h =
    let e = and_then-some (read_part w) (λ b. cons_read b (read_each read_part ws)) ps h in
    let f = cons_read-some e.0 (read_each read_part ws) ps e.2 in
    let g = part_json_lem w e.0 e.1 in
    rw (← f.2, g.0) (go e.0 f.0 g.1 (named_json n ws f.0 f.1) (same n (piece_name w)) refl)
  where
    go : (p : RulePart) (l : List RulePart) → part_json p ≡ piece_shown (piece_name w) w → option_map part_json (part_named n l) ≡ option_map (piece_shown n) (row_of piece_name n ws) →
        (t : Bool) → same n (piece_name w) ≡ t → option_map part_json (pick t (Some p) (part_named n l)) ≡ option_map (piece_shown n) (pick t (Some w) (row_of piece_name n ws))
    go p l g ih true e = ap Some (g ∙ ap (λ (x : List ℕ). piece_shown x w) (sym (same_true n (piece_name w) e)))
    go p l g ih false e = ih

with_json : (o : Option RulePart) (l : List RulePart) → map part_json (with_part o l) ≡ with_member (option_map part_json o) (map part_json l)
unfolding with_part
with_json None l = refl
with_json (Some p) l = refl

order_json : (ns ws : List (List ℕ)) (ps : List RulePart) → read_each read_part ws ≡ Some ps → map part_json (in_order ns ps) ≡ named_shown ns ws
unfolding in_order named_shown
order_json [] ws ps h = refl
order_json (n ∷ ns) ws ps h = with_json (part_named n ps) (in_order ns ps) ∙ rw (named_json n ws ps h, order_json ns ws ps h)

pub rule_json : (s : List ℕ) (r : List RulePart) → read_rule s ≡ Some r → map part_json r ≡ named_shown part_names (cut_at 59 s)
rule_json s r h =
    let e = and_then-some (read_each read_part (cut_at 59 s)) ruled r h in
    let ps = e.0 in
    let f = provided-some (distinct (map name_of ps) and is_complete ps) (in_order part_names ps) r e.2 in
    rw (← f.1) (order_json part_names (cut_at 59 s) ps e.1)
