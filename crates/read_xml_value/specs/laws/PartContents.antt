-- Laws of what specs/PartContents.antt defines.
--     inside_is                           the verdict on a child's content, by its name and by its number
--     flags_start, flags_more             the slots that must be filled: the first, and of PERIOD the second
--     filled_is                           they are filled
--     parting, ending                     the rules of the code
use Rattle.std.specs.Prelude.{◌≡◌, refl, Bool, true, false, not, List, [], ◌∷◌, map, ℕ, ◌<◌, eqb, get_or, Ok, Err}
use Rattle.std.proofs.Common.{sym, ap, ◌∙◌, rules}
use Rattle.std.proofs.Math.ListN.{get_or-map}
use borrow.Author.Tests.{eq-eqb, ne_eqb}
use Rattle.octets.specs.Ascii.{ascii}
use Rattle.octets.specs.Pick.{pick, ◌and◌, ◌or◌}
use Rattle.octets.specs.Class.{upper}
use Rattle.octets.specs.Words.{same, is_one_of}
use Rattle.octets.specs.Reading.{is_read}
use Rattle.octets.specs.Computing.{octets_compute}
use Rattle.names.specs.Table.{place_of}
use Rattle.names.specs.laws.Known.{word_at}
use Rattle.names.specs.laws.Places.{same_place}
use Rattle.calendar.specs.Calendar.{xcal, DATE-TIME, DURATION, duration, date_time}
use Rattle.calendar.specs.Refusal.{FRAME, Verdict, fine, refuse}
use Rattle.times.specs.DateTime.{read_date_time}
use Rattle.times.specs.Duration.{read_duration}
use Rattle.recur.specs.Parts.{part_names}
use Rattle.recur.specs.Item.{read_item}
use Rattle.values.specs.ReadValue.{read_value}
use Rattle.values.specs.laws.ValueAt.{mapped}
use Rattle.xml.specs.Nodes.{Nodes, characters_of}
use Rattle.xcal.specs.Layout.{leaf}
use Rattle.xcal.specs.ValueNodes.{period_inside, recur_inside}
use Rattle.read_xml_value.specs.Sequencing.{marked, is_short}
use Rattle.read_xml_value.specs.laws.Sequencing.{fillings, filled}
use Rattle.read_xml_value.specs.Parts.{recur_names, period_names, names_of, slots_of, count_of}
use Rattle.read_xml_value.specs.PartContents.{inside_of, inside_at, flags_of}
use Rattle.refusals.specs.Fault.{fault_at, judged_as}
use Rattle.refusals.specs.declared.Refusal.TheVariants.{Frame}
use Rattle.refusals.specs.declared.Fault.{Fault}

-- ---- what stands in a child

parts_upper : map upper recur_names ≡ part_names
unfolding octets_compute
parts_upper = refl

part_upper : (n : List ℕ) → place_of n recur_names < 14 → upper n ≡ get_or part_names (place_of n recur_names) []
unfolding upper
part_upper n h = ap upper (word_at n recur_names h) ∙ sym (get_or-map upper recur_names (place_of n recur_names) []) ∙ ap (λ (l : List (List ℕ)). get_or l (place_of n recur_names) []) parts_upper

duration_place : (n : List ℕ) → same n (ascii "duration") ≡ eqb (place_of n period_names) 2
unfolding octets_compute place_of
duration_place n = same_place n (ascii "duration") period_names refl

in_period : (t : Bool) (p : ℕ) (kids : Nodes) → leaf (λ s. pick t (is_read (read_duration xcal s)) (is_read (read_date_time xcal s))) p kids ≡
    pick t (leaf (λ l. is_read (read_value xcal DURATION l)) p kids) (leaf (λ l. is_read (read_value xcal DATE-TIME l)) p kids)
unfolding pick read_value
in_period true p kids = rw (mapped duration (read_duration xcal (characters_of kids)))
in_period false p kids = rw (mapped date_time (read_date_time xcal (characters_of kids)))

pub inside_is : (rule : Bool) (n : List ℕ) (p x : ℕ) (kids : Nodes) → place_of n (names_of rule) < count_of rule → inside_of rule p n x kids ≡ inside_at rule (place_of n (names_of rule)) p kids
unfolding recur_inside period_inside
inside_is true n p x kids h = ap (λ (m : List ℕ). leaf (λ l. is_read (read_item xcal m l)) p kids) (part_upper n h)
inside_is false n p x kids h = rw (duration_place n) (in_period (eqb (place_of n period_names) 2) p kids)

module _ (i p : ℕ) (kids : Nodes) {v : Verdict} where
  pub part_rule : {rule : Bool} → rule ≡ true → v ≡ leaf (λ l. is_read (read_item xcal (get_or part_names i []) l)) p kids → v ≡ inside_at rule i p kids
  part_rule h e = rw h e

  pub part_duration : {rule : Bool} → rule ≡ false → i ≡ 2 → v ≡ leaf (λ l. is_read (read_value xcal DURATION l)) p kids → v ≡ inside_at rule i p kids
  unfolding pick
  part_duration h k e = rw (h, eq-eqb i 2 k) e

  pub part_moment : {rule : Bool} → rule ≡ false → (i ≡ 2 → ⊥) → v ≡ leaf (λ l. is_read (read_value xcal DATE-TIME l)) p kids → v ≡ inside_at rule i p kids
  unfolding pick
  part_moment h k e = rw (h, ne_eqb i 2 k) e

-- ---- slots that must be filled

pub flags_start : (rule : Bool) → fillings (slots_of rule) [] ≡ flags_of rule false false
unfolding octets_compute fillings filled
flags_start true = refl
flags_start false = refl

freq_place : (n : List ℕ) → same n (ascii "freq") ≡ eqb (place_of n recur_names) 0
unfolding octets_compute place_of
freq_place n = same_place n (ascii "freq") recur_names refl

start_place : (n : List ℕ) → same n (ascii "start") ≡ eqb (place_of n period_names) 0
unfolding octets_compute place_of
start_place n = same_place n (ascii "start") period_names refl

end_place : (n : List ℕ) → same n (ascii "end") ≡ eqb (place_of n period_names) 1
unfolding octets_compute place_of
end_place n = same_place n (ascii "end") period_names refl

pub flags_more : (rule : Bool) (n : List ℕ) (f g : Bool) → marked (slots_of rule) n (flags_of rule f g) ≡
    flags_of rule (eqb (place_of n (names_of rule)) 0 or f) (eqb (place_of n (names_of rule)) 1 or eqb (place_of n (names_of rule)) 2 or g)
unfolding marked is_one_of pick ◌or◌
flags_more true n f g = rw (freq_place n) (go (eqb (place_of n recur_names) 0))
  where
    go : (a : Bool) → ((a or false) or f) ∷ [] ≡ (a or f) ∷ []
    go true = refl
    go false = refl
flags_more false n f g = rw (start_place n, end_place n, duration_place n) (go (eqb (place_of n period_names) 0) (eqb (place_of n period_names) 1) (eqb (place_of n period_names) 2))
  where
    go : (a b d : Bool) → ((a or false) or f) ∷ ((b or (d or false)) or g) ∷ [] ≡ (a or f) ∷ (b or d or g) ∷ []
    go true true d = refl
    go true false true = refl
    go true false false = refl
    go false true d = refl
    go false false true = refl
    go false false false = refl

pub filled_is : (rule first second : Bool) {b : Bool} → b ≡ (first and (rule or second)) → is_short (flags_of rule first second) ≡ not b
unfolding octets_compute is_short
filled_is true true second h = rw h
filled_is true false second h = rw h
filled_is false true true h = rw h
filled_is false true false h = rw h
filled_is false false second h = rw h

module _ (e : ℕ) {t b : Bool} (h : t ≡ not b) where
  pub end_fine : b ≡ true → judged_as (Ok tt) ≡ pick t (refuse FRAME e) fine
  unfolding pick
  end_fine k = rw (h, k)

  pub end_short : {f : Fault} → b ≡ false → f ≡ fault_at Frame e → judged_as (Err f) ≡ pick t (refuse FRAME e) fine
  unfolding pick
  end_short k q = rw (h, k, q)

pub ruleset parting = (part_rule, part_duration, part_moment, rules)

pub ruleset ending = (end_fine, end_short, rules)
