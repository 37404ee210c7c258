-- RECUR (RFC 6321, section 3.6.10): elements that are not refused state a rule.
--     rule_accepted     the parts that they state are a rule
use Rattle.std.specs.Prelude.{◌≡◌, Bool, ℕ, None, Some}
use Rattle.std.proofs.Math.Path.{refl, sym}
use Rattle.std.proofs.Common.{ap, ◌∙◌}
use Rattle.std.proofs.Math.Bool.{true, false, not}
use Rattle.std.proofs.lemmas.Bool.{false≢true}
use mathlib.Core.List.{List, [], ◌∷◌}
use Rattle.octets.specs.Ascii.{ascii}
use Rattle.octets.specs.Pick.{pick, ◌and◌, ◌or◌}
use Rattle.octets.specs.laws.Pick.{and_both, and_yes, or_neither, pick_second}
use Rattle.octets.specs.Class.{upper, lower}
use Rattle.octets.specs.Words.{same, is_one_of, is_empty, row_of}
use Rattle.octets.specs.laws.Words.{same_self, same_true}
use Rattle.octets.specs.Lists.{every, any_one, distinct}
use Rattle.octets.specs.Reading.{is_read}
use Rattle.octets.specs.Computing.{octets_compute}
use Rattle.calendar.specs.Calendar.{xcal, RuleItem}
use Rattle.recur.specs.Parts.{part_names, is_list_part}
use Rattle.recur.specs.Item.{read_item, is_item}
use Rattle.recur.specs.Rule.{is_part, part_named, has_part, after_named, is_ordered, is_rule}
use Rattle.recur.specs.laws.RuleLaws.{names_once}
use Rattle.xml.specs.Nodes.{Nodes}
use Rattle.xcal.specs.Layout.{slot_of, lacks}
use Rattle.xcal.specs.ValueNodes.{recur_slots, recur_inside, child_named, items_of, one_part, parts_of}
use Rattle.xcal.proofs.laws.RecurFine.{fits_slot, fits_slot_lem}
use Rattle.xcal.proofs.laws.Accepted.{all_children, comes, leaf_accepted, sequence_each, sequence-comes, comes_named}
use Rattle.xcal.proofs.laws.ItemsAccepted.{is_item_child, items_good, has_item, From, once, exclusive}

-- ---- the parts

-- a name of a part, and a slot that may be filled as often as the part has items
abbrev is_sound : List ℕ → Bool
is_sound n = same (upper (lower n)) n and fits_slot (slot_of (lower n) recur_slots 0) (is_list_part n) 0

names_sound : every is_sound part_names ≡ true
unfolding octets_compute
names_sound = refl

part_good : (n : List ℕ) (i : RuleItem) (is : List RuleItem) (l : Bool) → is_list_part n ≡ l → (l ≡ false → is_empty is ≡ true) → every (is_item n) (i ∷ is) ≡ true → is_part (record { part = n; items = i ∷ is }) ≡ true
unfolding pick
part_good n i is true e f h = and_yes _ _ (rw e) h
part_good n i is false e f h = and_yes _ _ (rw e (f refl)) h

freq_name : is_one_of (ascii "FREQ") part_names ≡ true
unfolding octets_compute
freq_name = refl

until_name : is_one_of (ascii "UNTIL") part_names ≡ true
unfolding octets_compute
until_name = refl

count_name : is_one_of (ascii "COUNT") part_names ≡ true
unfolding octets_compute
count_name = refl

small_freq : lower (ascii "FREQ") ≡ ascii "freq"
unfolding octets_compute
small_freq = refl

freq_required : (seen : List (List ℕ)) → lacks recur_slots seen ≡ false → is_one_of (ascii "freq") seen ≡ true
unfolding lacks any_one ◌and◌ ◌or◌
freq_required seen h = go (is_one_of (ascii "freq") seen) refl
  where
    go : (t : Bool) → is_one_of (ascii "freq") seen ≡ t → t ≡ true
    go true k = refl
    go false k = absurd (false≢true (sym (rw k at h)))

module _ (kids : Nodes) (e : ℕ) (h : From kids 0 [] e) where
  each : all_children is_item_child kids ≡ true
  unfolding recur_inside
  each = sequence_each recur_slots recur_inside is_item_child (λ p m x inner k. (leaf_accepted (λ s. is_read (read_item xcal (upper m) s)) p inner k).0) kids 0 [] e h

  all_parts : (ns : List (List ℕ)) → every is_sound ns ≡ true → every is_part (parts_of ns kids) ≡ true
  unfolding parts_of every
  all_parts [] c = refl
  all_parts (n ∷ ns) c =
      let a = and_both (is_sound n) _ c in
      let b = and_both (same (upper (lower n)) n) _ a.0 in
      let s = fits_slot_lem (slot_of (lower n) recur_slots 0) (is_list_part n) 0 b.1 in
      go (items_of n kids) refl (items_good n kids (same_true _ _ b.0) each) (all_parts ns a.1) s.0 s.1
    where
      go : (is : List RuleItem) → items_of n kids ≡ is → every (is_item n) is ≡ true → every is_part (parts_of ns kids) ≡ true → (k : ℕ) → slot_of (lower n) recur_slots 0 ≡ Some (k, is_list_part n) →
          every is_part (one_part n is (parts_of ns kids)) ≡ true
      go [] z g ih k s = ih
      go (i ∷ is) z g ih k s =
          and_yes _ _ (part_good n i is (is_list_part n) refl (λ f. rw z at (once n k (rw f at s) kids 0 [] e h)) g) ih

  -- a name that is not among the names is no part's
  parts_lack : (n : List ℕ) (ns : List (List ℕ)) → is_one_of n ns ≡ false → (after_named n (parts_of ns kids) ≡ parts_of ns kids) × (part_named n (parts_of ns kids) ≡ None)
  unfolding parts_of is_one_of after_named row_of pick
  parts_lack n [] o = (refl, refl)
  parts_lack n (m ∷ ns) o = let a = or_neither (same n m) _ o in go (items_of m kids) a.0 (parts_lack n ns a.1)
    where
      go : (is : List RuleItem) → same n m ≡ false → (after_named n (parts_of ns kids) ≡ parts_of ns kids) × (part_named n (parts_of ns kids) ≡ None) →
          (after_named n (one_part m is (parts_of ns kids)) ≡ one_part m is (parts_of ns kids)) × (part_named n (one_part m is (parts_of ns kids)) ≡ None)
      go [] d ih = ih
      go (i ∷ is) d ih = (rw d, rw d ih.1)

  parts_ordered : (ns : List (List ℕ)) → distinct ns ≡ true → is_ordered ns (parts_of ns kids) ≡ true
  unfolding parts_of distinct is_ordered after_named pick
  parts_ordered [] d = refl
  parts_ordered (n ∷ ns) d = let a = pick_second (is_one_of n ns) (distinct ns) d in go (items_of n kids) (parts_lack n ns a.0).0 (parts_ordered ns a.1)
    where
      go : (is : List RuleItem) → after_named n (parts_of ns kids) ≡ parts_of ns kids → is_ordered ns (parts_of ns kids) ≡ true → is_ordered ns (after_named n (one_part n is (parts_of ns kids))) ≡ true
      go [] z ih = rw z ih
      go (i ∷ is) z ih = rw (same_self n) ih

  parts_have : (n : List ℕ) (ns : List (List ℕ)) → distinct ns ≡ true → is_one_of n ns ≡ true → has_part n (parts_of ns kids) ≡ not (is_empty (items_of n kids))
  unfolding parts_of distinct is_one_of row_of is_read pick ◌or◌
  parts_have n [] d o = absurd (false≢true o)
  parts_have n (m ∷ ns) d o = let a = pick_second (is_one_of m ns) (distinct ns) d in go (same n m) refl (items_of m kids) refl o a.0 (parts_have n ns a.1)
    where
      go : (t : Bool) → same n m ≡ t → (is : List RuleItem) → items_of m kids ≡ is → (t or is_one_of n ns) ≡ true → is_one_of m ns ≡ false → (is_one_of n ns ≡ true → has_part n (parts_of ns kids) ≡ not (is_empty (items_of n kids))) →
          has_part n (one_part m is (parts_of ns kids)) ≡ not (is_empty (items_of n kids))
      go true w [] z k l ih = let q : n ≡ m = same_true n m w in rw (q, (parts_lack m ns l).1, z)
      go true w (i ∷ is) z k l ih = let q : n ≡ m = same_true n m w in rw (q, same_self m, z)
      go false w [] z k l ih = ih k
      go false w (i ∷ is) z k l ih = rw w (ih k)

  freq_there : is_empty (items_of (ascii "FREQ") kids) ≡ false
  unfolding is_one_of ◌or◌
  freq_there = has_item (ascii "FREQ") kids (ap (λ (n : List ℕ). is_read (child_named n kids)) small_freq ∙ sym (comes_named (ascii "freq") kids []) ∙ freq_required (comes kids []) (sequence-comes recur_slots recur_inside kids 0 [] e h))

  pub rule_accepted : is_rule (parts_of part_names kids) ≡ true
  rule_accepted =
      and_yes _ _ (parts_ordered part_names names_once)
      (and_yes _ _
      (and_yes _ _ (parts_have (ascii "FREQ") part_names names_once freq_name ∙ rw freq_there)
      (rw (parts_have (ascii "UNTIL") part_names names_once until_name, parts_have (ascii "COUNT") part_names names_once count_name, exclusive kids 0 [] e h)))
      (all_parts part_names names_sound))
