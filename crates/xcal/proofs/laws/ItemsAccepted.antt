-- RECUR (RFC 6321, section 3.6.10): the items that elements state which are not refused.
--     items_good, has_item    of a part: they are items, and there where an element is
--     once, exclusive         one only where the part has no list; of UNTIL and COUNT one only
use Rattle.std.specs.Prelude.{◌≡◌, refl, Bool, true, false, not, List, [], ◌∷◌, ℕ, suc, ◌≤◌, ◌<◌, Some}
use Rattle.std.proofs.Common.{sym, ap, subst, ◌∙◌, arith, ltb-false}
use Rattle.std.proofs.lemmas.Bool.{false≢true}
use Rattle.octets.specs.Ascii.{ascii}
use Rattle.octets.specs.Pick.{pick, ◌and◌}
use Rattle.octets.specs.laws.Pick.{pick_either, and_both, and_yes, and_no_left, and_no_right}
use Rattle.octets.specs.Class.{is_space, upper, lower}
use Rattle.octets.specs.Words.{same, is_empty}
use Rattle.octets.specs.laws.Words.{same_self, same_true, same_swap}
use Rattle.octets.specs.Lists.{every}
use Rattle.octets.specs.Reading.{is_read, read_or}
use Rattle.octets.specs.Computing.{octets_compute}
use Rattle.calendar.specs.Calendar.{xcal, RuleItem, word}
use Rattle.calendar.specs.Refusal.{FRAME, fine}
use Rattle.calendar.specs.laws.Refusal.{refused_not}
use Rattle.recur.specs.Item.{read_item, is_item}
use Rattle.recur.specs.laws.ItemLaws.{item_accepted}
use Rattle.xml.specs.Nodes.{Nodes, no_nodes, element, literal, referred, characters_of}
use Rattle.xcal.specs.Layout.{slot_of, sequence}
use Rattle.xcal.specs.ValueNodes.{recur_slots, recur_inside, child_named, items_of}
use Rattle.xcal.proofs.laws.Accepted.{all_children, test_fine, admitted-fine}
use Rattle.xcal.proofs.laws.PeriodAccepted.{read_passes}

-- ---- the items of a part

abbrev pub is_item_child : List ℕ → Nodes → Bool
is_item_child n kids = is_read (read_item xcal (upper n) (characters_of kids))

pub items_good : (n : List ℕ) (kids : Nodes) → upper (lower n) ≡ n → all_children is_item_child kids ≡ true → every (is_item n) (items_of n kids) ≡ true
unfolding all_children items_of every pick
items_good n no_nodes u h = refl
items_good n (literal p b more) u h = items_good n more u h
items_good n (referred p bs more) u h = items_good n more u h
items_good n (element p m x kids more) u h = let a = and_both (is_item_child m kids) _ h in go (same m (lower n)) refl a.0 (items_good n more u a.1)
  where
    go : (t : Bool) → same m (lower n) ≡ t → is_item_child m kids ≡ true → every (is_item n) (items_of n more) ≡ true →
        every (is_item n) (pick t (read_or (word []) (read_item xcal n (characters_of kids)) ∷ items_of n more) (items_of n more)) ≡ true
    go true e g ih =
        let z : upper m ≡ n = ap upper (same_true m (lower n) e) ∙ u in
        and_yes _ _ (read_passes (word []) (read_item xcal n (characters_of kids)) (is_item n) (ap (λ (w : List ℕ). is_read (read_item xcal w (characters_of kids))) (sym z) ∙ g) (λ i k. item_accepted xcal n (characters_of kids) i k)) ih
    go false e g ih = ih

-- a child of the name is an item
pub has_item : (n : List ℕ) (kids : Nodes) → is_read (child_named (lower n) kids) ≡ true → is_empty (items_of n kids) ≡ false
unfolding child_named items_of is_read pick
has_item n no_nodes h = absurd (false≢true h)
has_item n (literal p b more) h = has_item n more h
has_item n (referred p bs more) h = has_item n more h
has_item n (element p m x kids more) h = go (same (lower n) m) refl h (has_item n more)
  where
    go : (t : Bool) → same (lower n) m ≡ t → is_read (pick t (Some (characters_of kids)) (child_named (lower n) more)) ≡ true → (is_read (child_named (lower n) more) ≡ true → is_empty (items_of n more) ≡ false) →
        is_empty (pick (same m (lower n)) (read_or (word []) (read_item xcal n (characters_of kids)) ∷ items_of n more) (items_of n more)) ≡ false
    go true e k ih = rw (← (same_true (lower n) m e), same_self (lower n))
    go false e k ih = rw (same_swap (lower n) m e) (ih k)

-- ---- a slot that has passed

-- sequence fine from the slot `next` on
abbrev pub From : Nodes → ℕ → List (List ℕ) → ℕ → Type 0
From kids next seen e = sequence recur_slots recur_inside kids next seen e ≡ fine

slot_name : (m n : List ℕ) (x : ℕ × Bool) → same m (lower n) ≡ true → slot_of m recur_slots 0 ≡ Some x → slot_of (lower n) recur_slots 0 ≡ Some x
slot_name m n x e h = subst (λ (w : List ℕ). slot_of w recur_slots 0 ≡ Some x) (same_true m (lower n) e) h

same_slot : (x y : ℕ × Bool) → Some x ≡ Some y → x.0 ≡ y.0
same_slot x y e = let z : x ≡ y = cc in ap (λ (w : ℕ × Bool). w.0) z

gone : (n : List ℕ) (k : ℕ) (l : Bool) → slot_of (lower n) recur_slots 0 ≡ Some (k, l) → (kids : Nodes) (next : ℕ) (seen : List (List ℕ)) (e : ℕ) → k < next → From kids next seen e → items_of n kids ≡ []
unfolding sequence items_of pick
gone n k l s no_nodes next seen e g h = refl
gone n k l s (literal p b more) next seen e g h = gone n k l s more next seen e g (test_fine (is_space b) _ FRAME p h).1
gone n k l s (referred p bs more) next seen e g h = refused_not FRAME p h
gone n k l s (element p m x kids more) next seen e g h =
    let a = admitted-fine (slot_of m recur_slots 0) next p m (recur_inside p m x kids) _ h in
    let w = ltb-false _ _ a.2 in
    go (same m (lower n)) refl a.0 a.1 w
    (gone n k l s more _ (m ∷ seen) e (pick_either (λ y. k < y) a.0.1 a.0.0 (suc a.0.0) (omega arith) (omega arith)) a.4)
  where
    go : (t : Bool) → same m (lower n) ≡ t → (y : ℕ × Bool) → slot_of m recur_slots 0 ≡ Some y → next ≤ y.0 → items_of n more ≡ [] →
        pick t (read_or (word []) (read_item xcal n (characters_of kids)) ∷ items_of n more) (items_of n more) ≡ []
    go true d y o w ih = let z : k ≡ y.0 = same_slot (k, l) y (sym s ∙ slot_name m n y d o) in absurd (omega arith)
    go false d y o w ih = ih

taken_slot : (x y : ℕ × Bool) → Some x ≡ Some y → x ≡ y
taken_slot x y e = cc

-- ---- parts of one item

abbrev pub at_most_one : List RuleItem → Bool
at_most_one [] = true
at_most_one (i ∷ is) = is_empty is

pub once : (n : List ℕ) (k : ℕ) → slot_of (lower n) recur_slots 0 ≡ Some (k, false) → (kids : Nodes) (next : ℕ) (seen : List (List ℕ)) (e : ℕ) → From kids next seen e → at_most_one (items_of n kids) ≡ true
unfolding sequence items_of pick
once n k s no_nodes next seen e h = refl
once n k s (literal p b more) next seen e h = once n k s more next seen e (test_fine (is_space b) _ FRAME p h).1
once n k s (referred p bs more) next seen e h = refused_not FRAME p h
once n k s (element p m x kids more) next seen e h =
    let a = admitted-fine (slot_of m recur_slots 0) next p m (recur_inside p m x kids) _ h in
    go (same m (lower n)) refl a.0 a.1 a.4 (once n k s more _ (m ∷ seen) e a.4)
  where
    go : (t : Bool) → same m (lower n) ≡ t → (y : ℕ × Bool) → slot_of m recur_slots 0 ≡ Some y → From more (pick y.1 y.0 (suc y.0)) (m ∷ seen) e → at_most_one (items_of n more) ≡ true →
        at_most_one (pick t (read_or (word []) (read_item xcal n (characters_of kids)) ∷ items_of n more) (items_of n more)) ≡ true
    go true d y o f ih =
        let z : y ≡ (k, false) = taken_slot y (k, false) (sym (slot_name m n y d o) ∙ s) in
        ap is_empty (gone n k false s more (suc k) (m ∷ seen) e (omega arith) (rw z at f))
    go false d y o f ih = ih

-- UNTIL and COUNT are not both there
until_slot : slot_of (lower (ascii "UNTIL")) recur_slots 0 ≡ Some (1, false)
unfolding octets_compute
until_slot = refl

count_slot : slot_of (lower (ascii "COUNT")) recur_slots 0 ≡ Some (1, false)
unfolding octets_compute
count_slot = refl

until_count : same (lower (ascii "UNTIL")) (lower (ascii "COUNT")) ≡ false
unfolding octets_compute
until_count = refl

pub exclusive : (kids : Nodes) (next : ℕ) (seen : List (List ℕ)) (e : ℕ) → From kids next seen e →
    (not (is_empty (items_of (ascii "UNTIL") kids)) and not (is_empty (items_of (ascii "COUNT") kids))) ≡ false
unfolding sequence items_of pick
exclusive no_nodes next seen e h = and_no_left _ _ refl
exclusive (literal p b more) next seen e h = exclusive more next seen e (test_fine (is_space b) _ FRAME p h).1
exclusive (referred p bs more) next seen e h = refused_not FRAME p h
exclusive (element p m x kids more) next seen e h =
    let a = admitted-fine (slot_of m recur_slots 0) next p m (recur_inside p m x kids) _ h in
    go (same m (lower (ascii "UNTIL"))) refl (same m (lower (ascii "COUNT"))) refl a.0 a.1 a.4 (exclusive more _ (m ∷ seen) e a.4)
  where
    item : List ℕ → RuleItem
    item n = read_or (word []) (read_item xcal n (characters_of kids))

    go : (t : Bool) → same m (lower (ascii "UNTIL")) ≡ t → (u : Bool) → same m (lower (ascii "COUNT")) ≡ u → (y : ℕ × Bool) → slot_of m recur_slots 0 ≡ Some y →
        From more (pick y.1 y.0 (suc y.0)) (m ∷ seen) e → (not (is_empty (items_of (ascii "UNTIL") more)) and not (is_empty (items_of (ascii "COUNT") more))) ≡ false →
        (not (is_empty (pick t (item (ascii "UNTIL") ∷ items_of (ascii "UNTIL") more) (items_of (ascii "UNTIL") more)))
        and not (is_empty (pick u (item (ascii "COUNT") ∷ items_of (ascii "COUNT") more) (items_of (ascii "COUNT") more)))) ≡ false
    go true d true c y o f ih = absurd (false≢true (sym until_count ∙ ap (λ (w : List ℕ). same w (lower (ascii "COUNT"))) (sym (same_true m (lower (ascii "UNTIL")) d)) ∙ c))
    go true d false c y o f ih =
        let z : y ≡ (1, false) = taken_slot y (1, false) (sym (slot_name m (ascii "UNTIL") y d o) ∙ until_slot) in
        and_no_right _ _ (rw (gone (ascii "COUNT") 1 false count_slot more 2 (m ∷ seen) e (omega arith) (rw z at f)))
    go false d true c y o f ih =
        let z : y ≡ (1, false) = taken_slot y (1, false) (sym (slot_name m (ascii "COUNT") y c o) ∙ count_slot) in
        and_no_left _ _ (rw (gone (ascii "UNTIL") 1 false until_slot more 2 (m ∷ seen) e (omega arith) (rw z at f)))
    go false d false c y o f ih = ih
