-- RECUR (RFC 6321, section 3.6.10): the elements that are written of a rule stand in the schema's order, and are not refused.
--     rule_fine     the verdict on the elements of a rule
use Rattle.std.specs.Prelude.{◌≡◌, refl, Bool, not, ℕ, suc, ◌≤◌, leb, Option, None, Some}
use Rattle.std.proofs.Common.{sym, ap, subst, ◌∙◌, arith, le-ltb, le-leb, leb-true}
use Rattle.std.proofs.Math.Bool.{true, false}
use Rattle.std.proofs.lemmas.Bool.{false≢true}
use mathlib.Core.List.{List, [], ◌∷◌}
use Rattle.octets.specs.Ascii.{ascii}
use Rattle.octets.specs.Pick.{pick, ◌and◌, ◌or◌}
use Rattle.octets.specs.laws.Pick.{and_yes, and_both}
use Rattle.octets.specs.Class.{upper, lower}
use Rattle.octets.specs.Words.{same, is_one_of, row_of}
use Rattle.octets.specs.laws.Words.{same_true}
use Rattle.octets.specs.Lists.{every, any_one}
use Rattle.octets.specs.Reading.{is_read}
use Rattle.octets.specs.Computing.{octets_compute}
use Rattle.calendar.specs.Calendar.{xcal, RuleItem, RulePart}
use Rattle.calendar.specs.Refusal.{fine, ◌otherwise◌}
use Rattle.recur.specs.Parts.{part_names, is_list_part}
use Rattle.recur.specs.Item.{read_item, write_item, is_item}
use Rattle.recur.specs.laws.ItemLaws.{item_read_back}
use Rattle.recur.specs.Rule.{is_amount, is_part, part_named, has_part, is_complete, after_named, is_ordered, is_rule}
use Rattle.xml.specs.Nodes.{no_nodes}
use Rattle.xml.specs.Content.{Content, nothing, placed}
use Rattle.xcal.specs.Layout.{slot_of, lacks, sequence}
use Rattle.xcal.proofs.laws.ElementNames.{upper-lower}
use Rattle.xcal.proofs.laws.Contents.{leaf_before, items_before, parts_before}
use Rattle.xcal.proofs.laws.LeavesBack.{leaf_fine}
use Rattle.xcal.proofs.laws.RecurBack.{part_capital}
use Rattle.xcal.specs.ValueNodes.{recur_slots, recur_inside}

-- the verdict on the elements of some content, where slots before `next` have passed, and `seen` have come
abbrev Fine : Content → ℕ → List (List ℕ) → ℕ → Type 0
Fine c next seen e = (q : ℕ) → sequence recur_slots recur_inside (placed c q no_nodes) next seen e ≡ fine

-- ---- the items of one part

-- an item in the slot k
item_fine : (m n : List ℕ) (k : ℕ) (l : Bool) (i : RuleItem) (c : Content) (next : ℕ) (seen : List (List ℕ)) (e : ℕ) →
    slot_of m recur_slots 0 ≡ Some (k, l) → upper m ≡ n → is_item n i ≡ true → next ≤ k → Fine c (pick l k (suc k)) (m ∷ seen) e → Fine (leaf_before m (write_item xcal i) c) next seen e
unfolding placed sequence recur_inside pick ◌otherwise◌ is_read
item_fine m n k l i c next seen e s u h g rest q =
    rw (s, le-ltb k next g, leaf_fine (λ s. is_read (read_item xcal (upper m) s)) q (write_item xcal i) _ (rw (u, item_read_back xcal n i h)))
    (rest _)

-- P: what must be of the names that have come, before what follows the items
module _ (m n : List ℕ) (k : ℕ) (c : Content) (e : ℕ) (P : List (List ℕ) → Type 0) (u : upper m ≡ n)
    (keeps : (seen : List (List ℕ)) → P seen → P (m ∷ seen)) (rest : (next : ℕ) (seen : List (List ℕ)) → next ≤ suc k → P seen → Fine c next seen e) where
  -- more items, where several may stand
  items_more : slot_of m recur_slots 0 ≡ Some (k, true) → (is : List RuleItem) → every (is_item n) is ≡ true → (next : ℕ) (seen : List (List ℕ)) → next ≤ k → P seen →
      Fine (items_before m is c) next seen e
  unfolding items_before every pick
  items_more s [] h next seen g p = rest next seen (omega arith) p
  items_more s (i ∷ is) h next seen g p =
      let b = and_both (is_item n i) (every (is_item n) is) h in
      item_fine m n k true i (items_before m is c) next seen e s u b.0 g (items_more s is b.1 k (m ∷ seen) (omega arith) (keeps seen p))

  items_fine : (l : Bool) → slot_of m recur_slots 0 ≡ Some (k, l) → (is : List RuleItem) → is_amount l is ≡ true → every (is_item n) is ≡ true → (next : ℕ) (seen : List (List ℕ)) → next ≤ k → P (m ∷ seen) →
      Fine (items_before m is c) next seen e
  unfolding items_before every pick
  items_fine l s [] a h next seen g p = absurd (false≢true a)
  items_fine true s (i ∷ is) a h next seen g p =
      let b = and_both (is_item n i) (every (is_item n) is) h in
      item_fine m n k true i (items_before m is c) next seen e s u b.0 g (items_more s is b.1 k (m ∷ seen) (omega arith) p)
  items_fine false s (i ∷ []) a h next seen g p =
      let b = and_both (is_item n i) _ h in
      item_fine m n k false i c next seen e s u b.0 g (rest (suc k) (m ∷ seen) (omega arith) p)
  items_fine false s (i ∷ j ∷ is) a h next seen g p = absurd (false≢true a)

-- ---- the parts

-- the slot of a name: not before `next`, and several exactly where the part has a list
abbrev pub fits_slot : Option (ℕ × Bool) → Bool → ℕ → Bool
fits_slot None l next = false
fits_slot (Some x) l next = leb next x.0 and pick x.1 l (not l)

abbrev pub past_slot : Option (ℕ × Bool) → ℕ
past_slot None = 0
past_slot (Some x) = suc x.0

-- names whose slots follow one another, from `next` on
unfoldable rising : ℕ → List (List ℕ) → Bool
rising next [] = true
rising next (n ∷ ns) = fits_slot (slot_of (lower n) recur_slots 0) (is_list_part n) next and rising (past_slot (slot_of (lower n) recur_slots 0)) ns

fits_before : (o : Option (ℕ × Bool)) (l : Bool) (a b : ℕ) → b ≤ a → fits_slot o l a ≡ true → fits_slot o l b ≡ true
fits_before None l a b g h = h
fits_before (Some x) l a b g h = let q = and_both (leb a x.0) _ h in let z = leb-true a x.0 q.0 in and_yes _ _ (le-leb b x.0 (omega arith)) q.1

rising_before : (ns : List (List ℕ)) (a b : ℕ) → b ≤ a → rising a ns ≡ true → rising b ns ≡ true
unfolding rising
rising_before [] a b g h = refl
rising_before (n ∷ ns) a b g h = let q = and_both _ _ h in and_yes _ _ (fits_before (slot_of (lower n) recur_slots 0) (is_list_part n) a b g q.0) q.1

-- a slot that fits
pub fits_slot_lem : (o : Option (ℕ × Bool)) (l : Bool) (next : ℕ) → fits_slot o l next ≡ true → (k : ℕ) × (o ≡ Some (k, l)) × (next ≤ k) × (past_slot o ≡ suc k)
unfolding pick
fits_slot_lem None l next h = absurd (false≢true h)
fits_slot_lem (Some x) l next h = let q = and_both (leb next x.0) _ h in (x.0, ap (λ (b : Bool). Some (x.0, b)) (listed x.1 l q.1), leb-true next x.0 q.0, refl)
  where
    listed : (a b : Bool) → pick a b (not b) ≡ true → a ≡ b
    listed true b k = sym k
    listed false true k = absurd (false≢true k)
    listed false false k = refl

-- FREQ has come, or will
abbrev Freq : List RulePart → List (List ℕ) → Type 0
Freq ps seen = (is_one_of (ascii "freq") seen or has_part (ascii "FREQ") ps) ≡ true

freq_keeps : (ps : List RulePart) (m : List ℕ) (seen : List (List ℕ)) → Freq ps seen → Freq ps (m ∷ seen)
unfolding is_one_of ◌or◌
freq_keeps ps m seen h = go (same (ascii "freq") m)
  where
    go : (t : Bool) → ((t or is_one_of (ascii "freq") seen) or has_part (ascii "FREQ") ps) ≡ true
    go true = refl
    go false = h

small_freq : same (ascii "freq") (lower (ascii "FREQ")) ≡ true
unfolding octets_compute
small_freq = refl

freq_comes : (p : RulePart) (ps : List RulePart) (seen : List (List ℕ)) → Freq (p ∷ ps) seen → Freq ps (lower p.part ∷ seen)
unfolding is_one_of ◌or◌ row_of pick is_read
freq_comes p ps seen h = go (same (ascii "FREQ") p.part) refl h
  where
    go : (t : Bool) → same (ascii "FREQ") p.part ≡ t → (is_one_of (ascii "freq") seen or is_read (pick t (Some p) (part_named (ascii "FREQ") ps))) ≡ true →
        ((same (ascii "freq") (lower p.part) or is_one_of (ascii "freq") seen) or has_part (ascii "FREQ") ps) ≡ true
    go true e k = rw (← (same_true (ascii "FREQ") p.part e), small_freq)
    go false e k = freq_keeps ps (lower p.part) seen k

-- no slot but that of FREQ must be filled
freq_enough : (seen : List (List ℕ)) → is_one_of (ascii "freq") seen ≡ true → lacks recur_slots seen ≡ false
unfolding lacks any_one ◌and◌ ◌or◌
freq_enough seen h = rw h

freq_there : (seen : List (List ℕ)) → Freq [] seen → lacks recur_slots seen ≡ false
unfolding row_of is_read ◌or◌
freq_there seen h = freq_enough seen (go (is_one_of (ascii "freq") seen) h)
  where
    go : (t : Bool) → (t or false) ≡ true → t ≡ true
    go true k = refl
    go false k = k

parts_fine : (ns : List (List ℕ)) (ps : List RulePart) (next : ℕ) (seen : List (List ℕ)) (e : ℕ) → rising next ns ≡ true → is_ordered ns ps ≡ true → every is_part ps ≡ true → Freq ps seen →
    Fine (parts_before ps nothing) next seen e
unfolding parts_before placed sequence rising is_ordered after_named every pick
parts_fine [] [] next seen e r o h f q = rw (freq_there seen f)
parts_fine [] (p ∷ ps) next seen e r o h f q = absurd (false≢true o)
parts_fine (n ∷ ns) ps next seen e r o h f q = go ps o h f (λ l x y. parts_fine ns l x y e)
  where
    both : (fits_slot (slot_of (lower n) recur_slots 0) (is_list_part n) next ≡ true) × (rising (past_slot (slot_of (lower n) recur_slots 0)) ns ≡ true)
    both = and_both _ _ r

    found : (k : ℕ) × (slot_of (lower n) recur_slots 0 ≡ Some (k, is_list_part n)) × (next ≤ k) × (past_slot (slot_of (lower n) recur_slots 0) ≡ suc k)
    found = fits_slot_lem (slot_of (lower n) recur_slots 0) (is_list_part n) next both.0

    before : (x : ℕ) → x ≤ suc found.0 → rising x ns ≡ true
    before x g = rising_before ns (past_slot (slot_of (lower n) recur_slots 0)) x (omega (arith, found.3)) both.1

    go : (l : List RulePart) → is_ordered ns (after_named n l) ≡ true → every is_part l ≡ true → Freq l seen →
        ((l : List RulePart) (x : ℕ) (y : List (List ℕ)) → rising x ns ≡ true → is_ordered ns l ≡ true → every is_part l ≡ true → Freq l y → Fine (parts_before l nothing) x y e) →
        sequence recur_slots recur_inside (placed (parts_before l nothing) q no_nodes) next seen e ≡ fine
    go [] o h f ih = ih [] next seen (before next (omega (arith, found.2))) o h f q
    go (p ∷ l) o h f ih = turn (same n p.part) refl o
      where
        parts : (is_part p ≡ true) × (every is_part l ≡ true)
        parts = and_both (is_part p) (every is_part l) h

        turn : (t : Bool) → same n p.part ≡ t → is_ordered ns (pick t l (p ∷ l)) ≡ true → sequence recur_slots recur_inside (placed (parts_before (p ∷ l) nothing) q no_nodes) next seen e ≡ fine
        turn false d o = ih (p ∷ l) next seen (before next (omega (arith, found.2))) o h f q
        turn true d o =
            let w : n ≡ p.part = same_true n p.part d in
            let a = and_both (is_amount (is_list_part p.part) p.items) _ parts.0 in
            items_fine (lower p.part) p.part found.0 (parts_before l nothing) e (Freq l) (upper-lower p.part (part_capital p parts.0))
            (freq_keeps l (lower p.part)) (λ x y g k. ih l x y (before x g) o parts.1 k)
            (is_list_part p.part) (subst (λ (x : List ℕ). slot_of (lower x) recur_slots 0 ≡ Some (found.0, is_list_part x)) w found.1) p.items a.0 a.1 next seen found.2 (freq_comes p l seen f) q

-- ---- a rule

-- UNTIL and COUNT have one slot, and are not both there: either of them left out, the slots follow one another
abbrev others : List (List ℕ)
others =
    ascii "INTERVAL" ∷ ascii "BYSECOND" ∷ ascii "BYMINUTE" ∷ ascii "BYHOUR" ∷ ascii "BYDAY" ∷ ascii "BYMONTHDAY" ∷ ascii "BYYEARDAY" ∷ ascii "BYWEEKNO" ∷
    ascii "BYMONTH" ∷ ascii "BYSETPOS" ∷ ascii "WKST" ∷ []

until_rising : rising 0 (ascii "FREQ" ∷ ascii "UNTIL" ∷ others) ≡ true
unfolding octets_compute rising
until_rising = refl

count_rising : rising 0 (ascii "FREQ" ∷ ascii "COUNT" ∷ others) ≡ true
unfolding octets_compute rising
count_rising = refl

after_lacks : (n : List ℕ) (ps : List RulePart) → has_part n ps ≡ false → after_named n ps ≡ ps
unfolding row_of is_read after_named pick
after_lacks n [] h = refl
after_lacks n (p ∷ ps) h = go (same n p.part) h
  where
    go : (t : Bool) → is_read (pick t (Some p) (part_named n ps)) ≡ false → pick t ps (p ∷ ps) ≡ p ∷ ps
    go true k = absurd (false≢true (sym k))
    go false k = refl

lacks_after : (n m : List ℕ) (ps : List RulePart) → has_part n ps ≡ false → has_part n (after_named m ps) ≡ false
unfolding row_of is_read after_named pick
lacks_after n m [] h = refl
lacks_after n m (p ∷ ps) h = go (same m p.part) (same n p.part) refl h
  where
    go : (t u : Bool) → same n p.part ≡ u → is_read (pick u (Some p) (part_named n ps)) ≡ false → has_part n (pick t ps (p ∷ ps)) ≡ false
    go t true e k = absurd (false≢true (sym k))
    go true false e k = k
    go false false e k = rw e k

-- names among which UNTIL or COUNT is left out
without_until : (ps : List RulePart) → has_part (ascii "UNTIL") ps ≡ false → is_ordered part_names ps ≡ true → is_ordered (ascii "FREQ" ∷ ascii "COUNT" ∷ others) ps ≡ true
unfolding is_ordered
without_until ps h o =
    ap (λ (l : List RulePart). is_ordered others (after_named (ascii "COUNT") l)) (sym (after_lacks (ascii "UNTIL") (after_named (ascii "FREQ") ps) (lacks_after (ascii "UNTIL") (ascii "FREQ") ps h))) ∙ o

without_count : (ps : List RulePart) → has_part (ascii "COUNT") ps ≡ false → is_ordered part_names ps ≡ true → is_ordered (ascii "FREQ" ∷ ascii "UNTIL" ∷ others) ps ≡ true
unfolding is_ordered
without_count ps h o =
    ap (is_ordered others) (sym (after_lacks (ascii "COUNT") (after_named (ascii "UNTIL") (after_named (ascii "FREQ") ps))
    (lacks_after (ascii "COUNT") (ascii "UNTIL") (after_named (ascii "FREQ") ps) (lacks_after (ascii "COUNT") (ascii "FREQ") ps h)))) ∙ o

pub rule_fine : (ps : List RulePart) (q e : ℕ) → is_rule ps ≡ true → sequence recur_slots recur_inside (placed (parts_before ps nothing) q no_nodes) 0 [] e ≡ fine
unfolding is_one_of ◌or◌ ◌and◌
rule_fine ps q e h = go (has_part (ascii "UNTIL") ps) refl (has_part (ascii "COUNT") ps) refl complete.1
  where
    parts : (is_ordered part_names ps ≡ true) × ((is_complete ps and every is_part ps) ≡ true)
    parts = and_both _ _ h

    rest : (is_complete ps ≡ true) × (every is_part ps ≡ true)
    rest = and_both _ _ parts.1

    complete : (has_part (ascii "FREQ") ps ≡ true) × (not (has_part (ascii "UNTIL") ps and has_part (ascii "COUNT") ps) ≡ true)
    complete = and_both _ _ rest.0

    go : (t : Bool) → has_part (ascii "UNTIL") ps ≡ t → (u : Bool) → has_part (ascii "COUNT") ps ≡ u → not (t and u) ≡ true →
        sequence recur_slots recur_inside (placed (parts_before ps nothing) q no_nodes) 0 [] e ≡ fine
    go true a true b k = absurd (false≢true k)
    go true a false b k = parts_fine (ascii "FREQ" ∷ ascii "UNTIL" ∷ others) ps 0 [] e until_rising (without_count ps b parts.0) rest.1 complete.0 q
    go false a u b k = parts_fine (ascii "FREQ" ∷ ascii "COUNT" ∷ others) ps 0 [] e count_rising (without_until ps a parts.0) rest.1 complete.0 q
