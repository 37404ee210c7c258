-- The order of a rule's parts: parts that are in order stay as they are, and parts put in order are.
--     once_ordered       parts in order have no name twice
--     order_back         parts in order are put in order as they stand
--     ordered_order      parts that are put in order are in order
--     every_order        what holds of every part holds of the parts put in order
--     named_order        a part is found among the parts put in order as it was before
use Rattle.std.specs.Prelude.{◌≡◌, refl, Bool, true, false, List, [], ◌∷◌, map, ℕ, Option, None, Some}
use Rattle.std.proofs.Common.{sym, ap, ◌∙◌}
use Rattle.std.proofs.lemmas.Bool.{false≢true}
use Rattle.octets.specs.Pick.{pick, ◌and◌, ◌or◌}
use Rattle.octets.specs.laws.Pick.{or_neither, pick_second}
use Rattle.octets.specs.Words.{same, is_one_of, row_of}
use Rattle.octets.specs.laws.Words.{same_self, same_true, same_swap}
use Rattle.octets.specs.laws.Tables.{row_named, row_none, row_passes}
use Rattle.octets.specs.Lists.{every, distinct}
use Rattle.calendar.specs.Calendar.{RulePart}
use Rattle.recur.specs.Rule.{name_of, part_named, with_part, in_order, after_named, is_ordered}

-- ---- parts in order

-- a name that is none of the names is that of no part
ordered_lacks : (n : List ℕ) (ns : List (List ℕ)) (ps : List RulePart) → is_one_of n ns ≡ false → is_ordered ns ps ≡ true → is_one_of n (map name_of ps) ≡ false
unfolding is_one_of is_ordered after_named pick ◌or◌
ordered_lacks n [] [] h o = refl
ordered_lacks n [] (p ∷ ps) h o = absurd (false≢true o)
ordered_lacks n (m ∷ ns) [] h o = refl
ordered_lacks n (m ∷ ns) (p ∷ ps) h o = go (same m p.part) refl o (or_neither (same n m) (is_one_of n ns) h) (λ l. ordered_lacks n ns l)
  where
    go : (t : Bool) → same m p.part ≡ t → is_ordered ns (pick t ps (p ∷ ps)) ≡ true → (same n m ≡ false) × (is_one_of n ns ≡ false) →
        ((l : List RulePart) → is_one_of n ns ≡ false → is_ordered ns l ≡ true → is_one_of n (map name_of l) ≡ false) → (same n p.part or is_one_of n (map name_of ps)) ≡ false
    go true e k f ih = rw (← (same_true m p.part e), f.0) (ih ps f.1 k)
    go false e k f ih = ih (p ∷ ps) f.1 k

pub once_ordered : (ns : List (List ℕ)) (ps : List RulePart) → distinct ns ≡ true → is_ordered ns ps ≡ true → distinct (map name_of ps) ≡ true
unfolding distinct is_ordered after_named pick
once_ordered [] [] h o = refl
once_ordered [] (p ∷ ps) h o = absurd (false≢true o)
once_ordered (n ∷ ns) [] h o = refl
once_ordered (n ∷ ns) (p ∷ ps) h o = go (same n p.part) refl o (pick_second (is_one_of n ns) (distinct ns) h) (λ l. once_ordered ns l)
  where
    go : (t : Bool) → same n p.part ≡ t → is_ordered ns (pick t ps (p ∷ ps)) ≡ true → (is_one_of n ns ≡ false) × (distinct ns ≡ true) →
        ((l : List RulePart) → distinct ns ≡ true → is_ordered ns l ≡ true → distinct (map name_of l) ≡ true) → distinct (map name_of (p ∷ ps)) ≡ true
    go true e k f ih = rw (← (same_true n p.part e), ordered_lacks n ns ps f.0 k) (ih ps f.1 k)
    go false e k f ih = ih (p ∷ ps) f.1 k

-- a part in front is passed over where its name is none of the names
order_skip : (ns : List (List ℕ)) (p : RulePart) (ps : List RulePart) → is_one_of p.part ns ≡ false → in_order ns (p ∷ ps) ≡ in_order ns ps
unfolding in_order is_one_of row_of pick
order_skip [] p ps h = refl
order_skip (n ∷ ns) p ps h =
    let e = or_neither (same p.part n) (is_one_of p.part ns) h in
    rw (same_swap p.part n e.0, order_skip ns p ps e.1)

pub order_back : (ns : List (List ℕ)) (ps : List RulePart) → distinct ns ≡ true → is_ordered ns ps ≡ true → in_order ns ps ≡ ps
unfolding in_order distinct is_ordered after_named with_part row_of is_one_of pick
order_back [] [] h o = refl
order_back [] (p ∷ ps) h o = absurd (false≢true o)
order_back (n ∷ ns) [] h o = order_back ns [] (pick_second (is_one_of n ns) (distinct ns) h).1 o
order_back (n ∷ ns) (p ∷ ps) h o = go (same n p.part) refl o (pick_second (is_one_of n ns) (distinct ns) h) (λ l. order_back ns l)
  where
    go : (t : Bool) → same n p.part ≡ t → is_ordered ns (pick t ps (p ∷ ps)) ≡ true → (is_one_of n ns ≡ false) × (distinct ns ≡ true) →
        ((l : List RulePart) → distinct ns ≡ true → is_ordered ns l ≡ true → in_order ns l ≡ l) →
        with_part (pick t (Some p) (part_named n ps)) (in_order ns (p ∷ ps)) ≡ p ∷ ps
    go true e k f ih = ap (λ (l : List RulePart). p ∷ l) (order_skip ns p ps (rw (← (same_true n p.part e)) f.0) ∙ ih ps f.1 k)
    go false e k f ih =
        let g = or_neither (same n p.part) (is_one_of n (map name_of ps)) (ordered_lacks n ns (p ∷ ps) f.0 k) in
        rw (row_none name_of n ps g.1) (ih (p ∷ ps) f.1 k)

-- ---- parts put in order

lacks_after : (n : List ℕ) (ps : List RulePart) → is_one_of n (map name_of ps) ≡ false → after_named n ps ≡ ps
unfolding is_one_of after_named pick
lacks_after n [] h = refl
lacks_after n (p ∷ ps) h = rw (or_neither (same n p.part) (is_one_of n (map name_of ps)) h).0

pub ordered_order : (ns : List (List ℕ)) (ps : List RulePart) → distinct ns ≡ true → is_ordered ns (in_order ns ps) ≡ true
unfolding in_order distinct is_ordered after_named with_part pick
ordered_order [] ps h = refl
ordered_order (n ∷ ns) ps h = go (part_named n ps) refl (pick_second (is_one_of n ns) (distinct ns) h) (ordered_order ns ps)
  where
    go : (o : Option RulePart) → part_named n ps ≡ o → (is_one_of n ns ≡ false) × (distinct ns ≡ true) → (distinct ns ≡ true → is_ordered ns (in_order ns ps) ≡ true) →
        is_ordered ns (after_named n (with_part o (in_order ns ps))) ≡ true
    go None e f ih = rw (lacks_after n (in_order ns ps) (ordered_lacks n ns (in_order ns ps) f.0 (ih f.1))) (ih f.1)
    go (Some p) e f ih = rw (row_named name_of n ps p e, same_self n) (ih f.1)

pub every_order : (q : RulePart → Bool) (ns : List (List ℕ)) (ps : List RulePart) → every q ps ≡ true → every q (in_order ns ps) ≡ true
unfolding in_order with_part every ◌and◌
every_order q [] ps h = refl
every_order q (n ∷ ns) ps h = go (part_named n ps) refl (every_order q ns ps h)
  where
    go : (o : Option RulePart) → part_named n ps ≡ o → every q (in_order ns ps) ≡ true → every q (with_part o (in_order ns ps)) ≡ true
    go None e ih = ih
    go (Some p) e ih = rw (row_passes name_of n q ps p h e) ih

-- the other names: none is found after them that was not found before
order_none : (n : List ℕ) (ns : List (List ℕ)) (ps : List RulePart) → distinct ns ≡ true → is_one_of n ns ≡ false → part_named n (in_order ns ps) ≡ None
order_none n ns ps h o = row_none name_of n (in_order ns ps) (ordered_lacks n ns (in_order ns ps) o (ordered_order ns ps h))

pub named_order : (n : List ℕ) (ns : List (List ℕ)) (ps : List RulePart) → distinct ns ≡ true → is_one_of n ns ≡ true → part_named n (in_order ns ps) ≡ part_named n ps
unfolding in_order with_part distinct is_one_of row_of pick ◌or◌
named_order n [] ps h o = absurd (false≢true o)
named_order n (m ∷ ns) ps h o = go (part_named m ps) refl (same n m) refl o (pick_second (is_one_of m ns) (distinct ns) h) (named_order n ns ps)
  where
    go : (r : Option RulePart) → part_named m ps ≡ r → (t : Bool) → same n m ≡ t → (t or is_one_of n ns) ≡ true → (is_one_of m ns ≡ false) × (distinct ns ≡ true) →
        (distinct ns ≡ true → is_one_of n ns ≡ true → part_named n (in_order ns ps) ≡ part_named n ps) → part_named n (with_part r (in_order ns ps)) ≡ part_named n ps
    go None e true s k f ih = let z : n ≡ m = same_true n m s in rw z (order_none m ns ps f.1 f.0 ∙ sym e)
    go None e false s k f ih = ih f.1 k
    go (Some p) e true s k f ih =
        let z : n ≡ m = same_true n m s in
        let w : same n p.part ≡ true = rw (row_named name_of m ps p e) s in
        rw (w, z) (sym e)
    go (Some p) e false s k f ih = rw (row_named name_of m ps p e, s) (ih f.1 k)
