-- RECUR (RFC 6321, section 3.6.10): the elements that are written of a rule are read back as that rule.
--     parts_of_lem  the parts that the elements of a rule state are the rule
use Rattle.std.specs.Prelude.{◌≡◌, refl, Bool, true, false, List, [], ◌∷◌, ◌++◌, map, ℕ, Option, None, Some}
use Rattle.std.proofs.Common.{sym, ap, ◌∙◌, append-nil}
use Rattle.std.proofs.lemmas.Bool.{false≢true}
use Rattle.octets.specs.Pick.{pick}
use Rattle.octets.specs.laws.Pick.{and_both, pick_second}
use Rattle.octets.specs.Class.{upper, lower}
use Rattle.octets.specs.Words.{same, is_one_of, row_of}
use Rattle.octets.specs.laws.Words.{same_self, same_true, same_swap}
use Rattle.octets.specs.Lists.{every, distinct}
use Rattle.octets.specs.laws.Tables.{row_named, row_passes, row_none}
use Rattle.octets.specs.Reading.{read_or}
use Rattle.octets.specs.Computing.{octets_compute}
use Rattle.calendar.specs.Calendar.{xcal, RuleItem, RulePart}
use Rattle.recur.specs.Parts.{Part, part_table, part_names, part_of, is_list_part}
use Rattle.recur.specs.Item.{write_item, is_for, is_item}
use Rattle.recur.specs.laws.ItemLaws.{item_read_back}
use Rattle.recur.specs.Rule.{is_amount, is_part, name_of, part_named, with_part, in_order, is_ordered}
use Rattle.recur.specs.laws.OrderLaws.{once_ordered, order_back}
use Rattle.recur.specs.laws.RuleLaws.{names_once}
use Rattle.xml.specs.Nodes.{no_nodes}
use Rattle.xml.specs.Content.{Content, nothing, placed}
use Rattle.xcal.proofs.laws.ElementNames.{lower-same}
use Rattle.xcal.proofs.laws.Contents.{items_before, parts_before}
use Rattle.xcal.proofs.laws.LeavesBack.{leaf_characters}
use Rattle.xcal.specs.ValueNodes.{items_of, one_part, parts_of}

-- ---- what a part of a rule is

-- the name of a part that has an item is in capitals
table_capital : every (λ (r : Part). same (upper r.name) r.name) part_table ≡ true
unfolding every octets_compute
table_capital = refl

item_capital : (n : List ℕ) (i : RuleItem) → is_item n i ≡ true → upper n ≡ n
item_capital n i h = go (part_of n) refl h
  where
    go : (o : Option Part) → part_of n ≡ o → is_for o i ≡ true → upper n ≡ n
    go None e k = absurd (false≢true k)
    go (Some r) e k =
        let z : n ≡ r.name = sym (row_named (λ (r : Part). r.name) n part_table r e) in
        rw z (same_true _ _ (row_passes (λ (r : Part). r.name) n (λ (r : Part). same (upper r.name) r.name) part_table r table_capital e))

pub part_capital : (p : RulePart) → is_part p ≡ true → upper p.part ≡ p.part
unfolding every
part_capital p h = go p.items (and_both _ _ h)
  where
    go : (is : List RuleItem) → (is_amount (is_list_part p.part) is ≡ true) × (every (is_item p.part) is ≡ true) → upper p.part ≡ p.part
    go [] q = absurd (false≢true q.0)
    go (i ∷ is) q = item_capital p.part i (and_both _ _ q.1).0

-- ---- the items of a part

-- elements of its name
items_named : (n : List ℕ) (is : List RuleItem) (c : Content) (l : List RuleItem) → every (is_item n) is ≡ true →
    ((q : ℕ) → items_of n (placed c q no_nodes) ≡ l) → (q : ℕ) → items_of n (placed (items_before (lower n) is c) q no_nodes) ≡ is ++ l
unfolding items_before placed items_of every pick read_or
items_named n [] c l h rest q = rest q
items_named n (i ∷ is) c l h rest q =
    let e = and_both (is_item n i) (every (is_item n) is) h in
    rw (same_self (lower n), leaf_characters (write_item xcal i), item_read_back xcal n i e.0)
    (ap (λ (m : List RuleItem). i ∷ m) (items_named n is c l e.1 rest _))

-- elements of another name
items_other : (n m : List ℕ) (is : List RuleItem) (c : Content) (l : List RuleItem) → same m (lower n) ≡ false →
    ((q : ℕ) → items_of n (placed c q no_nodes) ≡ l) → (q : ℕ) → items_of n (placed (items_before m is c) q no_nodes) ≡ l
unfolding items_before placed items_of pick
items_other n m [] c l h rest q = rest q
items_other n m (i ∷ is) c l h rest q = rw h (items_other n m is c l h rest _)

abbrev items_in : Option RulePart → List RuleItem
items_in None = []
items_in (Some p) = p.items

parts_items : (n : List ℕ) → upper n ≡ n → (ps : List RulePart) → distinct (map name_of ps) ≡ true → every is_part ps ≡ true →
    (q : ℕ) → items_of n (placed (parts_before ps nothing) q no_nodes) ≡ items_in (part_named n ps)
unfolding parts_before placed items_of row_of distinct every pick
parts_items n c [] d h q = refl
parts_items n c (p ∷ ps) d h q = go (same n p.part) refl (parts_items n c ps once.1 parts.1)
  where
    parts : (is_part p ≡ true) × (every is_part ps ≡ true)
    parts = and_both (is_part p) (every is_part ps) h

    once : (is_one_of p.part (map name_of ps) ≡ false) × (distinct (map name_of ps) ≡ true)
    once = pick_second (is_one_of p.part (map name_of ps)) (distinct (map name_of ps)) d

    go : (t : Bool) → same n p.part ≡ t → ((q : ℕ) → items_of n (placed (parts_before ps nothing) q no_nodes) ≡ items_in (part_named n ps)) →
        items_of n (placed (items_before (lower p.part) p.items (parts_before ps nothing)) q no_nodes) ≡ items_in (pick t (Some p) (part_named n ps))
    go true e ih =
        let z : p.part ≡ n = sym (same_true n p.part e) in
        let w : part_named n ps ≡ None = row_none name_of n ps (rw z at once.0) in
        let k : every (is_item n) p.items ≡ true = rw z at (and_both _ _ parts.0).1 in
        rw z (items_named n p.items (parts_before ps nothing) [] k (λ r. ih r ∙ ap items_in w) q) ∙ append-nil p.items
    go false e ih = items_other n (lower p.part) p.items (parts_before ps nothing) _ (lower-same p.part n (part_capital p parts.0) c ∙ same_swap n p.part e) ih q

-- ---- the parts

one_part_lem : (n : List ℕ) (o : Option RulePart) (ps l : List RulePart) → part_named n ps ≡ o → every is_part ps ≡ true → one_part n (items_in o) l ≡ with_part o l
unfolding with_part
one_part_lem n None ps l e h = refl
one_part_lem n (Some p) ps l e h = go p.items refl (and_both _ _ (row_passes name_of n is_part ps p h e)).0
  where
    go : (is : List RuleItem) → p.items ≡ is → is_amount (is_list_part p.part) is ≡ true → one_part n is l ≡ p ∷ l
    go [] k a = absurd (false≢true a)
    go (i ∷ is) k a = ap (λ (r : RulePart). r ∷ l) (λ j. record { part = sym (row_named name_of n ps p e) j; items = sym k j })

parts_in_order : (ns : List (List ℕ)) (ps : List RulePart) (q : ℕ) → every (λ (n : List ℕ). same (upper n) n) ns ≡ true → distinct (map name_of ps) ≡ true → every is_part ps ≡ true →
    parts_of ns (placed (parts_before ps nothing) q no_nodes) ≡ in_order ns ps
unfolding parts_of in_order every
parts_in_order [] ps q c d h = refl
parts_in_order (n ∷ ns) ps q c d h =
    let e = and_both (same (upper n) n) _ c in
    rw (parts_items n (same_true _ _ e.0) ps d h q, parts_in_order ns ps q e.1 d h)
    (one_part_lem n (part_named n ps) ps (in_order ns ps) refl h)

names_capital : every (λ (n : List ℕ). same (upper n) n) part_names ≡ true
unfolding octets_compute
names_capital = refl

pub parts_of_lem : (ps : List RulePart) (q : ℕ) → is_ordered part_names ps ≡ true → every is_part ps ≡ true → parts_of part_names (placed (parts_before ps nothing) q no_nodes) ≡ ps
parts_of_lem ps q o h =
    parts_in_order part_names ps q names_capital (once_ordered part_names ps names_once o) h
    ∙ order_back part_names ps names_once o
