-- Laws of what specs/Halving.antt defines.
--     halved_from     halving an ordered table finds what comparing row by row finds
--     below_more, below_less, below_within    a turn of halving
--     found_hit, found_miss, found_end    what is found at the place of the key
--     by_first, by_second    the row of a property in the half of the table that its key names
--     table_halved    the number of a property by the halves of its name's number
use Rattle.std.specs.Prelude.{◌≡◌, refl, Bool, true, false, ◌&&◌, List, [], ◌∷◌, ◌++◌, map, ℕ, zero, suc, ◌+◌, ◌-◌, ◌≤◌, ◌<◌, min, eqb, ltb, length, get_or}
use Rattle.std.proofs.Common.{sym, ap, ◌∙◌, not-suc-le-zero, le_of_suc-le-suc, arith, get_or-append-add, ltb-true, ltb-false, eqb-true, le-ltb, lt-ltb}
use Rattle.std.proofs.lemmas.Bool.{false≢true}
use Rattle.std.proofs.Math.ListN.{get_or-append}
use Rattle.octets.specs.Pick.{pick}
use Rattle.octets.specs.laws.Pick.{and_both}
use Rattle.octets.specs.Lists.{every}
use Rattle.names.specs.Packing.{Packs, lookup, find, agree, packing_compute}
use Rattle.names.specs.Table.{place_of}
use Rattle.names.specs.laws.Packing.{by_packs}
use Rattle.schema.specs.Properties.{property_table, property_names, unrecognised_property}
use Rattle.schema.specs.Numbers.{property_at}
use Rattle.schema.specs.laws.Cells.{row_at_passes}
use Rattle.schema.specs.Computing.{schema_compute}
use Rattle.schema.specs.Halving.{short_key, long_key, key_for, below, is_exact, exact_at, rising, row_from, found_in}
use Rattle.schema.specs.Coded.{columns, coded, row_at, packed_from, place_by, first_half, second_half, middle}
use Rattle.schema.specs.declared.table.Entry.{Entry}
use Rattle.schema.specs.declared.table.Row.{Row}

-- the key of an entry is that of its name
unfoldable pub is_sound : Entry → Bool
is_sound r = eqb (key_for r.high r.low) r.key

both : (a b : Bool) → (a && b) ≡ true → (a ≡ true) × (b ≡ true)
both true b h = (refl, h)
both false b h = absurd (false≢true h)

exact_key : (h l : ℕ) (r : Entry) → is_sound r ≡ true → is_exact h l r ≡ true → key_for h l ≡ r.key
unfolding is_sound
exact_key h l r s e = let q = both _ _ e in rw (eqb-true l r.low q.0, eqb-true h r.high q.1) (eqb-true _ _ s)

-- no row has a key that is smaller than all of theirs
none_found : (h l d i m : ℕ) (rs : List Entry) → every is_sound rs ≡ true → every (λ x. ltb m x.key) rs ≡ true → key_for h l ≤ m → lookup h l (packed_from i rs) d ≡ d
unfolding lookup every pick
none_found h l d i m [] s a k = refl
none_found h l d i m (r ∷ rs) s a k = go (is_exact h l r) refl (none_found h l d (suc i) m rs (and_both _ _ s).1 (and_both _ _ a).1 k)
  where
    go : (b : Bool) → is_exact h l r ≡ b → lookup h l (packed_from (suc i) rs) d ≡ d → pick b i (lookup h l (packed_from (suc i) rs) d) ≡ d
    go true e ih =
        let q = exact_key h l r (and_both _ _ s).0 e in
        let lt = ltb-true m r.key (and_both _ _ a).0 in
        absurd (omega (arith, q, lt, k))
    go false e ih = ih

pub halved_from : (h l d i : ℕ) (rs : List Entry) → every is_sound rs ≡ true → rising rs ≡ true →
    lookup h l (packed_from i rs) d ≡ pick (exact_at h l rs (below (key_for h l) rs)) (i + below (key_for h l) rs) d
unfolding lookup every rising below exact_at pick
halved_from h l d i [] s a = refl
halved_from h l d i (r ∷ rs) s a =
    go (is_exact h l r) refl (ltb r.key (key_for h l)) refl (halved_from h l d (suc i) rs (and_both _ _ s).1 (and_both _ _ a).1)
  where
    next : suc i + below (key_for h l) rs ≡ i + suc (below (key_for h l) rs)
    next = omega arith

    go : (b : Bool) → is_exact h l r ≡ b → (t : Bool) → ltb r.key (key_for h l) ≡ t →
        lookup h l (packed_from (suc i) rs) d ≡ pick (exact_at h l rs (below (key_for h l) rs)) (suc i + below (key_for h l) rs) d →
        pick b i (lookup h l (packed_from (suc i) rs) d)
        ≡ pick (exact_at h l (r ∷ rs) (pick t (suc (below (key_for h l) rs)) 0)) (i + pick t (suc (below (key_for h l) rs)) 0) d
    go true e true f ih =
        let q = exact_key h l r (and_both _ _ s).0 e in
        let lt = ltb-true r.key (key_for h l) f in
        absurd (omega (arith, q, lt))
    go true e false f ih = rw e (omega arith)
    go false e true f ih = ih ∙ ap (λ (n : ℕ). pick (exact_at h l rs (below (key_for h l) rs)) n d) next
    go false e false f ih =
        none_found h l d (suc i) r.key rs (and_both _ _ s).1 (and_both _ _ a).0 (ltb-false r.key (key_for h l) f) ∙ rw e refl

-- ---- a turn of halving

pub below_less : (k n : ℕ) (rs : List Entry) (d : Entry) → n < length rs → k ≤ (get_or rs n d).key → below k rs ≤ n
unfolding below pick
below_less k n [] d h le = absurd (not-suc-le-zero h)
below_less k zero (r ∷ rs) d h le = rw (le-ltb r.key k le) (omega arith)
below_less k (suc n) (r ∷ rs) d h le = go (ltb r.key k) (below_less k n rs d (le_of_suc-le-suc h) le)
  where
    go : (t : Bool) → below k rs ≤ n → pick t (suc (below k rs)) 0 ≤ suc n
    go true q = omega (arith, q)
    go false q = omega arith

pub below_more : (k n : ℕ) (rs : List Entry) (d : Entry) → rising rs ≡ true → n < length rs → (get_or rs n d).key < k → n < below k rs
unfolding below pick rising
below_more k n [] d a h lt = absurd (not-suc-le-zero h)
below_more k zero (r ∷ rs) d a h lt = rw (lt-ltb r.key k lt) (omega arith)
below_more k (suc n) (r ∷ rs) d a h lt =
    let up = ltb-true r.key (get_or rs n d).key (row_at_passes (λ x. ltb r.key x.key) d rs n (and_both _ _ a).0 (le_of_suc-le-suc h)) in
    let q = below_more k n rs d (and_both _ _ a).1 (le_of_suc-le-suc h) lt in
    rw (lt-ltb r.key k (omega (arith, up, lt))) (omega (arith, q))

pub below_within : (k : ℕ) (rs : List Entry) → below k rs ≤ length rs
unfolding below pick
below_within k [] = omega arith
below_within k (r ∷ rs) = go (ltb r.key k) (below_within k rs)
  where
    go : (t : Bool) → below k rs ≤ length rs → pick t (suc (below k rs)) 0 ≤ suc (length rs)
    go true q = omega (arith, q)
    go false q = omega arith

-- ---- what is found at the place of a key

exact_within : (h l : ℕ) (es : List Entry) (n : ℕ) → exact_at h l es n ≡ true → n < length es
unfolding exact_at
exact_within h l [] n e = absurd (false≢true e)
exact_within h l (x ∷ es) zero e = omega arith
exact_within h l (x ∷ es) (suc n) e = let q = exact_within h l es n e in omega (arith, q)

exact_at_lem : (h l : ℕ) (es : List Entry) (d : Entry) (n : ℕ) → n < length es → exact_at h l es n ≡ is_exact h l (get_or es n d)
unfolding exact_at
exact_at_lem h l [] d n k = absurd (not-suc-le-zero k)
exact_at_lem h l (x ∷ es) d zero k = refl
exact_at_lem h l (x ∷ es) d (suc n) k = exact_at_lem h l es d n (le_of_suc-le-suc k)

exact_past : (h l : ℕ) (es : List Entry) (n : ℕ) → length es ≤ n → exact_at h l es n ≡ false
unfolding exact_at
exact_past h l [] n k = refl
exact_past h l (x ∷ es) zero k = absurd (not-suc-le-zero k)
exact_past h l (x ∷ es) (suc n) k = exact_past h l es n (le_of_suc-le-suc k)

-- within a list it does not matter what stands for an element past its end
pub get_d_any : {A : Type 0} (l : List A) (a b : A) (n : ℕ) → n < length l → get_or l n a ≡ get_or l n b
get_d_any [] a b n h = absurd (not-suc-le-zero h)
get_d_any (x ∷ l) a b zero h = refl
get_d_any (x ∷ l) a b (suc n) h = get_d_any l a b n (le_of_suc-le-suc h)

module _ (es : List Entry) (from k h l : ℕ) (none d : Entry) (n : ℕ) (e : n ≡ below k es) where
  pub found_hit : n < length es → is_exact h l (get_or es n d) ≡ true → row_from (from + n) (get_or es n d) ≡ found_in es from k h l none
  unfolding found_in pick
  found_hit i t = rw (← e, exact_at_lem h l es d n i, t) (ap (row_from (from + n)) (get_d_any es d none n i))

  pub found_miss : n < length es → is_exact h l (get_or es n d) ≡ false → row_from 46 none ≡ found_in es from k h l none
  unfolding found_in pick
  found_miss i t = rw (← e, exact_at_lem h l es d n i, t)

  pub found_end : length es ≤ n → row_from 46 none ≡ found_in es from k h l none
  unfolding found_in pick
  found_end i = rw (← e, exact_past h l es n i)

-- ---- a half of the table

abbrev none : Entry
none = coded unrecognised_property

found_in_lem : (h l i : ℕ) (es : List Entry) → every is_sound es ≡ true → rising es ≡ true → i + length es ≤ 46 →
    ((n : ℕ) → n < length es → get_or es n none ≡ coded (property_at (i + n))) → found_in es i (key_for h l) h l none ≡ row_at (lookup h l (packed_from i es) 46)
unfolding found_in row_at pick
found_in_lem h l i es s r w at = rw (halved_from h l 46 i es s r) (go (exact_at h l es (below (key_for h l) es)) refl)
  where
    go : (b : Bool) → exact_at h l es (below (key_for h l) es) ≡ b →
        pick b (row_from (i + below (key_for h l) es) (get_or es (below (key_for h l) es) none)) (row_from 46 none) ≡ row_at (pick b (i + below (key_for h l) es) 46)
    go true e =
        let k = exact_within h l es (below (key_for h l) es) e in
        let m : i + below (key_for h l) es ≡ min (i + below (key_for h l) es) 46 = omega (arith, k, w) in
        ap (row_from (i + below (key_for h l) es)) (at (below (key_for h l) es) k) ∙ ap (λ (p : ℕ). row_from p (coded (property_at (i + below (key_for h l) es)))) m
    go false e = refl

-- no row has a key that is greater than all of theirs
none_above : (h l d i m : ℕ) (es : List Entry) → every is_sound es ≡ true → every (λ x. ltb x.key m) es ≡ true → m ≤ key_for h l → lookup h l (packed_from i es) d ≡ d
unfolding lookup every pick
none_above h l d i m [] s a k = refl
none_above h l d i m (e ∷ es) s a k = go (is_exact h l e) refl (none_above h l d (suc i) m es (and_both _ _ s).1 (and_both _ _ a).1 k)
  where
    go : (b : Bool) → is_exact h l e ≡ b → lookup h l (packed_from (suc i) es) d ≡ d → pick b i (lookup h l (packed_from (suc i) es) d) ≡ d
    go true x ih =
        let q = exact_key h l e (and_both _ _ s).0 x in
        let lt = ltb-true e.key m (and_both _ _ a).0 in
        absurd (omega (arith, q, lt, k))
    go false x ih = ih

lookup_joined : (h l d i : ℕ) (es fs : List Entry) → lookup h l (packed_from i (es ++ fs)) d ≡ lookup h l (packed_from i es) (lookup h l (packed_from (i + length es) fs) d)
unfolding lookup
lookup_joined h l d i [] fs = let z : i ≡ i + 0 = omega arith in ap (λ (n : ℕ). lookup h l (packed_from n fs) d) z
lookup_joined h l d i (e ∷ es) fs =
    let z : suc i + length es ≡ i + suc (length es) = omega arith in
    ap (pick (is_exact h l e) i) (lookup_joined h l d (suc i) es fs ∙ ap (λ (n : ℕ). lookup h l (packed_from (suc i) es) (lookup h l (packed_from n fs) d)) z)

-- ---- the table

table_joined : map coded property_table ≡ first_half ++ second_half
table_joined = refl

pub first_sound : every is_sound first_half ≡ true
unfolding schema_compute packing_compute columns short_key long_key key_for is_sound
first_sound = refl

pub second_sound : every is_sound second_half ≡ true
unfolding schema_compute packing_compute columns short_key long_key key_for is_sound
second_sound = refl

pub first_rising : rising first_half ≡ true
unfolding schema_compute packing_compute columns short_key long_key key_for rising
first_rising = refl

pub second_rising : rising second_half ≡ true
unfolding schema_compute packing_compute columns short_key long_key key_for rising
second_rising = refl

first_under : every (λ x. ltb x.key middle) first_half ≡ true
unfolding schema_compute packing_compute columns short_key long_key key_for
first_under = refl

second_over : every (λ x. ltb (middle - 1) x.key) second_half ≡ true
unfolding schema_compute packing_compute columns short_key long_key key_for
second_over = refl

names_packed : agree [] (packed_from 0 (map coded property_table)) property_names ≡ true
unfolding schema_compute packing_compute columns
names_packed = refl

pub table_halved : (w : List ℕ) (h l : ℕ) → Packs w h l → place_by h l ≡ place_of w property_names
unfolding find place_by
table_halved w h l p = by_packs w [] (packed_from 0 (map coded property_table)) property_names 46 names_packed refl p refl

mapped_at : {A B : Type 0} (f : A → B) (d : A) (e : B) (rows : List A) (n : ℕ) → n < length rows → get_or (map f rows) n e ≡ f (get_or rows n d)
mapped_at f d e [] n h = absurd (not-suc-le-zero h)
mapped_at f d e (a ∷ rows) zero h = refl
mapped_at f d e (a ∷ rows) (suc n) h = mapped_at f d e rows n (le_of_suc-le-suc h)

-- an entry within the table, whatever stands for one past its end
table_at : (n : ℕ) (d : Entry) → n < 46 → get_or (map coded property_table) n d ≡ coded (property_at n)
table_at n d h = mapped_at coded unrecognised_property d property_table n h

-- an entry of a half is that of its number
pub first_at : (n : ℕ) (d : Entry) → n < 23 → get_or first_half n d ≡ coded (property_at n)
first_at n d h = sym (get_or-append first_half second_half d n h) ∙ table_at n d (omega (arith, h))

pub second_at : (n : ℕ) (d : Entry) → n < 23 → get_or second_half n d ≡ coded (property_at (23 + n))
second_at n d h = sym (get_or-append-add first_half second_half n d) ∙ table_at (23 + n) d (omega (arith, h))

-- ---- the row of a property

by_halves : (h l : ℕ) → place_by h l ≡ lookup h l (packed_from 0 first_half) (lookup h l (packed_from 23 second_half) 46)
unfolding place_by
by_halves h l = lookup_joined h l 46 0 first_half second_half

found_first : (h l : ℕ) → key_for h l < middle → found_in first_half 0 (key_for h l) h l none ≡ row_at (place_by h l)
found_first h l k =
    found_in_lem h l 0 first_half first_sound first_rising (omega arith) (λ n i. let z : n ≡ 0 + n = omega arith in first_at n none i ∙ ap (λ (p : ℕ). coded (property_at p)) z)
    ∙ ap row_at (sym (by_halves h l ∙ ap (lookup h l (packed_from 0 first_half)) (none_found h l 46 23 (middle - 1) second_half second_sound second_over (omega (arith, k)))))

found_second : (h l : ℕ) → middle ≤ key_for h l → found_in second_half 23 (key_for h l) h l none ≡ row_at (place_by h l)
found_second h l k =
    found_in_lem h l 23 second_half second_sound second_rising (omega arith) (λ n i. second_at n none i)
    ∙ ap row_at (sym (by_halves h l ∙ none_above h l _ 0 middle first_half first_sound first_under k))

module _ (h l : ℕ) {k : ℕ} {es : List Entry} {r : Row} (e : k ≡ key_for h l) where
  pub by_first : k < middle → es ≡ first_half → r ≡ found_in es 0 k h l none → r ≡ row_at (place_by h l)
  by_first i g f = f ∙ ap (λ (es : List Entry). found_in es 0 k h l none) g ∙ ap (λ (k : ℕ). found_in first_half 0 k h l none) e ∙ found_first h l (rw (← e) i)

  pub by_second : middle ≤ k → es ≡ second_half → r ≡ found_in es 23 k h l none → r ≡ row_at (place_by h l)
  by_second i g f = f ∙ ap (λ (es : List Entry). found_in es 23 k h l none) g ∙ ap (λ (k : ℕ). found_in second_half 23 k h l none) e ∙ found_second h l (rw (← e) i)
