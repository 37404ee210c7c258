-- Laws of what specs/Packing.antt defines.
--     by_packs         what is found by a word's number is its place;   looking, finding: rules for a function of rows, of groups
--     Taking           the loops that make a number, with the rules `taking_bytes` over bytes as they stand
use Rattle.std.specs.Prelude.{◌≡◌, Bool, ◌&&◌, ℕ, ◌+◌, ◌*◌, ◌/◌, ◌%◌, ◌^◌, ◌≤◌, ◌<◌, ltb, length, get_or}
use Rattle.std.proofs.Math.Path.{refl, sym}
use Rattle.std.proofs.Common.{ap, ◌∙◌, arith, rules}
use Rattle.std.proofs.Math.Bool.{true, false}
use Rattle.std.proofs.lemmas.Bool.{false≢true}
use mathlib.Core.List.{List, [], ◌∷◌}
use Rattle.std.proofs.Math.Dec.{eqb}
use borrow.Author.Tests.{eqb-true, eqb-false, lt-ltb, le-ltb, ltb-true, ltb-false}
use Rattle.octets.specs.Pick.{pick, ◌and◌, ◌or◌}
use Rattle.octets.specs.laws.Pick.{and_both, or_neither, pick_take, pick_skip}
use Rattle.octets.specs.Class.{upper, upper_byte}
use Rattle.octets.specs.Scan.{all_of}
use Rattle.octets.specs.laws.Scan.{all_split, all_cons}
use Rattle.octets.specs.Words.{same, is_one_of}
use Rattle.octets.specs.laws.Words.{same_self}
use Rattle.octets.specs.Lists.{every}
use Rattle.octets.specs.laws.Lists.{every_both, word_passes}
use Rattle.source.specs.Source.{rest, Reads}
use Rattle.source.specs.laws.Facts.{rest_byte, rest_end, plain_byte}
use Rattle.source.specs.declared.points.Unit.{Unit}
use Rattle.names.specs.laws.Case.{cased_none, cased_more}
use Rattle.names.specs.laws.Plain.{cased_over}
use Rattle.names.specs.laws.Table.{one_of_place, place_within}
use Rattle.names.specs.Table.{place_of}
use Rattle.names.specs.Packing.{grow_high, grow_low, high_from, low_from, high_of, low_of, Packs, Row, row, Group, group, lookup, find, is_packed, is_named, are_named, is_found, agree}
use Rattle.names.specs.declared.Case.TheVariants.{Capital}

-- ---- a word by its number

abbrev is_digit128 : ℕ → Bool
is_digit128 b = ltb b 128

-- the number of a word whose last byte stands first
unfoldable value_of : List ℕ → ℕ
value_of [] = 1
value_of (b ∷ w) = value_of w * 128 + b

unfoldable back_onto : List ℕ → List ℕ → List ℕ
back_onto [] r = r
back_onto (b ∷ w) r = back_onto w (b ∷ r)

back_twice : (w r : List ℕ) → back_onto (back_onto w r) [] ≡ back_onto r w
unfolding back_onto
back_twice [] r = refl
back_twice (b ∷ w) r = back_twice w (b ∷ r)

back_again : (w : List ℕ) → back_onto (back_onto w []) [] ≡ w
unfolding back_onto
back_again w = back_twice w []

value_some : (w : List ℕ) → 1 ≤ value_of w
unfolding value_of
value_some [] = omega arith
value_some (b ∷ w) = let h = value_some w in omega arith

value_same : (a b : List ℕ) → all_of is_digit128 a ≡ true → all_of is_digit128 b ≡ true → value_of a ≡ value_of b → a ≡ b
unfolding value_of
value_same [] [] h k e = refl
value_same [] (y ∷ b) h k e = let g = value_some b in absurd (omega arith)
value_same (x ∷ a) [] h k e = let g = value_some a in absurd (omega arith)
value_same (x ∷ a) (y ∷ b) h k e =
    let p = all_split is_digit128 x a h in
    let q = all_split is_digit128 y b k in
    let u = ltb-true x 128 p.0 in
    let v = ltb-true y 128 q.0 in
    let f : x ≡ y = omega arith in
    let g : value_of a ≡ value_of b = omega arith in
    let i : a ≡ b = value_same a b p.1 q.1 g in
    cc

none_stays : (w : List ℕ) (l : ℕ) → high_from w (2 ^ 63) l ≡ 2 ^ 63
unfolding high_from grow_high pick
none_stays [] l = refl
none_stays (b ∷ w) l = go (ltb b 128) (none_stays w (grow_low (2 ^ 63) l b))
  where
    go : (t : Bool) → high_from w (2 ^ 63) (grow_low (2 ^ 63) l b) ≡ 2 ^ 63 → high_from w (pick t (2 ^ 63) (2 ^ 63)) (grow_low (2 ^ 63) l b) ≡ 2 ^ 63
    go true ih = ih
    go false ih = ih

carried : (h l b v : ℕ) → h * 2 ^ 56 + l ≡ v → (h * 128 + l / 2 ^ 49) * 2 ^ 56 + (l % 2 ^ 49 * 128 + b) ≡ v * 128 + b
carried h l b v e = omega arith

-- a number that is not that of no name is the value of the word
record Valued (w r : List ℕ) (h l : ℕ) : Type 0 where
  is : high_from w h l * 2 ^ 56 + low_from w h l ≡ value_of (back_onto w r)
  digits : all_of is_digit128 (back_onto w r) ≡ true

valued : (w r : List ℕ) (h l : ℕ) → all_of is_digit128 r ≡ true → h * 2 ^ 56 + l ≡ value_of r → high_from w h l < 2 ^ 57 → Valued w r h l
unfolding high_from low_from grow_high grow_low pick back_onto value_of
valued [] r h l a e g = record { is = e; digits = a }
valued (b ∷ w) r h l a e g =
    let v = go (ltb b 128) (ltb h (2 ^ 56)) refl g (λ d. valued w (b ∷ r) (h * 128 + l / 2 ^ 49) (l % 2 ^ 49 * 128 + b) (all_cons is_digit128 b r d a) (carried h l b (value_of r) e)) in
    record { is = v.is; digits = v.digits }
  where
    go : (t u : Bool) → ltb b 128 ≡ t →
        high_from w (pick t (pick u (h * 128 + l / 2 ^ 49) (2 ^ 63)) (2 ^ 63)) (pick t (pick u (l % 2 ^ 49 * 128 + b) 0) 0) < 2 ^ 57 →
        (ltb b 128 ≡ true → high_from w (h * 128 + l / 2 ^ 49) (l % 2 ^ 49 * 128 + b) < 2 ^ 57 → Valued w (b ∷ r) (h * 128 + l / 2 ^ 49) (l % 2 ^ 49 * 128 + b)) →
        Valued w (b ∷ r) (pick t (pick u (h * 128 + l / 2 ^ 49) (2 ^ 63)) (2 ^ 63)) (pick t (pick u (l % 2 ^ 49 * 128 + b) 0) 0)
    go true true d k ih = ih d k
    go true false d k ih = absurd (omega (arith, none_stays w 0))
    go false u d k ih = absurd (omega (arith, none_stays w 0))

number_same : (w x : List ℕ) → high_of w ≡ high_of x → low_of w ≡ low_of x → high_of x < 2 ^ 57 → w ≡ x
unfolding value_of all_of
number_same w x e f g =
    let p = valued w [] 0 1 refl refl (rw e g) in
    let q = valued x [] 0 1 refl refl g in
    let v : value_of (back_onto w []) ≡ value_of (back_onto x []) = sym p.is ∙ rw (e, f) q.is in
    let b : back_onto w [] ≡ back_onto x [] = value_same (back_onto w []) (back_onto x []) p.digits q.digits v in
    sym (back_again w) ∙ ap (λ (y : List ℕ). back_onto y []) b ∙ back_again x

-- ---- what is found by a number

both_true : (a b : Bool) → (a && b) ≡ true → (a ≡ true) × (b ≡ true)
both_true true b e = (refl, e)
both_true false b e = absurd (false≢true e)

-- a word that is none of the names has no name's number
not_packed : (w : List ℕ) (ns : List (List ℕ)) → every (λ (x : List ℕ). ltb (high_of x) (2 ^ 57)) ns ≡ true → is_one_of w ns ≡ false → is_packed (high_of w) (low_of w) ns ≡ false
unfolding is_packed is_one_of every ◌or◌
not_packed w [] a h = refl
not_packed w (x ∷ ns) a h =
    let q = every_both (λ (x : List ℕ). ltb (high_of x) (2 ^ 57)) x ns a in
    let k = or_neither (same w x) (is_one_of w ns) h in
    go (eqb (low_of w) (low_of x) && eqb (high_of w) (high_of x)) refl k.0 (ltb-true (high_of x) (2 ^ 57) q.0) (not_packed w ns q.1 k.1)
  where
    go : (t : Bool) → (eqb (low_of w) (low_of x) && eqb (high_of w) (high_of x)) ≡ t → same w x ≡ false → high_of x < 2 ^ 57 → is_packed (high_of w) (low_of w) ns ≡ false →
        (t or is_packed (high_of w) (low_of w) ns) ≡ false
    go true e f g ih =
        let b = both_true (eqb (low_of w) (low_of x)) (eqb (high_of w) (high_of x)) e in
        let i : w ≡ x = number_same w x (eqb-true (high_of w) (high_of x) b.1) (eqb-true (low_of w) (low_of x) b.0) g in
        absurd (false≢true (sym f ∙ rw i (same_self x)))
    go false e f g ih = ih

module _ (h l d : ℕ) (ns : List (List ℕ)) (m : is_packed h l ns ≡ false) where
  lookup_misses : (rs : List Row) → every (is_named ns) rs ≡ true → lookup h l rs d ≡ d
  unfolding lookup every is_named pick
  lookup_misses [] a = refl
  lookup_misses (row x y n ∷ rs) a =
      let q = every_both (is_named ns) (row x y n) rs a in
      go (eqb l y && eqb h x) refl q.0 (lookup_misses rs q.1)
    where
      go : (t : Bool) → (eqb l y && eqb h x) ≡ t → is_packed x y ns ≡ true → lookup h l rs d ≡ d → pick t n (lookup h l rs d) ≡ d
      go true e f ih =
          let b = both_true (eqb l y) (eqb h x) e in
          absurd (false≢true (sym m ∙ rw (eqb-true l y b.0, eqb-true h x b.1) f))
      go false e f ih = ih

  find_misses : (gs : List Group) (last : List Row) → every (are_named ns) gs ≡ true → every (is_named ns) last ≡ true → find h l gs last d ≡ d
  unfolding find every are_named pick
  find_misses [] last a b = lookup_misses last b
  find_misses (group k rs ∷ gs) last a b =
      let q = every_both (are_named ns) (group k rs) gs a in
      go (ltb l k) (lookup_misses rs q.0) (find_misses gs last q.1 b)
    where
      go : (t : Bool) → lookup h l rs d ≡ d → find h l gs last d ≡ d → pick t (lookup h l rs d) (find h l gs last d) ≡ d
      go true e f = e
      go false e f = f

number_of : (gs : List Group) (last : List Row) (ns xs : List (List ℕ)) → every (is_found gs last ns) xs ≡ true → every (λ (x : List ℕ). ltb (high_of x) (2 ^ 57)) xs ≡ true
unfolding every is_found ◌and◌
number_of gs last ns [] a = refl
number_of gs last ns (x ∷ xs) a =
    let q = every_both (is_found gs last ns) x xs a in
    let p = and_both (ltb (high_of x) (2 ^ 57)) _ q.0 in
    rw p.0 (number_of gs last ns xs q.1)

pub by_packs : (w : List ℕ) (gs : List Group) (last : List Row) (ns : List (List ℕ)) (d : ℕ) {h l r : ℕ} →
    agree gs last ns ≡ true → d ≡ length ns → Packs w h l → r ≡ find h l gs last d → r ≡ place_of w ns
unfolding agree is_found
by_packs w gs last ns d {h} {l} {r} a n p f =
    let u = and_both (every (is_found gs last ns) ns) _ a in
    let v = and_both (every (are_named ns) gs) (every (is_named ns) last) u.1 in
    f ∙ rw (n, p.high, p.low) (go (is_one_of w ns) refl u.0 v.0 v.1)
  where
    go : (t : Bool) → is_one_of w ns ≡ t → every (is_found gs last ns) ns ≡ true → every (are_named ns) gs ≡ true → every (is_named ns) last ≡ true →
        find (high_of w) (low_of w) gs last (length ns) ≡ place_of w ns
    go true e x y z =
        let k = and_both (ltb (high_of w) (2 ^ 57)) (eqb (find (high_of w) (low_of w) gs last (length ns)) (place_of w ns)) (word_passes (is_found gs last ns) ns w x e) in
        eqb-true (find (high_of w) (low_of w) gs last (length ns)) (place_of w ns) k.1
    go false e x y z =
        let k = ltb-false (place_of w ns) (length ns) (sym (one_of_place w ns) ∙ e) in
        let i = place_within w ns in
        let j : place_of w ns ≡ length ns = omega arith in
        find_misses (high_of w) (low_of w) (length ns) ns (not_packed w ns (number_of gs last ns ns x) e) gs last y z ∙ sym j

-- a row of a group, and a group of all
pub ruleset looking = (pick_take, pick_skip)

pub ruleset finding = (pick_take, pick_skip, lt-ltb, le-ltb)

-- ---- loops

-- the bytes before the cursor c made h and l
pub record Taking (m : ℕ) (s : List ℕ) (c₀ h l c : ℕ) : Type 0 where
  pub high : high_of (upper (rest m s c₀)) ≡ high_from (upper (rest m s c)) h l
  pub low : low_of (upper (rest m s c₀)) ≡ low_from (upper (rest m s c)) h l

pub taking_start : (m : ℕ) (s : List ℕ) (c : ℕ) → Taking m s c 0 1 c
taking_start m s c = record { high = refl; low = refl }

module _ {m : ℕ} {s : List ℕ} {c₀ h l c : ℕ} {n : Unit} (t : Taking m s c₀ h l c) (q : Reads m s c n) where
  pub taking_more : {v x y : ℕ} → (n.u ≡ 256 → ⊥) → v ≡ upper_byte n.u → (x ≡ grow_high h l v) × (y ≡ grow_low h l v) → Taking m s c₀ x y n.next
  unfolding high_from low_from
  taking_more e f g = record {
    high = t.high ∙ rw (rest_byte q e, cased_more Capital n.u (rest m s n.next), ← f, g.0, g.1);
    low = t.low ∙ rw (rest_byte q e, cased_more Capital n.u (rest m s n.next), ← f, g.0, g.1);
  }

  pub taking_end : n.u ≡ 256 → Packs (upper (rest m s c₀)) h l
  unfolding high_from low_from
  taking_end e = record { high = sym (t.high ∙ rw (rest_end q e, cased_none Capital)); low = sym (t.low ∙ rw (rest_end q e, cased_none Capital)) }

module _ {s : List ℕ} {c₀ h l c : ℕ} (t : Taking 0 s c₀ h l c) where
  pub taking_bytes_more : {u v x y : ℕ} → c < length s → (u ≡ get_or s c 0) × (u < 256) → v ≡ upper_byte u → (x ≡ grow_high h l v) × (y ≡ grow_low h l v) → Taking 0 s c₀ x y (c + 1)
  taking_bytes_more {u} i e f g = taking_more t (plain_byte s c u i e.0 e.1) (λ z. omega arith) f g

  pub taking_bytes_end : length s ≤ c → Packs (upper (rest 0 s c₀)) h l
  unfolding high_from low_from
  taking_bytes_end i = record { high = sym (t.high ∙ rw (cased_over Capital s c i)); low = sym (t.low ∙ rw (cased_over Capital s c i)) }

pub ruleset taking_bytes = (taking_start, taking_bytes_more, taking_bytes_end, rules)
