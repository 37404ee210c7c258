-- The bytes that are kept from an index on, and their places: past a fold, past a byte, at the end.
--     folds           what `fold_at` answers
--     Unfolding       the invariant of unfolding, `search unfoldings`
--     Left            the invariant of looking for a place, `search lefts`
use mathlib.Core.Path.{◌≡◌, refl, sym, ap, ◌∙◌}
use mathlib.Core.Bool.{Bool, true, false}
use mathlib.Core.List.{List, [], ◌∷◌}
use Prim.Native.Nat.{ℕ, zero, suc, ◌+◌, ◌-◌, ◌*◌, ◌^◌, ◌≤◌, ◌<◌}
use native.Mathlib.Omega.{arith}
use lib.Dec.{eqb}
use lib.ListN.{length, get_or, set, drop, length-drop, length-set, drop_of_length-le}
use borrow.Author.Tests.{eq-eqb, ne_eqb, eqb-true, eqb-false}
use borrow.Author.Rules.{rules}
use Rattle.octets.specs.Pick.{◌and◌, ◌or◌}
use Rattle.octets.specs.laws.Pick.{flag_yes, flag_no}
use Rattle.octets.specs.laws.Scan.{drop_next}
use Rattle.octets.specs.Words.{starts}
use Rattle.octets.specs.laws.Append.{append_is}
use Rattle.sink.specs.Sink.{Put, far, Todo}
use Rattle.sink.specs.laws.Sink.{put_set, overwrite_fits, todo_all, todo_step, todo_done}
use Rattle.folding.specs.Unfold.{fold_at, keep, kept_from, unfolded, places_from, origin, Unfolds}
use Rattle.folding.specs.laws.Unfold.{fold_long, length-unfolded}

-- ---- a fold at an index

pub eqb_swap : (a b : ℕ) → eqb a b ≡ eqb b a
eqb_swap a b = go (eqb a b) refl
  where
    go : (t : Bool) → eqb a b ≡ t → eqb a b ≡ eqb b a
    go true e = e ∙ sym (eq-eqb b a (sym (eqb-true a b e)))
    go false e = e ∙ sym (ne_eqb b a (λ q. eqb-false a b e (sym q)))

fold_bytes : (a b c : ℕ) (r : List ℕ) → fold_at (a ∷ b ∷ c ∷ r) ≡ (eqb a 13 and eqb b 10 and (eqb c 32 or eqb c 9))
unfolding fold_at starts ◌and◌ ◌or◌
fold_bytes a b c r = rw (eqb_swap 13 a, eqb_swap 10 b, eqb_swap 32 c, eqb_swap 9 c) (go (eqb a 13) (eqb b 10) (eqb c 32) (eqb c 9))
  where
    go : (t u v w : Bool) → ((t and u and v and true) or t and u and w and true) ≡ (t and u and (v or w))
    go true true true w = refl
    go true true false true = refl
    go true true false false = refl
    go true false v w = refl
    go false u v w = refl

fold_first : (a : ℕ) (r : List ℕ) → eqb a 13 ≡ false → fold_at (a ∷ r) ≡ false
unfolding fold_at starts ◌and◌ ◌or◌
fold_first a r h = rw (eqb_swap 13 a, h)

three : (s : List ℕ) (at : ℕ) → 3 ≤ length s - at → drop at s ≡ get_or s at 0 ∷ get_or s (at + 1) 0 ∷ get_or s (at + 2) 0 ∷ drop (at + 3) s
three s at h =
    let e : at + 1 + 1 ≡ at + 2 = omega arith in
    let f : at + 2 + 1 ≡ at + 3 = omega arith in
    rw (drop_next s at (omega arith), drop_next s (at + 1) (omega arith), e, drop_next s (at + 2) (omega arith), f)

fold_is : (s : List ℕ) (at : ℕ) → 3 ≤ length s - at →
    fold_at (drop at s) ≡ (eqb (get_or s at 0) 13 and eqb (get_or s (at + 1) 0) 10 and (eqb (get_or s (at + 2) 0) 32 or eqb (get_or s (at + 2) 0) 9))
fold_is s at h = ap fold_at (three s at h) ∙ fold_bytes (get_or s at 0) (get_or s (at + 1) 0) (get_or s (at + 2) 0) (drop (at + 3) s)

-- a fold has three bytes
pub fold_inside : (s : List ℕ) (at : ℕ) → at < length s → fold_at (drop at s) ≡ true → at + 3 ≤ length s
fold_inside s at h e =
    let k = fold_long (get_or s at 0) (drop (at + 1) s) (sym (ap fold_at (drop_next s at h)) ∙ e) in
    omega (arith, rw length-drop at k)

module _ (s : List ℕ) (at : ℕ) where
  pub fold_blank : (r : Bool) → 3 ≤ length s - at → get_or s at 0 ≡ 13 → get_or s (at + 1) 0 ≡ 10 →
      r ≡ (eqb (get_or s (at + 2) 0) 32 or eqb (get_or s (at + 2) 0) 9) → r ≡ fold_at (drop at s)
  unfolding ◌and◌
  fold_blank r h a b e = rw (fold_is s at h, eq-eqb _ _ a, eq-eqb _ _ b) e

  pub fold_no_feed : 3 ≤ length s - at → get_or s at 0 ≡ 13 → (get_or s (at + 1) 0 ≡ 10 → ⊥) → false ≡ fold_at (drop at s)
  unfolding ◌and◌
  fold_no_feed h a b = rw (fold_is s at h, eq-eqb _ _ a, ne_eqb _ _ b)

  pub fold_no_return : at < length s → (get_or s at 0 ≡ 13 → ⊥) → false ≡ fold_at (drop at s)
  fold_no_return h n = rw (drop_next s at h) (sym (fold_first _ _ (ne_eqb _ _ n)))

  pub fold_no_room : at < length s → length s - at < 3 → false ≡ fold_at (drop at s)
  fold_no_room h l = go (fold_at (drop at s)) refl
    where
      go : (t : Bool) → fold_at (drop at s) ≡ t → false ≡ t
      go true e = absurd (omega (arith, fold_inside s at h e))
      go false e = refl

pub ruleset folds = (fold_blank, fold_no_feed, fold_no_return, fold_no_room, rules)

-- ---- the bytes kept from an index on

abbrev pub kept_at : List ℕ → ℕ → List ℕ
kept_at s at = kept_from (drop at s) 0

kept_past : (a b c : ℕ) (r : List ℕ) → fold_at (a ∷ b ∷ c ∷ r) ≡ true → kept_from (a ∷ b ∷ c ∷ r) 0 ≡ kept_from r 0
unfolding kept_from keep
kept_past a b c r e = rw e

kept_first : (a : ℕ) (r : List ℕ) → fold_at (a ∷ r) ≡ false → kept_from (a ∷ r) 0 ≡ a ∷ kept_from r 0
unfolding kept_from keep
kept_first a r e = rw e

kept_fold : (s : List ℕ) (at : ℕ) → at < length s → fold_at (drop at s) ≡ true → kept_at s at ≡ kept_at s (at + 3)
kept_fold s at h e =
    let t = three s at (omega (arith, fold_inside s at h e)) in
    ap (λ (l : List ℕ). kept_from l 0) t ∙ kept_past _ _ _ _ (sym (ap fold_at t) ∙ e)

kept_byte : (s : List ℕ) (at : ℕ) → at < length s → fold_at (drop at s) ≡ false → kept_at s at ≡ get_or s at 0 ∷ kept_at s (at + 1)
kept_byte s at h e = ap (λ (l : List ℕ). kept_from l 0) (drop_next s at h) ∙ kept_first _ _ (sym (ap fold_at (drop_next s at h)) ∙ e)

kept_end : (s : List ℕ) (at : ℕ) → length s ≤ at → kept_at s at ≡ []
unfolding kept_from
kept_end s at h = rw (drop_of_length-le s h)

-- s is unfolded up to an index, over d₀, which is d by now; n bytes are kept
pub record Unfolding (s d₀ : List ℕ) (at n : ℕ) (d : List ℕ) : Type 0 where
  pub high : at ≤ length s
  pub room : length s ≤ length d₀
  pub fewer : n ≤ at
  pub long : length d ≡ length d₀
  pub todo : Todo d₀ 0 (unfolded s) d n (kept_at s at)

pub unfolding_start : (s d : List ℕ) → length s ≤ length d → length d * 1 < 2 ^ 63 → Unfolding s d 0 0 d
unfolding_start s d h z = record { high = omega arith; room = h; fewer = omega arith; long = refl; todo = todo_all d 0 (unfolded s) z }

module _ {s d₀ : List ℕ} {at n : ℕ} {d : List ℕ} (u : Unfolding s d₀ at n d) where
  pub unfolding_fold : at < length s → fold_at (drop at s) ≡ true → Unfolding s d₀ (at + 3) n d
  unfolding_fold h e = record {
    high = fold_inside s at h e;
    room = u.room;
    fewer = omega (arith, u.fewer);
    long = u.long;
    todo = rw (kept_fold s at h e) at u.todo;
  }

  pub unfolding_byte : at < length s → fold_at (drop at s) ≡ false → Unfolding s d₀ (at + 1) (n + 1) (set d n (get_or s at 0))
  unfolding_byte h e =
      let z : length d * 1 < 2 ^ 63 = omega (arith, u.long, u.todo.sized) in
      record {
        high = omega arith;
        room = u.room;
        fewer = omega (arith, u.fewer);
        long = rw length-set u.long;
        todo = todo_step u.todo (put_set d n (get_or s at 0) (omega (arith, u.fewer, u.room, u.long)) z) (kept_byte s at h e);
      }

  pub unfolding_end : length s ≤ at → Unfolds s d₀ d n
  unfolding far
  unfolding_end h =
      let p : Put d₀ d 0 n (unfolded s) = todo_done u.todo (kept_end s at h) in
      let l = length-unfolded s in
      record {
        count = omega (arith, p.to, p.sized, u.room);
        is = p.is ∙ overwrite_fits d₀ (unfolded s) (omega (arith, u.room)) ∙ sym (append_is _ _);
      }

pub ruleset unfoldings = (unfolding_start, unfolding_fold, unfolding_byte, unfolding_end, flag_yes, flag_no, rules)

-- ---- the places of the bytes kept from an index on

abbrev places_at : List ℕ → ℕ → List ℕ
places_at s at = places_from (drop at s) at 0

places_past : (a b c : ℕ) (r : List ℕ) (p : ℕ) → fold_at (a ∷ b ∷ c ∷ r) ≡ true → places_from (a ∷ b ∷ c ∷ r) p 0 ≡ places_from r (p + 3) 0
unfolding places_from keep
places_past a b c r p e = let q : p + 1 + 1 + 1 ≡ p + 3 = omega arith in rw (e, q)

places_first : (a : ℕ) (r : List ℕ) (p : ℕ) → fold_at (a ∷ r) ≡ false → places_from (a ∷ r) p 0 ≡ p ∷ places_from r (p + 1) 0
unfolding places_from keep
places_first a r p e = rw e

places_fold : (s : List ℕ) (at : ℕ) → at < length s → fold_at (drop at s) ≡ true → places_at s at ≡ places_at s (at + 3)
places_fold s at h e =
    let t = three s at (omega (arith, fold_inside s at h e)) in
    ap (λ (l : List ℕ). places_from l at 0) t ∙ places_past _ _ _ _ at (sym (ap fold_at t) ∙ e)

places_byte : (s : List ℕ) (at : ℕ) → at < length s → fold_at (drop at s) ≡ false → places_at s at ≡ at ∷ places_at s (at + 1)
places_byte s at h e = ap (λ (l : List ℕ). places_from l at 0) (drop_next s at h) ∙ places_first _ _ at (sym (ap fold_at (drop_next s at h)) ∙ e)

places_end : (s : List ℕ) (at : ℕ) → length s ≤ at → places_at s at ≡ []
unfolding places_from
places_end s at h = rw (drop_of_length-le s h)

-- what is looked for is number `left` of the places from here on
pub record Left (s : List ℕ) (w at left : ℕ) : Type 0 where
  pub high : at ≤ length s
  pub same : origin s w ≡ get_or (places_at s at) left (length s)

pub left_start : (s : List ℕ) (w : ℕ) → Left s w 0 w
unfolding origin
left_start s w = record { high = omega arith; same = refl }

module _ {s : List ℕ} {w at left : ℕ} (m : Left s w at left) where
  pub left_fold : at < length s → fold_at (drop at s) ≡ true → Left s w (at + 3) left
  left_fold h e = record { high = fold_inside s at h e; same = m.same ∙ ap (λ (l : List ℕ). get_or l left (length s)) (places_fold s at h e) }

  pub left_here : at < length s → fold_at (drop at s) ≡ false → left ≡ 0 → at ≡ origin s w
  left_here h e z = sym (m.same ∙ rw (places_byte s at h e, z))

  pub left_byte : at < length s → fold_at (drop at s) ≡ false → (left ≡ 0 → ⊥) → Left s w (at + 1) (left - 1)
  left_byte h e n = record { high = omega arith; same = m.same ∙ rw (places_byte s at h e) (second left n) }
    where
      second : (k : ℕ) → (k ≡ 0 → ⊥) → get_or (at ∷ places_at s (at + 1)) k (length s) ≡ get_or (places_at s (at + 1)) (k - 1) (length s)
      second zero n = absurd (n refl)
      second (suc k) n = let q : suc k - 1 ≡ k = omega arith in rw q

  pub left_end : length s ≤ at → length s ≡ origin s w
  left_end h = sym (m.same ∙ rw (places_end s at h))

pub ruleset lefts = (left_start, left_fold, left_here, left_byte, left_end, flag_yes, flag_no, rules)
