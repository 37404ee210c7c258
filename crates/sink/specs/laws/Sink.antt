-- Laws of what specs/Sink.antt defines.
--     ◌▷◌              one write after another
use Rattle.std.specs.Prelude.{◌≡◌, refl, Bool, true, false, List, [], ◌∷◌, ◌++◌, ℕ, zero, suc, ◌+◌, ◌^◌, ◌*◌, ◌≤◌, ◌<◌, length, get_or, set, drop}
use Rattle.std.proofs.Common.{sym, ap, ◌∙◌, zero-add, suc-add, arith, add-one, length-append, drop_of_length-le, drop-cons, rules, eq-eqb, ne_eqb}
use Rattle.std.proofs.Math.Decide.{dec_le}
use Rattle.octets.specs.Pick.{pick}
use Rattle.octets.specs.laws.Pick.{tests, eqb_other}
use Rattle.octets.specs.Append.{◌⊕◌}
use Rattle.sink.specs.Sink.{overwrite, far, Put, Todo}

-- ---- laws of overwrite

pub overwrite_empty : (at : ℕ) (bs : List ℕ) → overwrite [] at bs ≡ []
unfolding overwrite
overwrite_empty at bs = refl

pub length-overwrite : (d : List ℕ) (at : ℕ) (bs : List ℕ) → length (overwrite d at bs) ≡ length d
unfolding overwrite
length-overwrite [] at bs = refl
length-overwrite (x ∷ d) zero [] = refl
length-overwrite (x ∷ d) zero (b ∷ bs) = ap suc (length-overwrite d zero bs)
length-overwrite (x ∷ d) (suc at) bs = ap suc (length-overwrite d at bs)

pub overwrite_none : (d : List ℕ) (at : ℕ) → overwrite d at [] ≡ d
unfolding overwrite
overwrite_none [] at = refl
overwrite_none (x ∷ d) zero = refl
overwrite_none (x ∷ d) (suc at) = ap (λ (l : List ℕ). x ∷ l) (overwrite_none d at)

pub overwrite_one : (d : List ℕ) (at b : ℕ) → overwrite d at (b ∷ []) ≡ set d at b
unfolding overwrite
overwrite_one [] at b = refl
overwrite_one (x ∷ d) zero b = ap (λ (l : List ℕ). b ∷ l) (overwrite_none d zero)
overwrite_one (x ∷ d) (suc at) b = ap (λ (l : List ℕ). x ∷ l) (overwrite_one d at b)

-- what is written past the end is dropped
pub overwrite_past : (d : List ℕ) (at : ℕ) (bs : List ℕ) → length d ≤ at → overwrite d at bs ≡ d
unfolding overwrite
overwrite_past [] at bs h = refl
overwrite_past (x ∷ d) zero bs h = absurd (omega arith)
overwrite_past (x ∷ d) (suc at) bs h = ap (λ (l : List ℕ). x ∷ l) (overwrite_past d at bs (omega arith))

-- two writes, the second where the first ended, are one
pub overwrite_append : (d : List ℕ) (at : ℕ) (bs cs : List ℕ) → overwrite (overwrite d at bs) (at + length bs) cs ≡ overwrite d at (bs ++ cs)
unfolding overwrite
overwrite_append [] at bs cs = refl
overwrite_append (x ∷ d) zero [] cs = refl
overwrite_append (x ∷ d) zero (b ∷ bs) cs = rw (zero-add, ← (zero-add (length bs))) (ap (λ (l : List ℕ). b ∷ l) (overwrite_append d zero bs cs))
overwrite_append (x ∷ d) (suc at) bs cs = rw suc-add (ap (λ (l : List ℕ). x ∷ l) (overwrite_append d at bs cs))

-- what fits is there, and the rest of the list stays
pub overwrite_fits : (d bs : List ℕ) → length bs ≤ length d → overwrite d 0 bs ≡ bs ++ drop (length bs) d
unfolding overwrite
overwrite_fits [] [] h = refl
overwrite_fits [] (b ∷ bs) h = absurd (omega arith)
overwrite_fits (x ∷ d) [] h = refl
overwrite_fits (x ∷ d) (b ∷ bs) h = ap (λ (l : List ℕ). b ∷ l) (overwrite_fits d bs (omega arith))

-- ---- the index

far_far : (at a b : ℕ) → far (far at a) b ≡ far at (a + b)
unfolding far
far_far at a b = omega arith

-- a slice, which is shorter than 2 ^ 63, cannot tell where the index stopped
overwrite-far : (d : List ℕ) (at n : ℕ) (bs : List ℕ) → length d * 1 < 2 ^ 63 → overwrite d (far at n) bs ≡ overwrite d (at + n) bs
unfolding far
overwrite-far d at n bs h = go (dec_le (at + n) (2 ^ 63))
  where
    go : Dec (at + n ≤ 2 ^ 63) → overwrite d (far at n) bs ≡ overwrite d (at + n) bs
    go (yes p) = let e : far at n ≡ at + n = omega arith in rw e
    go (no p) =
        let q : length d ≤ at + n = omega arith in
        let f : length d ≤ far at n = omega arith in
        overwrite_past d (far at n) bs f ∙ sym (overwrite_past d (at + n) bs q)

-- ---- a write, as a function's contract states it

pub put_none : (d : List ℕ) (at : ℕ) → length d * 1 < 2 ^ 63 → Put d d at at []
unfolding far
put_none d at h = record { sized = h; to = omega arith; is = sym (overwrite_none d at) }

-- a byte is written where there is room, and dropped where there is none
pub put_set : (d : List ℕ) (at b : ℕ) → at < length d → length d * 1 < 2 ^ 63 → Put d (set d at b) at (at + 1) (b ∷ [])
unfolding far
put_set d at b l h = record { sized = h; to = omega arith; is = sym (overwrite_one d at b) }

pub put_past : (d : List ℕ) (at b : ℕ) → length d ≤ at → at < 2 ^ 63 → length d * 1 < 2 ^ 63 → Put d d at (at + 1) (b ∷ [])
unfolding far
put_past d at b l u h = record { sized = h; to = omega arith; is = sym (overwrite_past d at (b ∷ []) l) }

pub put_stop : (d : List ℕ) (at b : ℕ) → 2 ^ 63 ≤ at → length d * 1 < 2 ^ 63 → Put d d at at (b ∷ [])
unfolding far
put_stop d at b u h = record { sized = h; to = omega arith; is = sym (overwrite_past d at (b ∷ []) (omega arith)) }

-- a choice
module _ {d e : List ℕ} {at r : ℕ} where
  pub put_yes : (t : Bool) (bs cs : List ℕ) → t ≡ true → Put d e at r bs → Put d e at r (pick t bs cs)
  unfolding pick
  put_yes t bs cs h p = rw h p

  pub put_no : (t : Bool) (bs cs : List ℕ) → t ≡ false → Put d e at r cs → Put d e at r (pick t bs cs)
  unfolding pick
  put_no t bs cs h p = rw h p

-- one write after another
infixr 60 ◌▷◌
pub ◌▷◌ : {d e f : List ℕ} {at m r : ℕ} {bs cs : List ℕ} → Put d e at m bs → Put e f m r cs → Put d f at r (bs ⊕ cs)
unfolding far ◌⊕◌
◌▷◌ {d} {e} {f} {at} {m} {r} {bs} {cs} p q = record {
  sized = p.sized;
  to = omega (arith, p.to, q.to, length-append bs cs);
  is = q.is ∙ rw p.to (overwrite-far e at (length bs) cs q.sized ∙ rw p.is (overwrite_append d at bs cs));
}

-- a write keeps the length
pub put_length : {d e : List ℕ} {at r : ℕ} {bs : List ℕ} → Put d e at r bs → length e ≡ length d
put_length {d} {e} {at} {r} {bs} p = ap length p.is ∙ length-overwrite d at bs

-- ---- a loop that writes: what is left to write from here ends as all of it from the start does

pub todo_all : (d : List ℕ) (at : ℕ) (all : List ℕ) → length d * 1 < 2 ^ 63 → Todo d at all d at all
todo_all d at all h = record { sized = h; count = refl; ends = refl }

-- bs is written next
pub todo_step : {d₀ : List ℕ} {at₀ : ℕ} {all d : List ℕ} {at : ℕ} {rest e : List ℕ} {m : ℕ} {bs rest' : List ℕ} →
    Todo d₀ at₀ all d at rest → Put d e at m bs → rest ≡ bs ++ rest' → Todo d₀ at₀ all e m rest'
todo_step {d₀} {at₀} {all} {d} {at} {rest} {e} {m} {bs} {rest'} t p q =
    let n : length rest ≡ length bs + length rest' = ap length q ∙ length-append bs rest' in
    let s : length e * 1 < 2 ^ 63 = omega (arith, p.sized, ap length p.is, length-overwrite d at bs) in record {
      sized = t.sized;
      count = rw (p.to, far_far, ← n) t.count;
      ends = rw p.to (overwrite-far e at (length bs) rest' s ∙ rw (p.is, overwrite_append, ← q) t.ends);
    }

pub todo_done : {d₀ : List ℕ} {at₀ : ℕ} {all d : List ℕ} {at : ℕ} {rest : List ℕ} →
    Todo d₀ at₀ all d at rest → rest ≡ [] → Put d₀ d at₀ at all
unfolding far
todo_done {d₀} {at₀} {all} {d} {at} {rest} t q = record {
  sized = t.sized;
  to = omega (arith, t.count, ap length q);
  is = sym (overwrite_none d at) ∙ rw (← q) t.ends;
}

-- ---- a loop over the bytes of s, with `drop i s` left: it copies them, or writes `f` of each

unfoldable pub each : (ℕ → List ℕ) → List ℕ → List ℕ
each f [] = []
each f (x ∷ s) = f x ++ each f s

pub each-drop : (f : ℕ → List ℕ) (s : List ℕ) (i : ℕ) → i < length s → each f (drop i s) ≡ f (get_or s i 0) ++ each f (drop (i + 1) s)
unfolding each
each-drop f s i h = rw (add-one, drop-cons s i 0)

pub each_end : (f : ℕ → List ℕ) (s : List ℕ) (i : ℕ) → length s ≤ i → each f (drop i s) ≡ []
unfolding each
each_end f s i h = rw (drop_of_length-le s h)

module _ {d₀ : List ℕ} {at₀ : ℕ} {all d : List ℕ} {at : ℕ} where
  pub todo_copy : {e : List ℕ} {m : ℕ} (s : List ℕ) (i : ℕ) →
      Todo d₀ at₀ all d at (drop i s) → i < length s → Put d e at m (get_or s i 0 ∷ []) → Todo d₀ at₀ all e m (drop (i + 1) s)
  todo_copy s i t h p = todo_step t p (rw (add-one, drop-cons s i 0))

  pub todo_copied : (s : List ℕ) (i : ℕ) → Todo d₀ at₀ all d at (drop i s) → length s ≤ i → Put d₀ d at₀ at all
  todo_copied s i t h = todo_done t (drop_of_length-le s h)

  pub todo_each : {e : List ℕ} {m : ℕ} (f : ℕ → List ℕ) (s : List ℕ) (i : ℕ) →
      Todo d₀ at₀ all d at (each f (drop i s)) → i < length s → Put d e at m (f (get_or s i 0)) → Todo d₀ at₀ all e m (each f (drop (i + 1) s))
  todo_each f s i t h p = todo_step t p (each-drop f s i h)

  pub todo_eached : (f : ℕ → List ℕ) (s : List ℕ) (i : ℕ) → Todo d₀ at₀ all d at (each f (drop i s)) → length s ≤ i → Put d₀ d at₀ at all
  todo_eached f s i t h = todo_done t (each_end f s i h)

-- ---- what answers nearly every need of a writer: `search writing`
-- a writer that picks among many arms: `search choosing depth N`, with N above the number of arms
pub ruleset choosing = (put_yes, put_no, eqb_other, eq-eqb, ne_eqb)

pub ruleset writing = (put_set, put_past, put_stop, put_none, put_yes, put_no, ◌▷◌, todo_all, todo_copy, todo_copied, todo_each, todo_eached, tests, rules)
