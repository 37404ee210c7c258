-- Laws of what specs/Open.antt defines.
--     opened_push, opened_pop, opened_one, opened_none    one more, one less, one, none
--     closes_is    its law
--     room_is, room_low    its laws
use Rattle.std.specs.Prelude.{◌≡◌, refl, Bool, true, false, List, [], ◌∷◌, ℕ, zero, suc, ◌+◌, ◌-◌, ◌≤◌, ◌<◌, ltb, eqb, length, get_or, set, take}
use Rattle.std.proofs.Common.{sym, ap, arith, add-one, get_or-set_same, get_or-set_other, ltb-true, ne_eqb, eqb-true}
use Rattle.std.proofs.lemmas.Bool.{false≢true, eqb-false}
use Rattle.octets.specs.Pick.{pick}
use Rattle.octets.specs.Words.{same, is_empty}
use Rattle.source.specs.Source.{rest}
use Rattle.xml.specs.WellFormed.{onward, stop, has_room, closes_top}
use Rattle.read_xml_tokens.specs.Open.{opened, room_at, closes_at}

pub opened-length : (s a e : List ℕ) (d : ℕ) → length (opened s a e d) ≡ d
unfolding opened
opened-length s a e zero = refl
opened-length s a e (suc d) = ap suc (opened-length s a e d)

opened-set : (s a e : List ℕ) (d i v w : ℕ) → d ≤ i → opened s (set a i v) (set e i w) d ≡ opened s a e d
unfolding opened
opened-set s a e zero i v w h = refl
opened-set s a e (suc d) i v w h =
    rw (get_or-set_other a i d v 0 (omega arith), get_or-set_other e i d w 0 (omega arith), opened-set s a e d i v w (omega arith))

pub opened_push : (s a e : List ℕ) (d v w : ℕ) → d < length a → d < length e → opened s (set a d v) (set e d w) (d + 1) ≡ rest 0 (take w s) v ∷ opened s a e d
unfolding opened
opened_push s a e d v w h k =
    rw (add-one, get_or-set_same a d v 0 h, get_or-set_same e d w 0 k, opened-set s a e d d v w (omega arith))

pub opened_pop : (s a e : List ℕ) (d : ℕ) → (d ≡ 0 → ⊥) → opened s a e d ≡ rest 0 (take (get_or e (d - 1) 0) s) (get_or a (d - 1) 0) ∷ opened s a e (d - 1)
unfolding opened
opened_pop s a e d h = go d (d - 1) (omega (arith, h))
  where
    go : (d i : ℕ) → d ≡ suc i → opened s a e d ≡ rest 0 (take (get_or e i 0) s) (get_or a i 0) ∷ opened s a e i
    go d i q = rw q

pub opened_one : (s : List ℕ) (v w : ℕ) (a e : List ℕ) → opened s (v ∷ a) (w ∷ e) 1 ≡ rest 0 (take w s) v ∷ []
unfolding opened
opened_one s v w a e = refl

pub opened_none : (s a e : List ℕ) (d : ℕ) → d ≡ 0 → opened s a e d ≡ []
unfolding opened
opened_none s a e d h = rw h

pub opened_empty : (s a e : List ℕ) (d : ℕ) → is_empty (opened s a e d) ≡ eqb d 0
unfolding opened
opened_empty s a e zero = refl
opened_empty s a e (suc d) = sym (ne_eqb (suc d) 0 (λ q. omega arith))

pub room_is : (s a e : List ℕ) (d : ℕ) → has_room true (opened s a e d) ≡ room_at d
unfolding has_room
room_is s a e d = rw (opened_empty s a e d, opened-length s a e d)

pub room_low : (d : ℕ) → room_at d ≡ true → d < 32
unfolding pick
room_low d h = go (eqb d 0) h
  where
    go : (t : Bool) → pick t false (ltb d 32) ≡ true → d < 32
    go true k = absurd (false≢true k)
    go false k = ltb-true d 32 k

pub closes_is : (s a e : List ℕ) (d v w p : ℕ) → closes_top (rest 0 (take w s) v) true (opened s a e d) p ≡ pick (closes_at s a e d v w) (onward true (opened s a e (d - 1))) (stop p)
unfolding closes_top pick
closes_is s a e d v w p = go (eqb d 0) refl
  where
    top : List ℕ
    top = rest 0 (take (get_or e (d - 1) 0) s) (get_or a (d - 1) 0)

    go : (t : Bool) → eqb d 0 ≡ t →
        closes_top (rest 0 (take w s) v) true (opened s a e d) p ≡ pick (pick t false (same top (rest 0 (take w s) v))) (onward true (opened s a e (d - 1))) (stop p)
    go true q = rw (opened_none s a e d (eqb-true d 0 q))
    go false q = rw (opened_pop s a e d (eqb-false d 0 q))

pub closes_some : (s a e : List ℕ) (d v w : ℕ) → closes_at s a e d v w ≡ true → 1 ≤ d
unfolding pick
closes_some s a e zero v w h = absurd (false≢true h)
closes_some s a e (suc d) v w h = omega arith
