-- The pieces of a text, whether escaped or cut at a separator, are well formed where the text is: only whole characters of ASCII are taken away.
--     split_good      of escaped text
--     cut_good        of a text that is cut
use Rattle.std.specs.Prelude.{◌≡◌, refl, Bool, true, false, List, [], ◌∷◌, ℕ, zero, suc, ◌+◌, ◌≤◌, eqb, leb, Option, None, Some}
use Rattle.std.proofs.Common.{sym, ◌∙◌, arith, leb-true, ne_eqb, eqb-true}
use Prim.{Unit, tt}
use Rattle.std.proofs.lemmas.Bool.{lt-leb}
use Rattle.octets.specs.Pick.{pick, within, ◌and◌, ◌or◌}
use Rattle.octets.specs.laws.Pick.{pick_either, pick_case, and_yes, and_both, and_no_right, or_no, or_cases}
use Rattle.octets.specs.Words.{onto, cut_at}
use Rattle.octets.specs.Lists.{every}
use Rattle.octets.specs.Reading.{cons_read}
use Rattle.octets.specs.laws.Reading.{none-some}
use Rattle.utf8.specs.Utf8.{is_ascii, more, low, high, high_after, tails, is_sequence, bad_from, first_bad, well_formed}
use Rattle.utf8.specs.laws.Utf8.{good_well_formed, ascii_first, low_least}
use Rattle.texts.specs.Text.{Sign, char, opening, separator, fault, is_escaped, is_break, sign_of, opens, onto_read, with_sign, split_from, split_text}
use Rattle.text.proofs.laws.EscapedCharacters.{one_good, Spelled}

-- ---- the first piece ends a character, and all others are well formed

abbrev Pieced : ℕ → ℕ → ℕ → Bool → List (List ℕ) → Type 0
Pieced k lo hi l [] = ⊥
Pieced k lo hi l (p ∷ ps) = Spelled k lo hi l p × (every well_formed ps ≡ true)

onto_tail : (a k lo hi : ℕ) (l : Bool) (qs : List (List ℕ)) → within lo hi a ≡ true → Pieced k 0x80 (high_after l a) false qs → Pieced (suc k) lo hi l (onto a qs)
unfolding onto tails bad_from
onto_tail a k lo hi l [] w h = absurd h
onto_tail a k lo hi l (q ∷ qs) w h = (record { begun = and_yes _ _ w h.0.begun; onward = λ j. h.0.onward (j + 1) }, h.1)

onto_lead : (a lo hi : ℕ) (l : Bool) (qs : List (List ℕ)) → leb (more a) 3 ≡ true → Pieced (more a) (low a) (high a) (eqb a 0xEF) qs → Pieced 0 lo hi l (onto a qs)
unfolding onto tails
onto_lead a lo hi l [] w h = absurd h
onto_lead a lo hi l (q ∷ qs) w h = (record { begun = refl; onward = λ j. one_good a j q (and_yes _ _ w h.0.begun) (h.0.onward (j + 1)) }, h.1)

lf_ascii : is_ascii 10 ≡ true
unfolding ◌and◌ ◌or◌
lf_ascii = refl

onto_lf : (x y lo hi : ℕ) (m l : Bool) (qs : List (List ℕ)) → Pieced 0 x y m qs → Pieced 0 lo hi l (onto 10 qs)
unfolding onto tails
onto_lf x y lo hi m l [] h = absurd h
onto_lf x y lo hi m l (q ∷ qs) h = (record { begun = refl; onward = λ j. ascii_first 10 j q lf_ascii ∙ h.0.onward (j + 1) }, h.1)

with_empty : (x y lo hi : ℕ) (m l : Bool) (qs : List (List ℕ)) → Pieced 0 x y m qs → Pieced 0 lo hi l ([] ∷ qs)
unfolding tails bad_from every
with_empty x y lo hi m l [] h = absurd h
with_empty x y lo hi m l (q ∷ qs) h = (record { begun = refl; onward = λ j. refl }, and_yes _ _ (good_well_formed q (h.0.onward 0)) h.1)

whole_again : (x y lo hi : ℕ) (m l : Bool) (qs : List (List ℕ)) → Pieced 0 x y m qs → Pieced 0 lo hi l qs
unfolding tails
whole_again x y lo hi m l [] h = h
whole_again x y lo hi m l (q ∷ qs) h = (record { begun = refl; onward = h.0.onward }, h.1)

pieces_good : (lo hi : ℕ) (l : Bool) (qs : List (List ℕ)) → Pieced 0 lo hi l qs → every well_formed qs ≡ true
unfolding every
pieces_good lo hi l [] h = refl
pieces_good lo hi l (q ∷ qs) h = and_yes _ _ (good_well_formed q (h.0.onward 0)) h.1

-- ---- bytes

ascii_more : (a : ℕ) → is_ascii a ≡ true → more a ≡ 0
unfolding pick
ascii_more a h = rw h

high_ascii : (a : ℕ) → 0x80 ≤ a → is_ascii a ≡ false
high_ascii a h =
    or_no _ _ (and_no_right _ _ (lt-leb a 0x7E (omega arith)))
    (or_no _ _ (ne_eqb a 9 (λ e. omega arith)) (or_no _ _ (ne_eqb a 10 (λ e. omega arith)) (ne_eqb a 13 (λ e. omega arith))))

some_more : (a : ℕ) → is_ascii a ≡ false → 1 ≤ more a
unfolding pick
some_more a h = rw h (go (within 0xC2 0xDF a) (within 0xE0 0xEF a) (within 0xF0 0xF4 a))
  where
    go : (x y z : Bool) → 1 ≤ pick x 1 (pick y 2 (pick z 3 4))
    go true y z = omega arith
    go false true z = omega arith
    go false false true = omega arith
    go false false false = omega arith

high_more : (a : ℕ) → 0x80 ≤ a → 1 ≤ more a
high_more a h = some_more a (high_ascii a h)

one_more : (a c : ℕ) → is_ascii c ≡ true → eqb a c ≡ true → more a ≡ 0
one_more a c h e = ascii_more a (rw (eqb-true a c e) h)

-- what a byte is: itself, or a byte of ASCII that goes
sign_cases : (P : Sign → Type 0) (after : Bool) (c a : ℕ) → P (char a) → (more a ≡ 0 → P (char 10)) → (more a ≡ 0 → P opening) → (more a ≡ 0 → P separator) → P fault → P (sign_of after c a)
unfolding ◌and◌ ◌or◌
sign_cases P after c a itself lf open₁ between none₁ =
    pick_either P after _ _
    (pick_case P (eqb a 110 or eqb a 78) (char 10) _ (λ e. lf (or_cases (eqb a 110) (eqb a 78) e (one_more a 110 refl) (one_more a 78 refl)))
    (λ e. pick_either P (is_escaped a) (char a) fault itself none₁))
    (pick_case P (eqb a 92) opening _ (λ e. open₁ (one_more a 92 refl e))
    (λ e. pick_case P (is_break a) _ (char a) (λ f. pick_either P (eqb a c) separator fault (between (or_cases (eqb a 44) (eqb a 59) f (one_more a 44 refl) (one_more a 59 refl))) none₁) (λ f. itself)))

-- ---- escaped text

abbrev PiecedRead : ℕ → ℕ → ℕ → Bool → Option (List (List ℕ)) → Type 0
PiecedRead k lo hi l None = Unit {0}
PiecedRead k lo hi l (Some ps) = Pieced k lo hi l ps

end_read : (after : Bool) (k lo hi : ℕ) (l : Bool) → tails k lo hi l [] ≡ true → PiecedRead k lo hi l (pick after None (Some ([] ∷ [])))
unfolding pick bad_from every
end_read true k lo hi l t = tt
end_read false k lo hi l t = (record { begun = t; onward = λ j. refl }, refl)

tail_read : (a k lo hi : ℕ) (l : Bool) (o : Option (List (List ℕ))) → within lo hi a ≡ true → PiecedRead k 0x80 (high_after l a) false o → PiecedRead (suc k) lo hi l (onto_read a o)
unfolding onto_read
tail_read a k lo hi l None w h = tt
tail_read a k lo hi l (Some qs) w h = onto_tail a k lo hi l qs w h

lead_read : (a lo hi : ℕ) (l : Bool) (o : Option (List (List ℕ))) → leb (more a) 3 ≡ true → PiecedRead (more a) (low a) (high a) (eqb a 0xEF) o → PiecedRead 0 lo hi l (onto_read a o)
unfolding onto_read
lead_read a lo hi l None w h = tt
lead_read a lo hi l (Some qs) w h = onto_lead a lo hi l qs w h

lf_read : (x y lo hi : ℕ) (m l : Bool) (o : Option (List (List ℕ))) → PiecedRead 0 x y m o → PiecedRead 0 lo hi l (onto_read 10 o)
unfolding onto_read
lf_read x y lo hi m l None h = tt
lf_read x y lo hi m l (Some qs) h = onto_lf x y lo hi m l qs h

open_read : (x y lo hi : ℕ) (m l : Bool) (o : Option (List (List ℕ))) → PiecedRead 0 x y m o → PiecedRead 0 lo hi l o
open_read x y lo hi m l None h = tt
open_read x y lo hi m l (Some qs) h = whole_again x y lo hi m l qs h

between_read : (x y lo hi : ℕ) (m l : Bool) (o : Option (List (List ℕ))) → PiecedRead 0 x y m o → PiecedRead 0 lo hi l (cons_read [] o)
unfolding cons_read
between_read x y lo hi m l None h = tt
between_read x y lo hi m l (Some qs) h = with_empty x y lo hi m l qs h

split_from_lem : (s : List ℕ) (after : Bool) (k lo hi : ℕ) (l : Bool) (i c : ℕ) → 0x80 ≤ lo → tails k lo hi l s ≡ true → bad_from k i s ≡ None → PiecedRead k lo hi l (split_from after c s)
unfolding split_from tails bad_from pick
split_from_lem [] after k lo hi l i c b t h = end_read after k lo hi l t
split_from_lem (a ∷ s) after (suc k) lo hi l i c b t h =
    let e = and_both (within lo hi a) _ t in
    let g = leb-true lo a (and_both _ _ e.0).0 in
    let m : 1 ≤ more a = high_more a (omega arith) in
    let ih = split_from_lem s (opens after a) k 0x80 (high_after l a) false (i + 1) c (omega arith) e.1 h in
    sign_cases (λ g. PiecedRead (suc k) lo hi l (with_sign g (split_from (opens after a) c s))) after c a
    (tail_read a k lo hi l (split_from (opens after a) c s) e.0 ih) (λ z. absurd (omega arith)) (λ z. absurd (omega arith)) (λ z. absurd (omega arith)) tt
split_from_lem (a ∷ s) after zero lo hi l i c b t h = go (is_sequence a s) refl h (split_from_lem s (opens after a) (more a) (low a) (high a) (eqb a 0xEF) (i + 1) c (low_least a))
  where
    go : (u : Bool) → is_sequence a s ≡ u → pick u (bad_from (more a) (i + 1) s) (Some i) ≡ None →
        (tails (more a) (low a) (high a) (eqb a 0xEF) s ≡ true → bad_from (more a) (i + 1) s ≡ None → PiecedRead (more a) (low a) (high a) (eqb a 0xEF) (split_from (opens after a) c s)) →
        PiecedRead 0 lo hi l (with_sign (sign_of after c a) (split_from (opens after a) c s))
    go false e k ih = none-some (sym k)
    go true e k ih =
        let f = and_both (leb (more a) 3) _ e in
        let d = ih f.1 k in
        sign_cases (λ g. PiecedRead 0 lo hi l (with_sign g (split_from (opens after a) c s))) after c a
        (lead_read a lo hi l (split_from (opens after a) c s) f.0 d)
        (λ z. lf_read (low a) (high a) lo hi (eqb a 0xEF) l (split_from (opens after a) c s) (rw z at d))
        (λ z. open_read (low a) (high a) lo hi (eqb a 0xEF) l (split_from (opens after a) c s) (rw z at d))
        (λ z. between_read (low a) (high a) lo hi (eqb a 0xEF) l (split_from (opens after a) c s) (rw z at d))
        tt

pub split_good : (c : ℕ) (s : List ℕ) (ps : List (List ℕ)) → first_bad s ≡ None → split_text c s ≡ Some ps → every well_formed ps ≡ true
unfolding tails
split_good c s ps h e = pieces_good 0x80 0xBF false ps (rw e at (split_from_lem s false 0 0x80 0xBF false 0 c (omega arith) refl h))

-- ---- a text that is cut

cut_from : (s : List ℕ) (k lo hi : ℕ) (l : Bool) (i c : ℕ) → is_ascii c ≡ true → 0x80 ≤ lo → tails k lo hi l s ≡ true → bad_from k i s ≡ None → Pieced k lo hi l (cut_at c s)
unfolding cut_at tails bad_from pick every
cut_from [] k lo hi l i c n b t h = (record { begun = t; onward = λ j. refl }, refl)
cut_from (a ∷ s) (suc k) lo hi l i c n b t h =
    let e = and_both (within lo hi a) _ t in
    let g = leb-true lo a (and_both _ _ e.0).0 in
    let m : 1 ≤ more a = high_more a (omega arith) in
    let ih = cut_from s k 0x80 (high_after l a) false (i + 1) c n (omega arith) e.1 h in
    pick_case (Pieced (suc k) lo hi l) (eqb a c) ([] ∷ cut_at c s) (onto a (cut_at c s)) (λ f. let z = one_more a c n f in absurd (omega arith)) (λ f. onto_tail a k lo hi l (cut_at c s) e.0 ih)
cut_from (a ∷ s) zero lo hi l i c n b t h = go (is_sequence a s) refl h (cut_from s (more a) (low a) (high a) (eqb a 0xEF) (i + 1) c n (low_least a))
  where
    go : (u : Bool) → is_sequence a s ≡ u → pick u (bad_from (more a) (i + 1) s) (Some i) ≡ None →
        (tails (more a) (low a) (high a) (eqb a 0xEF) s ≡ true → bad_from (more a) (i + 1) s ≡ None → Pieced (more a) (low a) (high a) (eqb a 0xEF) (cut_at c s)) →
        Pieced 0 lo hi l (pick (eqb a c) ([] ∷ cut_at c s) (onto a (cut_at c s)))
    go false e k ih = none-some (sym k)
    go true e k ih =
        let f = and_both (leb (more a) 3) _ e in
        let d = ih f.1 k in
        pick_case (Pieced 0 lo hi l) (eqb a c) ([] ∷ cut_at c s) (onto a (cut_at c s))
        (λ g. with_empty (low a) (high a) lo hi (eqb a 0xEF) l (cut_at c s) (rw (one_more a c n g) at d))
        (λ g. onto_lead a lo hi l (cut_at c s) f.0 d)

pub cut_good : (c : ℕ) (s : List ℕ) → is_ascii c ≡ true → first_bad s ≡ None → every well_formed (cut_at c s) ≡ true
unfolding tails
cut_good c s n h = pieces_good 0x80 0xBF false (cut_at c s) (cut_from s 0 0x80 0xBF false 0 c n (omega arith) refl h)
