-- Laws of what specs/Spell.antt defines.
--     spell_first      the check takes what is spelt for one character;   spell_good: it is well formed
use Rattle.std.specs.Prelude.{◌≡◌, refl, Bool, true, false, List, [], ◌∷◌, ℕ, ◌+◌, ◌/◌, ◌≤◌, ◌<◌, eqb, leb, ltb, length, None}
use Rattle.std.proofs.Common.{sym, ap, ◌∙◌, arith, lt-ltb, le-ltb, le-leb, leb-true, eqb-true, ne_eqb, ltb-true, ltb-false}
use Rattle.std.proofs.lemmas.Bool.{lt-leb}
use Rattle.octets.specs.Pick.{pick, within, ◌and◌}
use Rattle.octets.specs.laws.Pick.{pick_no, pick_either, within_yes, and_no_right, or_no, or_left, or_right, and_both, or_cases}
use Rattle.octets.specs.Scan.{all_of}
use Rattle.octets.specs.Append.{◌⊕◌}
use Rattle.octets.specs.laws.Append.{append_none}
use Rattle.octets.specs.Class.{is_tail}
use Rattle.utf8.specs.Utf8.{is_ascii, more, low, high, high_after, tails, bad_from, first_bad}
use Rattle.utf8.specs.laws.Utf8.{ascii_first}
use Rattle.utf8.specs.Spell.{tail_of, spell, is_character}

-- ASCII is spelt as itself, and what is not ASCII with no byte of it
pub spell_ascii : (c : ℕ) → c < 0x80 → spell c ≡ c ∷ []
unfolding spell pick
spell_ascii c h = rw (lt-ltb c 0x80 h)

high_none : all_of (leb 0x80) [] ≡ true
unfolding all_of
high_none = refl

high_more : (b : ℕ) (s : List ℕ) → 0x80 ≤ b → all_of (leb 0x80) s ≡ true → all_of (leb 0x80) (b ∷ s) ≡ true
unfolding all_of pick
high_more b s h k = rw (le-leb 0x80 b h) k

pub spell_high : (c : ℕ) → 0x80 ≤ c → all_of (leb 0x80) (spell c) ≡ true
unfolding spell
spell_high c h =
    rw (pick_no (ltb c 0x80) (c ∷ []) _ (le-ltb c 0x80 h)) (
    pick_either (λ (s : List ℕ). all_of (leb 0x80) s ≡ true) _ _ _ (high_more (0xC0 + c / 64) _ (omega arith) one) (
    pick_either (λ (s : List ℕ). all_of (leb 0x80) s ≡ true) _ _ _ (high_more (0xE0 + c / 4096) _ (omega arith) two)
    (high_more (0xF0 + c / 262144) _ (omega arith) (high_more (tail_of (c / 4096)) _ (omega arith) two))))
  where
    one : all_of (leb 0x80) (tail_of c ∷ []) ≡ true
    one = high_more (tail_of c) [] (omega arith) high_none

    two : all_of (leb 0x80) (tail_of (c / 64) ∷ tail_of c ∷ []) ≡ true
    two = high_more (tail_of (c / 64)) (tail_of c ∷ []) (omega arith) one

-- the lead bytes of sequences of two, three and four bytes
no_ascii : (a : ℕ) → 0x7F ≤ a → is_ascii a ≡ false
no_ascii a h =
    or_no _ _ (and_no_right _ _ (lt-leb a 0x7E (omega arith)))
    (or_no _ _ (ne_eqb a 9 (omega arith)) (or_no _ _ (ne_eqb a 10 (omega arith)) (ne_eqb a 13 (omega arith))))

more_two : (a : ℕ) → 0xC2 ≤ a → a ≤ 0xDF → more a ≡ 1
unfolding pick ◌and◌
more_two a l h = rw (no_ascii a (omega arith), le-leb 0xC2 a l, le-leb a 0xDF h)

more_three : (a : ℕ) → 0xE0 ≤ a → a ≤ 0xEF → more a ≡ 2
unfolding pick ◌and◌
more_three a l h = rw (no_ascii a (omega arith), le-leb 0xC2 a (omega arith), lt-leb a 0xDF (omega arith), le-leb 0xE0 a l, le-leb a 0xEF h)

more_four : (a : ℕ) → 0xF0 ≤ a → a ≤ 0xF4 → more a ≡ 3
unfolding pick ◌and◌
more_four a l h =
    rw (no_ascii a (omega arith), le-leb 0xC2 a (omega arith), lt-leb a 0xDF (omega arith), le-leb 0xE0 a (omega arith), lt-leb a 0xEF (omega arith), le-leb 0xF0 a l, le-leb a 0xF4 h)

-- the second byte is within the bounds of the first
second_within : (a b : ℕ) → (a ≡ 0xE0 → 0xA0 ≤ b) → (a ≡ 0xF0 → 0x90 ≤ b) → 0x80 ≤ b →
    (a ≡ 0xED → b ≤ 0x9F) → (a ≡ 0xF4 → b ≤ 0x8F) → b ≤ 0xBF → within (low a) (high a) b ≡ true
unfolding pick
second_within a b e0 f0 l ed f4 h =
    within_yes (low a) (high a) b (le-leb (low a) b (down (eqb a 0xE0) refl (eqb a 0xF0) refl)) (le-leb b (high a) (up (eqb a 0xED) refl (eqb a 0xF4) refl))
  where
    down : (t : Bool) → eqb a 0xE0 ≡ t → (u : Bool) → eqb a 0xF0 ≡ u → pick t 0xA0 (pick u 0x90 0x80) ≤ b
    down true e u f = e0 (eqb-true a 0xE0 e)
    down false e true f = f0 (eqb-true a 0xF0 f)
    down false e false f = l

    up : (t : Bool) → eqb a 0xED ≡ t → (u : Bool) → eqb a 0xF4 ≡ u → b ≤ pick t 0x9F (pick u 0x8F 0xBF)
    up true e u f = ed (eqb-true a 0xED e)
    up false e true f = f4 (eqb-true a 0xF4 f)
    up false e false f = h

third_within : (a b d : ℕ) → (a ≡ 0xEF → b ≡ 0xBF → d ≤ 0xBD) → is_tail d ≡ true → within 0x80 (high_after (eqb a 0xEF) b) d ≡ true
unfolding pick ◌and◌
third_within a b d h t = go (eqb a 0xEF) refl (eqb b 0xBF) refl
  where
    go : (u : Bool) → eqb a 0xEF ≡ u → (v : Bool) → eqb b 0xBF ≡ v → within 0x80 (pick (u and v) 0xBD 0xBF) d ≡ true
    go true e true f = within_yes 0x80 0xBD d (and_both (leb 0x80 d) (leb d 0xBF) t).0 (le-leb d 0xBD (h (eqb-true a 0xEF e) (eqb-true b 0xBF f)))
    go true e false f = t
    go false e v f = t

tail_of_lem : (n : ℕ) → is_tail (tail_of n) ≡ true
tail_of_lem n = within_yes 0x80 0xBF (tail_of n) (le-leb 0x80 (tail_of n) (omega arith)) (le-leb (tail_of n) 0xBF (omega arith))

-- whole sequences
two_first : (a b i : ℕ) (s : List ℕ) → more a ≡ 1 → within (low a) (high a) b ≡ true → bad_from 0 i (a ∷ b ∷ s) ≡ bad_from 0 (i + 2) s
unfolding bad_from tails pick ◌and◌
two_first a b i s m h = rw (m, h) (ap (λ (n : ℕ). bad_from 0 n s) (omega arith))

three_first : (a b d i : ℕ) (s : List ℕ) → more a ≡ 2 → within (low a) (high a) b ≡ true → within 0x80 (high_after (eqb a 0xEF) b) d ≡ true →
    bad_from 0 i (a ∷ b ∷ d ∷ s) ≡ bad_from 0 (i + 3) s
unfolding bad_from tails pick ◌and◌
three_first a b d i s m h k = rw (m, h, k) (ap (λ (n : ℕ). bad_from 0 n s) (omega arith))

four_first : (a b d e i : ℕ) (s : List ℕ) → more a ≡ 3 → within (low a) (high a) b ≡ true → eqb a 0xEF ≡ false → is_tail d ≡ true → is_tail e ≡ true →
    bad_from 0 i (a ∷ b ∷ d ∷ e ∷ s) ≡ bad_from 0 (i + 4) s
unfolding bad_from tails pick ◌and◌
four_first a b d e i s m h n p q = rw (m, h, n, p, q) (ap (λ (n : ℕ). bad_from 0 n s) (omega arith))

-- what is spelt is one character
abbrev First : ℕ → Type 0
First c = (i : ℕ) (s : List ℕ) → bad_from 0 i (spell c ⊕ s) ≡ bad_from 0 (i + length (spell c)) s

spelt_one : (c : ℕ) → c < 0x80 → is_ascii c ≡ true → First c
unfolding spell pick ◌⊕◌
spelt_one c l h i s = rw (lt-ltb c 0x80 l) (ascii_first c i s h)

spelt_two : (c : ℕ) → 0x80 ≤ c → c < 0x800 → First c
unfolding spell pick ◌⊕◌
spelt_two c l h i s =
    rw (le-ltb c 0x80 l, lt-ltb c 0x800 h) (
    two_first (0xC0 + c / 64) (tail_of c) i s (more_two (0xC0 + c / 64) (omega arith) (omega arith))
    (second_within (0xC0 + c / 64) (tail_of c) (omega arith) (omega arith) (omega arith) (omega arith) (omega arith) (omega arith)))

-- below U+FFFE; a surrogate would be ED and a byte above 9F
spelt_three : (c : ℕ) → 0x800 ≤ c → c ≤ 0xFFFD → (0xE0 + c / 4096 ≡ 0xED → tail_of (c / 64) ≤ 0x9F) → First c
unfolding spell pick ◌⊕◌
spelt_three c l h n i s =
    rw (le-ltb c 0x80 (omega arith), le-ltb c 0x800 l, lt-ltb c 0x10000 (omega arith)) (
    three_first (0xE0 + c / 4096) (tail_of (c / 64)) (tail_of c) i s (more_three (0xE0 + c / 4096) (omega arith) (omega arith))
    (second_within (0xE0 + c / 4096) (tail_of (c / 64)) (omega arith) (omega arith) (omega arith) n (omega arith) (omega arith))
    (third_within (0xE0 + c / 4096) (tail_of (c / 64)) (tail_of c) (omega arith) (tail_of_lem c)))

spelt_four : (c : ℕ) → 0x10000 ≤ c → c ≤ 0x10FFFF → First c
unfolding spell pick ◌⊕◌
spelt_four c l h i s =
    rw (le-ltb c 0x80 (omega arith), le-ltb c 0x800 (omega arith), le-ltb c 0x10000 (omega arith)) (
    four_first (0xF0 + c / 262144) (tail_of (c / 4096)) (tail_of (c / 64)) (tail_of c) i s (more_four (0xF0 + c / 262144) (omega arith) (omega arith))
    (second_within (0xF0 + c / 262144) (tail_of (c / 4096)) (omega arith) (omega arith) (omega arith) (omega arith) (omega arith) (omega arith))
    (ne_eqb (0xF0 + c / 262144) 0xEF (omega arith)) (tail_of_lem (c / 64)) (tail_of_lem c))

pub spell_first : (c : ℕ) → is_character c ≡ true → (i : ℕ) (s : List ℕ) → bad_from 0 i (spell c ⊕ s) ≡ bad_from 0 (i + length (spell c)) s
unfolding is_character
spell_first c h =
    or_cases (within 0x20 0x7E c) _ h (λ e. let l = bounds 0x20 0x7E e in spelt_one c (omega arith) (or_left _ _ e)) (λ h.
    or_cases (eqb c 9) _ h (λ e. let l = eqb-true c 9 e in spelt_one c (omega arith) (or_right _ _ (or_left _ _ e))) (λ h.
    or_cases (eqb c 10) _ h (λ e. let l = eqb-true c 10 e in spelt_one c (omega arith) (or_right _ _ (or_right _ _ (or_left _ _ e)))) (λ h.
    or_cases (within 0x80 0xD7FF c) _ h (λ e. let l = bounds 0x80 0xD7FF e in short (ltb c 0x800) refl l.0 l.1) (λ h.
    or_cases (within 0xE000 0xFFFD c) _ h (λ e. let l = bounds 0xE000 0xFFFD e in spelt_three c (omega arith) l.1 (omega arith)) (λ e.
    let l = bounds 0x10000 0x10FFFF e in spelt_four c l.0 l.1)))))
  where
    bounds : (lo hi : ℕ) → within lo hi c ≡ true → (lo ≤ c) × (c ≤ hi)
    bounds lo hi e = let f = and_both (leb lo c) (leb c hi) e in (leb-true lo c f.0, leb-true c hi f.1)

    short : (t : Bool) → ltb c 0x800 ≡ t → 0x80 ≤ c → c ≤ 0xD7FF → First c
    short true e l h = spelt_two c l (ltb-true c 0x800 e)
    short false e l h = spelt_three c (ltb-false c 0x800 e) (omega arith) (omega arith)

pub spell_good : (c : ℕ) → is_character c ≡ true → first_bad (spell c) ≡ None
unfolding bad_from
spell_good c h = ap first_bad (sym (append_none (spell c))) ∙ spell_first c h 0 []
