-- Laws of strings as they are written.
--     text_bytes      each byte of a text is one that a string may hold, or has an escape
--     escaped_good    with its escapes a text is still well formed
--     quoted_front    a string in front of what follows
use Rattle.std.specs.Prelude.{◌≡◌, refl, Bool, true, false, not, List, [], ◌∷◌, ℕ, zero, suc, ◌+◌, ◌≤◌, eqb, leb, None, Some}
use Rattle.std.proofs.Common.{sym, ap, ◌∙◌, append_assoc, arith, ne_eqb, eqb-true, le-leb}
use Rattle.std.proofs.lemmas.Bool.{false≢true, not-true}
use Rattle.octets.specs.Ascii.{ascii}
use Rattle.octets.specs.Pick.{pick, ◌and◌, ◌or◌, within}
use Rattle.octets.specs.laws.Pick.{and_both, and_yes, or_left, or_right, or_cases, within_range}
use Rattle.octets.specs.Append.{◌⊕◌}
use Rattle.octets.specs.Scan.{all_of}
use Rattle.octets.specs.laws.Scan.{all_cons}
use Rattle.octets.specs.Class.{is_visible}
use Rattle.octets.specs.Words.{holds}
use Rattle.octets.specs.laws.Words.{holds_split}
use Rattle.octets.specs.laws.Reading.{none-some}
use Rattle.utf8.specs.Utf8.{is_ascii, more, low, high, high_after, tails, is_sequence, bad_from, first_bad}
use Rattle.utf8.specs.laws.Utf8.{well_formed_good, bad_append, visible_good, low_least}
use Rattle.json_text.specs.Write.{escaped, quoted}
use Rattle.json_text.specs.Written.{is_text}

pub quoted_front : (s r : List ℕ) → quoted s ⊕ r ≡ 34 ∷ (escaped s ⊕ (34 ∷ r))
unfolding ◌⊕◌
quoted_front s r = ap (λ (l : List ℕ). 34 ∷ l) (append_assoc (escaped s) (34 ∷ []) r)

-- ---- bytes of a text

-- from the space on; LF, TAB
abbrev pub is_string_byte : ℕ → Bool
is_string_byte b = leb 32 b or eqb b 10 or eqb b 9

high_byte : (b : ℕ) → 32 ≤ b → is_string_byte b ≡ true
high_byte b h = or_left _ _ (le-leb 32 b h)

-- a byte that a character begins with, and is not CR
lead_byte : (a : ℕ) → eqb 13 a ≡ false → leb (more a) 3 ≡ true → is_string_byte a ≡ true
unfolding pick
lead_byte a c h = go (is_ascii a) refl (within 0xC2 0xDF a) refl (within 0xE0 0xEF a) refl (within 0xF0 0xF4 a) refl h
  where
    plain : is_ascii a ≡ true → is_string_byte a ≡ true
    plain e =
        or_cases (within 0x20 0x7E a) _ e (λ w. high_byte a (within_range 0x20 0x7E a w).0)
        (λ e. or_cases (eqb a 9) _ e (λ n. or_right _ _ (or_right _ _ n))
        (λ e. or_cases (eqb a 10) _ e (λ n. or_right _ _ (or_left _ _ n))
        (λ n. absurd (false≢true (sym c ∙ rw (eqb-true a 13 n))))))

    go : (t : Bool) → is_ascii a ≡ t → (u : Bool) → within 0xC2 0xDF a ≡ u → (v : Bool) → within 0xE0 0xEF a ≡ v → (w : Bool) → within 0xF0 0xF4 a ≡ w →
        leb (pick t 0 (pick u 1 (pick v 2 (pick w 3 4)))) 3 ≡ true → is_string_byte a ≡ true
    go true e u f v g w k h = plain e
    go false e true f v g w k h = let r = within_range 0xC2 0xDF a f in high_byte a (omega arith)
    go false e false f true g w k h = let r = within_range 0xE0 0xEF a g in high_byte a (omega arith)
    go false e false f false g true k h = let r = within_range 0xF0 0xF4 a k in high_byte a (omega arith)
    go false e false f false g false k h = absurd (false≢true h)

-- after the first k bytes, which are of a character that began before
bytes_from : (s : List ℕ) (k i lo hi : ℕ) (l : Bool) → 0x80 ≤ lo → tails k lo hi l s ≡ true → bad_from k i s ≡ None → holds 13 s ≡ false → all_of is_string_byte s ≡ true
unfolding bad_from tails all_of pick
bytes_from [] k i lo hi l g t h c = refl
bytes_from (b ∷ s) (suc k) i lo hi l g t h c =
    let a = and_both (within lo hi b) _ t in
    let r = within_range lo hi b a.0 in
    rw (high_byte b (omega arith)) (bytes_from s k (i + 1) 0x80 (high_after l b) false (omega arith) a.1 h (holds_split 13 b s c).1)
bytes_from (a ∷ s) zero i lo hi l g t h c = go (is_sequence a s) refl h (λ k i lo hi l. bytes_from s k i lo hi l)
  where
    go : (u : Bool) → is_sequence a s ≡ u → pick u (bad_from (more a) (i + 1) s) (Some i) ≡ None →
        ((k i lo hi : ℕ) (l : Bool) → 0x80 ≤ lo → tails k lo hi l s ≡ true → bad_from k i s ≡ None → holds 13 s ≡ false → all_of is_string_byte s ≡ true) → all_of is_string_byte (a ∷ s) ≡ true
    go false e h ih = none-some (sym h)
    go true e h ih =
        let b = and_both (leb (more a) 3) _ e in
        let d = holds_split 13 a s c in
        all_cons is_string_byte a s (lead_byte a d.0 b.0) (ih (more a) (i + 1) (low a) (high a) (eqb a 0xEF) (low_least a) b.1 h d.1)

text_parts : (s : List ℕ) → is_text s ≡ true → (holds 13 s ≡ false) × (first_bad s ≡ None)
unfolding is_text
text_parts s h = let a = and_both (not (holds 13 s)) _ h in (not-true _ a.0, well_formed_good s a.1)

pub text_bytes : (s : List ℕ) → is_text s ≡ true → all_of is_string_byte s ≡ true
unfolding tails
text_bytes s h = let a = text_parts s h in bytes_from s 0 0 0x80 0x80 false (omega arith) refl a.1 a.0

-- ---- escapes

-- a byte above ASCII stands as it is
high_stays : (b : ℕ) (s : List ℕ) → 0x80 ≤ b → escaped (b ∷ s) ≡ b ∷ escaped s
unfolding escaped pick ◌⊕◌
high_stays b s h = rw (ne_eqb b 34 (λ e. omega arith), ne_eqb b 92 (λ e. omega arith), ne_eqb b 10 (λ e. omega arith), ne_eqb b 9 (λ e. omega arith))

-- what a byte becomes, by cases
escaped_case : (P : List ℕ → Type 0) (b : ℕ) (s : List ℕ) → (is_ascii b ≡ true → (w : List ℕ) → all_of is_visible w ≡ true → P (w ⊕ escaped s)) → P (b ∷ escaped s) → P (escaped (b ∷ s))
unfolding escaped pick ◌and◌ ◌or◌ ◌⊕◌ all_of
escaped_case P b s f g = go (eqb b 34) refl (eqb b 92) refl (eqb b 10) refl (eqb b 9) refl
  where
    go : (t : Bool) → eqb b 34 ≡ t → (u : Bool) → eqb b 92 ≡ u → (v : Bool) → eqb b 10 ≡ v → (w : Bool) → eqb b 9 ≡ w →
        P (pick t (ascii "\\\"") (pick u (ascii "\\\\") (pick v (ascii "\\n") (pick w (ascii "\\t") (b ∷ [])))) ⊕ escaped s)
    go true e u k v m w q = f (rw (eqb-true b 34 e)) (ascii "\\\"") refl
    go false e true k v m w q = f (rw (eqb-true b 92 k)) (ascii "\\\\") refl
    go false e false k true m w q = f (rw (eqb-true b 10 m)) (ascii "\\n") refl
    go false e false k false m true q = f (rw (eqb-true b 9 q)) (ascii "\\t") refl
    go false e false k false m false q = g

tails-escaped : (s : List ℕ) (n lo hi : ℕ) (l : Bool) → 0x80 ≤ lo → tails n lo hi l s ≡ true → tails n lo hi l (escaped s) ≡ true
unfolding tails
tails-escaped s zero lo hi l g h = refl
tails-escaped [] (suc n) lo hi l g h = absurd (false≢true h)
tails-escaped (b ∷ s) (suc n) lo hi l g h =
    let a = and_both (within lo hi b) _ h in
    let r = within_range lo hi b a.0 in
    rw (high_stays b s (omega arith)) (and_yes _ _ a.0 (tails-escaped s n 0x80 (high_after l b) false (omega arith) a.1))

from_escaped : (s : List ℕ) (k i j lo hi : ℕ) (l : Bool) → 0x80 ≤ lo → tails k lo hi l s ≡ true → bad_from k i s ≡ None → bad_from k j (escaped s) ≡ None
unfolding bad_from tails escaped pick ◌and◌
from_escaped [] k i j lo hi l g t h = refl
from_escaped (b ∷ s) (suc k) i j lo hi l g t h =
    let a = and_both (within lo hi b) _ t in
    let r = within_range lo hi b a.0 in
    rw (high_stays b s (omega arith)) (from_escaped s k (i + 1) (j + 1) 0x80 (high_after l b) false (omega arith) a.1 h)
from_escaped (a ∷ s) zero i j lo hi l g t h = go (is_sequence a s) refl h (λ k i j lo hi l. from_escaped s k i j lo hi l)
  where
    go : (u : Bool) → is_sequence a s ≡ u → pick u (bad_from (more a) (i + 1) s) (Some i) ≡ None →
        ((k i j lo hi : ℕ) (l : Bool) → 0x80 ≤ lo → tails k lo hi l s ≡ true → bad_from k i s ≡ None → bad_from k j (escaped s) ≡ None) → bad_from 0 j (escaped (a ∷ s)) ≡ None
    go false e h ih = none-some (sym h)
    go true e h ih =
        let b = and_both (leb (more a) 3) _ e in
        escaped_case (λ x. bad_from 0 j x ≡ None) a s
        (λ y w v. bad_append w (escaped s) j (visible_good w v) ∙ ih 0 (i + 1) _ 0x80 0x80 false (omega arith) refl (rw y at h))
        (rw (b.0, tails-escaped s (more a) (low a) (high a) (eqb a 0xEF) (low_least a) b.1)
        (ih (more a) (i + 1) (j + 1) (low a) (high a) (eqb a 0xEF) (low_least a) b.1 h))

pub escaped_good : (s : List ℕ) → is_text s ≡ true → first_bad (escaped s) ≡ None
unfolding tails
escaped_good s h = from_escaped s 0 0 0 0x80 0x80 false (omega arith) refl (text_parts s h).1
