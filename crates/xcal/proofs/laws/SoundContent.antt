-- Content whose bytes are those of a document that can be read: names that are names, character data that is well formed and holds no CR.
--     is_clean s         character data that is well-formed UTF-8 of permitted characters, without CR
--     is_sound c d       content of such data, where at most d elements stand inside one another
--     sound_writable     it can be written;   sound_good: its bytes are well formed;   sound_deeper: it is sound in more room
--     escaped_good       character data is well formed also with its entities
use Rattle.std.specs.Prelude.{◌≡◌, refl, Bool, true, false, not, List, [], ◌∷◌, ℕ, zero, suc, ◌+◌, ◌≤◌, eqb, leb, None, Some}
use Rattle.std.proofs.Common.{sym, ◌∙◌, arith, ne_eqb, eqb-true}
use Rattle.std.proofs.lemmas.Bool.{false≢true}
use Rattle.octets.specs.Ascii.{ascii}
use Rattle.octets.specs.Pick.{pick, ◌and◌, ◌or◌, within}
use Rattle.octets.specs.laws.Pick.{and_both, and_yes, within_range}
use Rattle.octets.specs.Append.{◌⊕◌}
use Rattle.octets.specs.Scan.{all_of}
use Rattle.octets.specs.laws.Scan.{all_weaker}
use Rattle.octets.specs.Class.{is_visible, is_name_char}
use Rattle.octets.specs.laws.Class.{name_char_visible}
use Rattle.octets.specs.Words.{holds}
use Rattle.octets.specs.laws.Reading.{none-some}
use Rattle.utf8.specs.Utf8.{is_ascii, more, low, high, high_after, tails, is_sequence, bad_from, first_bad, well_formed}
use Rattle.utf8.specs.laws.Utf8.{well_formed_good, bad_append, good_append, visible_good, low_least}
use Rattle.xml.specs.Escape.{escaped, start_tag, end_tag, element_of}
use Rattle.xml.specs.Reads.{is_name}
use Rattle.xml.specs.Content.{Content, nothing, child, char_data, written, is_writable}

unfoldable pub is_clean : List ℕ → Bool
is_clean s = not (holds 13 s) and well_formed s

unfoldable pub is_sound : Content → ℕ → Bool
is_sound nothing d = true
is_sound (child nm inner next) zero = false
is_sound (child nm inner next) (suc d) = is_name nm and is_sound inner d and is_sound next (suc d)
is_sound (char_data s next) d = is_clean s and is_sound next d

pub sound_writable : (c : Content) (d : ℕ) → is_sound c d ≡ true → is_writable c d ≡ true
unfolding is_sound is_writable is_clean
sound_writable nothing d h = refl
sound_writable (child nm inner next) zero h = h
sound_writable (child nm inner next) (suc d) h =
    let a = and_both (is_name nm) _ h in
    let b = and_both (is_sound inner d) _ a.1 in
    and_yes _ _ a.0 (and_yes _ _ (sound_writable inner d b.0) (sound_writable next (suc d) b.1))
sound_writable (char_data s next) d h =
    let a = and_both (is_clean s) _ h in
    and_yes _ _ (and_both (not (holds 13 s)) _ a.0).0 (sound_writable next d a.1)

pub sound_deeper : (c : Content) (d e : ℕ) → d ≤ e → is_sound c d ≡ true → is_sound c e ≡ true
unfolding is_sound
sound_deeper nothing d e l h = refl
sound_deeper (child nm inner next) zero e l h = absurd (false≢true h)
sound_deeper (child nm inner next) (suc d) zero l h = absurd (omega arith)
sound_deeper (child nm inner next) (suc d) (suc e) l h =
    let a = and_both (is_name nm) _ h in
    let b = and_both (is_sound inner d) _ a.1 in
    and_yes _ _ a.0 (and_yes _ _ (sound_deeper inner d e (omega arith) b.0) (sound_deeper next (suc d) (suc e) l b.1))
sound_deeper (char_data s next) d e l h = let a = and_both (is_clean s) _ h in and_yes _ _ a.0 (sound_deeper next d e l a.1)

-- ---- entities

-- a byte above ASCII stands as it is
high_stays : (b : ℕ) (s : List ℕ) → 0x80 ≤ b → escaped (b ∷ s) ≡ b ∷ escaped s
unfolding escaped pick ◌⊕◌
high_stays b s h = rw (ne_eqb b 38 (λ e. omega arith), ne_eqb b 60 (λ e. omega arith), ne_eqb b 62 (λ e. omega arith))

-- what a byte becomes, by cases
escaped_case : (P : List ℕ → Type 0) (b : ℕ) (s : List ℕ) → (is_ascii b ≡ true → (w : List ℕ) → all_of is_visible w ≡ true → P (w ⊕ escaped s)) → P (b ∷ escaped s) → P (escaped (b ∷ s))
unfolding escaped pick ◌and◌ ◌or◌ ◌⊕◌ all_of
escaped_case P b s f g = go (eqb b 38) refl (eqb b 60) refl (eqb b 62) refl
  where
    go : (t : Bool) → eqb b 38 ≡ t → (u : Bool) → eqb b 60 ≡ u → (v : Bool) → eqb b 62 ≡ v → P (pick t (ascii "&amp;") (pick u (ascii "&lt;") (pick v (ascii "&gt;") (b ∷ []))) ⊕ escaped s)
    go true e u k v m = f (rw (eqb-true b 38 e)) (ascii "&amp;") refl
    go false e true k v m = f (rw (eqb-true b 60 k)) (ascii "&lt;") refl
    go false e false k true m = f (rw (eqb-true b 62 m)) (ascii "&gt;") refl
    go false e false k false m = g

-- tail bytes stand as they are
tails-escaped : (s : List ℕ) (n lo hi : ℕ) (l : Bool) → 0x80 ≤ lo → tails n lo hi l s ≡ true → tails n lo hi l (escaped s) ≡ true
unfolding tails
tails-escaped s zero lo hi l g h = refl
tails-escaped [] (suc n) lo hi l g h = absurd (false≢true h)
tails-escaped (b ∷ s) (suc n) lo hi l g h =
    let a = and_both (within lo hi b) _ h in
    let r = within_range lo hi b a.0 in
    rw (high_stays b s (omega arith)) (and_yes _ _ a.0 (tails-escaped s n 0x80 (high_after l b) false (omega arith) a.1))

-- after the first k bytes, which are of a character that began before
from_escaped : (s : List ℕ) (k i j lo hi : ℕ) (l : Bool) → 0x80 ≤ lo → tails k lo hi l s ≡ true → bad_from k i s ≡ None → bad_from k j (escaped s) ≡ None
unfolding bad_from tails escaped pick ◌and◌
from_escaped [] k i j lo hi l g t h = refl
from_escaped (b ∷ s) (suc k) i j lo hi l g t h =
    let a = and_both (within lo hi b) _ t in
    let r = within_range lo hi b a.0 in
    rw (high_stays b s (omega arith)) (from_escaped s k (i + 1) (j + 1) 0x80 (high_after l b) false (omega arith) a.1 h)
from_escaped (a ∷ s) zero i j lo hi l g t h = go (is_sequence a s) refl h (λ k i j lo hi l. from_escaped s k i j lo hi l)
  where
    go : (u : Bool) → is_sequence a s ≡ u → pick u (bad_from (more a) (i + 1) s) (Some i) ≡ None →
        ((k i j lo hi : ℕ) (l : Bool) → 0x80 ≤ lo → tails k lo hi l s ≡ true → bad_from k i s ≡ None → bad_from k j (escaped s) ≡ None) → bad_from 0 j (escaped (a ∷ s)) ≡ None
    go false e h ih = none-some (sym h)
    go true e h ih =
        let b = and_both (leb (more a) 3) _ e in
        escaped_case (λ x. bad_from 0 j x ≡ None) a s
        (λ y w v. bad_append w (escaped s) j (visible_good w v) ∙ ih 0 (i + 1) _ 0x80 0x80 false (omega arith) refl (rw y at h))
        (rw (b.0, tails-escaped s (more a) (low a) (high a) (eqb a 0xEF) (low_least a) b.1)
        (ih (more a) (i + 1) (j + 1) (low a) (high a) (eqb a 0xEF) (low_least a) b.1 h))

pub escaped_good : (s : List ℕ) → first_bad s ≡ None → first_bad (escaped s) ≡ None
unfolding tails
escaped_good s h = from_escaped s 0 0 0 0x80 0x80 false (omega arith) refl h

-- ---- tags

open_good : first_bad (ascii "<") ≡ None
unfolding bad_from tails pick ◌and◌ ◌or◌
open_good = refl

close_good : first_bad (ascii ">") ≡ None
unfolding bad_from tails pick ◌and◌ ◌or◌
close_good = refl

end_good : first_bad (ascii "</") ≡ None
unfolding bad_from tails pick ◌and◌ ◌or◌
end_good = refl

name_good : (n : List ℕ) → is_name n ≡ true → first_bad n ≡ None
unfolding is_name
name_good [] h = absurd (false≢true h)
name_good (b ∷ n) h = visible_good (b ∷ n) (all_weaker is_name_char is_visible name_char_visible (b ∷ n) (and_both _ _ h).1)

element_good : (n s : List ℕ) → is_name n ≡ true → first_bad s ≡ None → first_bad (element_of n s) ≡ None
element_good n s h k =
    good_append (start_tag n) (s ⊕ end_tag n)
    (good_append (ascii "<") (n ⊕ ascii ">") open_good (good_append n (ascii ">") (name_good n h) close_good))
    (good_append s (end_tag n) k (good_append (ascii "</") (n ⊕ ascii ">") end_good (good_append n (ascii ">") (name_good n h) close_good)))

pub sound_good : (c : Content) (d : ℕ) → is_sound c d ≡ true → first_bad (written c) ≡ None
unfolding is_sound is_clean written bad_from
sound_good nothing d h = refl
sound_good (child nm inner next) zero h = absurd (false≢true h)
sound_good (child nm inner next) (suc d) h =
    let a = and_both (is_name nm) _ h in
    let b = and_both (is_sound inner d) _ a.1 in
    good_append (element_of nm (written inner)) (written next) (element_good nm (written inner) a.0 (sound_good inner d b.0)) (sound_good next (suc d) b.1)
sound_good (char_data s next) d h =
    let a = and_both (is_clean s) _ h in
    good_append (escaped s) (written next) (escaped_good s (well_formed_good s (and_both (not (holds 13 s)) _ a.0).1)) (sound_good next d a.1)
