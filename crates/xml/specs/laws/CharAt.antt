-- Laws of what specs/CharAt.antt defines.
--     chars_none, chars_byte, chars_reference    the characters from a place on, by the character there
use Rattle.std.specs.Prelude.{◌≡◌, Bool, true, false, ℕ, ◌+◌, ◌-◌, ◌≤◌, ◌<◌, eqb, length, Option, None, Some}
use Rattle.std.proofs.Math.Path.{refl}
use Rattle.std.proofs.Common.{sym, ap, ◌∙◌, length-drop}
use Rattle.std.proofs.lemmas.Bool.{false≢true}
use mathlib.Core.List.{List, [], ◌∷◌}
use native.Mathlib.Omega.{arith}
use Rattle.std.proofs.Math.ListN.{drop}
use borrow.Author.Tests.{eq-eqb, ne_eqb, lt-ltb, le-ltb}
use Rattle.octets.specs.Pick.{pick}
use Rattle.octets.specs.laws.Pick.{pick_either}
use Rattle.octets.specs.Append.{◌⊕◌}
use Rattle.utf8.specs.Spell.{spell}
use Rattle.xml.specs.Token.{Token, s_tag, empty_elem_tag, e_tag, char_byte, reference_to, no_token, start_by, end_by, tag, reference, literal_byte, token}
use Rattle.xml.specs.Nodes.{characters_of}
use Rattle.xml.specs.NodesAt.{nodes_at, chars_at}
use Rattle.xml.specs.laws.NodesAt.{nodes_start, nodes_empty, nodes_end, nodes_char, nodes_reference, nodes_fault, nodes_none}
use Rattle.xml.specs.CharAt.{char_token, char_in, Character}
use Rattle.xml.specs.declared.CharRead.{CharRead}

-- ---- what a reading says

module _ {t : Token} {s : List ℕ} {at : ℕ} {r : CharRead} (p : Character t s at r) where
  pub read_none : r.u ≡ 256 → t ≡ no_token
  unfolding pick
  read_none h = p.is ∙ rw (eq-eqb r.u 256 h)

  pub read_byte : r.u < 256 → t ≡ char_byte r.u (r.next - at)
  unfolding pick
  read_byte h = p.is ∙ rw (ne_eqb r.u 256 (λ e. omega arith), lt-ltb r.u 256 h)

  pub read_reference : 256 < r.u → t ≡ reference_to (r.u - 257) (r.next - at)
  unfolding pick
  read_reference h = p.is ∙ rw (ne_eqb r.u 256 (λ e. omega arith), le-ltb r.u 256 (omega arith))

-- ---- what is read

module _ {t : Token} {s : List ℕ} {at : ℕ} where
  pub no_character : (n : ℕ) → t ≡ no_token → Character t s at (record { u = 256; next = n })
  unfolding pick
  no_character n e = record { is = e; high = omega arith; inside = λ h. absurd (h refl); wide = λ h. omega arith }

  pub a_byte : (c k n : ℕ) → t ≡ char_byte c k → c < 256 → n ≡ at + k → n ≤ length s → Character t s at (record { u = c; next = n })
  unfolding pick
  a_byte c k n e h f l =
      let j : n - at ≡ k = omega arith in
      record { is = e ∙ rw (ne_eqb c 256 (λ q. omega arith), lt-ltb c 256 h, j); high = omega arith; inside = λ q. (omega arith, l); wide = λ q. omega arith }

  pub a_reference : (u v k n : ℕ) → t ≡ reference_to v k → u ≡ 257 + v → v < 0x110000 → 3 ≤ k → n ≡ at + k → n ≤ length s → Character t s at (record { u = u; next = n })
  unfolding pick
  a_reference u v k n e g h w f l =
      let j : n - at ≡ k = omega arith in
      let i : u - 257 ≡ v = omega arith in
      record { is = e ∙ rw (ne_eqb u 256 (λ q. omega arith), le-ltb u 256 (omega arith), j, i); high = omega arith; inside = λ q. (omega arith, l); wide = λ q. omega arith }

-- ---- the characters from a place on

-- a tag is no character
started : (P : Token → Type 0) → ((nm : List ℕ) (k : ℕ) → P (s_tag nm k)) → ((nm : List ℕ) (k : ℕ) → P (empty_elem_tag nm k)) → P no_token → (o : Option ℕ) (s : List ℕ) → P (start_by o s)
unfolding start_by
started P a b f None s = f
started P a b f (Some n) s = pick_either P _ _ _ (a _ _) (pick_either P _ _ _ (b _ _) f)

ended : (P : Token → Type 0) → ((nm : List ℕ) (k : ℕ) → P (e_tag nm k)) → P no_token → (o : Option ℕ) (s : List ℕ) → P (end_by o s)
unfolding end_by
ended P c f None s = f
ended P c f (Some n) s = c _ _

pub tag_cases : (P : Token → Type 0) → ((nm : List ℕ) (k : ℕ) → P (s_tag nm k)) → ((nm : List ℕ) (k : ℕ) → P (empty_elem_tag nm k)) → ((nm : List ℕ) (k : ℕ) → P (e_tag nm k)) → P no_token →
    (s : List ℕ) → P (tag s)
unfolding tag
tag_cases P a b c f s = pick_either P _ _ _ (ended P c f _ _) (started P a b f _ _)

-- a byte that is no `<` begins a character or nothing
pub token_char : (b : ℕ) (s : List ℕ) → (b ≡ 60 → ⊥) → token b s ≡ char_token b s
unfolding token char_token pick
token_char b s h = rw (ne_eqb b 60 h)

pub token-tag : (b : ℕ) (s : List ℕ) → b ≡ 60 → token b s ≡ tag s
unfolding token pick
token-tag b s h = rw (eq-eqb b 60 h)

abbrev is_char : Token → Bool
is_char (s_tag nm k) = false
is_char (empty_elem_tag nm k) = false
is_char (e_tag nm k) = false
is_char (char_byte c k) = true
is_char (reference_to v k) = true
is_char no_token = false

-- what is stated as a character is the token; where none is stated, the token is none
token_of : (b : ℕ) (s : List ℕ) (t : Token) → char_token b s ≡ t → is_char t ≡ true → token b s ≡ t
unfolding token char_token pick
token_of b s t h i = go (eqb b 60) h
  where
    go : (x : Bool) → pick x no_token (pick (eqb b 38) (reference s) (literal_byte b s)) ≡ t → pick x (tag s) (pick (eqb b 38) (reference s) (literal_byte b s)) ≡ t
    go true h = absurd (false≢true (ap is_char h ∙ i))
    go false h = h

char_tag : (b : ℕ) (s : List ℕ) → char_token b s ≡ no_token → (t : Token) → token b s ≡ t → is_char t ≡ true → ⊥
unfolding token char_token pick
char_tag b s h t q i = go (eqb b 60) h q
  where
    go : (x : Bool) → pick x no_token (pick (eqb b 38) (reference s) (literal_byte b s)) ≡ no_token → pick x (tag s) (pick (eqb b 38) (reference s) (literal_byte b s)) ≡ t → ⊥
    go true h q = false≢true (sym (tag_cases (λ u. is_char u ≡ false) (λ nm k. refl) (λ nm k. refl) (λ nm k. refl) refl s) ∙ ap is_char q ∙ i)
    go false h q = false≢true (ap is_char (sym h ∙ q) ∙ i)

module _ (s : List ℕ) (p : ℕ) where
  pub chars_byte : (c k : ℕ) → char_in (drop p s) ≡ char_byte c k → chars_at s p ≡ c ∷ chars_at s (p + 1 + k)
  unfolding char_in chars_at characters_of
  chars_byte c k h = go (drop p s) refl h
    where
      go : (l : List ℕ) → drop p s ≡ l → char_in l ≡ char_byte c k → characters_of (nodes_at s p) ≡ c ∷ characters_of (nodes_at s (p + 1 + k))
      go [] e h = cc
      go (b ∷ r) e h = rw (nodes_char s p b r e c k (token_of b r (char_byte c k) h refl))

  pub chars_reference : (v k : ℕ) → char_in (drop p s) ≡ reference_to v k → chars_at s p ≡ spell v ⊕ chars_at s (p + 1 + k)
  unfolding char_in chars_at characters_of
  chars_reference v k h = go (drop p s) refl h
    where
      go : (l : List ℕ) → drop p s ≡ l → char_in l ≡ reference_to v k → characters_of (nodes_at s p) ≡ spell v ⊕ characters_of (nodes_at s (p + 1 + k))
      go [] e h = cc
      go (b ∷ r) e h = rw (nodes_reference s p b r e v k (token_of b r (reference_to v k) h refl))

  pub chars_none : char_in (drop p s) ≡ no_token → chars_at s p ≡ []
  unfolding char_in chars_at characters_of
  chars_none h = go (drop p s) refl h
    where
      at_tag : (b : ℕ) (r : List ℕ) → drop p s ≡ b ∷ r → (t : Token) → token b r ≡ t → char_token b r ≡ no_token → characters_of (nodes_at s p) ≡ []
      at_tag b r e (s_tag nm k) q h = rw (nodes_start s p b r e nm k q)
      at_tag b r e (empty_elem_tag nm k) q h = rw (nodes_empty s p b r e nm k q)
      at_tag b r e (e_tag nm k) q h = rw (nodes_end s p b r e nm k q)
      at_tag b r e (char_byte c k) q h = absurd (char_tag b r h (char_byte c k) q refl)
      at_tag b r e (reference_to v k) q h = absurd (char_tag b r h (reference_to v k) q refl)
      at_tag b r e no_token q h = rw (nodes_fault s p b r e q)

      go : (l : List ℕ) → drop p s ≡ l → char_in l ≡ no_token → characters_of (nodes_at s p) ≡ []
      go [] e h = let j : length s ≤ p = omega (arith, length-drop p s, ap length e) in rw (nodes_none s p j)
      go (b ∷ r) e h = at_tag b r e (token b r) refl h
