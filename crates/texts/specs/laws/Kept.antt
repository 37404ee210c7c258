-- Values that are kept by their characters, read: laws of the loops that test them from a cursor on.
--     unknown_.., uri_.., binary_..   the ways that each loop goes on and ends
--     passed, kept, none_left         BINARY a byte at a time: white space of XML is passed over
use Rattle.std.specs.Prelude.{◌≡◌, Bool, List, [], ◌∷◌, ℕ, ◌+◌, ◌≤◌, ◌<◌, ltb}
use Rattle.std.proofs.Math.Path.{refl, sym}
use Rattle.std.proofs.Common.{ap, ◌∙◌, arith, rules}
use Rattle.std.proofs.Math.Bool.{true, false}
use Rattle.std.proofs.lemmas.Bool.{false≢true}
use Rattle.std.proofs.Math.Dec.{eqb}
use borrow.Author.Tests.{ne_eqb, ltb-true, eqb-true, eqb-false}
use Rattle.octets.specs.Pick.{pick, ◌and◌, ◌or◌}
use Rattle.octets.specs.laws.Pick.{and_both}
use Rattle.octets.specs.Class.{is_alpha, is_space}
use Rattle.octets.specs.Words.{holds}
use Rattle.calendar.specs.Calendar.{format_of}
use Rattle.source.specs.Source.{rest, Reads}
use Rattle.source.specs.laws.Facts.{rest_byte, rest_end}
use Rattle.source.specs.declared.points.Unit.{Unit}
use Rattle.texts.specs.Unknown.{is_unknown}
use Rattle.texts.specs.Uri.{in_uri, uri_from, is_uri}
use Rattle.texts.specs.Binary.{is_base64_char, pad_fits, in_group, next_place, binary_from, without_space, binary_chars}

-- a value that a reader's loop has yet to test: v is what it is to answer
module _ {v : Bool} {m : ℕ} {s : List ℕ} {c : ℕ} {r : Unit} (p : Reads m s c r) where
  -- ---- unknown

  pub unknown_more : v ≡ is_unknown (rest m s c) → (r.u ≡ 256 → ⊥) → (r.u ≡ 10 → ⊥) → v ≡ is_unknown (rest m s r.next)
  unfolding holds ◌or◌
  unknown_more e h k = e ∙ rw (rest_byte p h, ne_eqb 10 r.u (λ q. k (sym q)))

  pub unknown_stop : v ≡ is_unknown (rest m s c) → (r.u ≡ 256 → ⊥) → r.u ≡ 10 → false ≡ v
  unfolding holds ◌or◌ pick
  unknown_stop e h k = sym (e ∙ rw (rest_byte p h, k))

  pub unknown_end : v ≡ is_unknown (rest m s c) → r.u ≡ 256 → true ≡ v
  unfolding holds pick
  unknown_end e h = sym (e ∙ rw (rest_end p h))

  -- ---- URI

  pub uri_more : (past : Bool) {past' t : Bool} → v ≡ uri_from past (rest m s c) → (r.u ≡ 256 → ⊥) → t ≡ in_uri past r.u → t ≡ true → past' ≡ (past or eqb r.u 58) →
      v ≡ uri_from past' (rest m s r.next)
  unfolding uri_from ◌and◌
  uri_more past e h k l q = e ∙ rw (rest_byte p h, ← k, l, q)

  pub uri_stop : (past : Bool) {t : Bool} → v ≡ uri_from past (rest m s c) → (r.u ≡ 256 → ⊥) → t ≡ in_uri past r.u → t ≡ false → false ≡ v
  unfolding uri_from ◌and◌
  uri_stop past e h k l = sym (e ∙ rw (rest_byte p h, ← k, l))

  pub uri_end : {past a : Bool} → v ≡ uri_from past (rest m s c) → r.u ≡ 256 → a ≡ past → a ≡ v
  unfolding uri_from
  uri_end e h k = k ∙ sym (e ∙ rw (rest_end p h))

-- 256 is no letter
alpha_byte : (u : ℕ) → is_alpha u ≡ true → u ≡ 256 → ⊥
unfolding ◌or◌ ◌and◌
alpha_byte u h e = let z : is_alpha 256 ≡ true = rw e at h in false≢true z

module _ {m : ℕ} {s : List ℕ} {c : ℕ} {r : Unit} (p : Reads m s c r) where
  pub uri_first : {a t : Bool} → t ≡ is_alpha r.u → t ≡ true → a ≡ uri_from false (rest m s r.next) → a ≡ is_uri (rest m s c)
  unfolding is_uri ◌and◌
  uri_first k l e = e ∙ sym (rw (rest_byte p (alpha_byte r.u (sym k ∙ l)), ← k, l))

  pub uri_none : {t : Bool} → t ≡ is_alpha r.u → t ≡ false → false ≡ is_uri (rest m s c)
  unfolding is_uri ◌and◌
  uri_none k l = go (eqb r.u 256) refl
    where
      go : (t : Bool) → eqb r.u 256 ≡ t → false ≡ is_uri (rest m s c)
      go true e = sym (rw (rest_end p (eqb-true r.u 256 e)))
      go false e = sym (rw (rest_byte p (eqb-false r.u 256 e), ← k, l))

-- ---- BINARY

pub passed : (x : Bool) (u : ℕ) (l : List ℕ) → (x and is_space u) ≡ true → binary_chars (format_of x) (u ∷ l) ≡ binary_chars (format_of x) l
unfolding without_space ◌and◌ pick
passed true u l h = rw h
passed false u l h = absurd (false≢true h)

pub kept : (x : Bool) (u : ℕ) (l : List ℕ) → (x and is_space u) ≡ false → binary_chars (format_of x) (u ∷ l) ≡ u ∷ binary_chars (format_of x) l
unfolding without_space ◌and◌ pick
kept true u l h = rw h
kept false u l h = refl

pub none_left : (x : Bool) → binary_chars (format_of x) [] ≡ []
unfolding without_space
none_left true = refl
none_left false = refl

module _ {v : Bool} {m : ℕ} {s : List ℕ} {c : ℕ} {r : Unit} (p : Reads m s c r) (x : Bool) (n last : ℕ) where
  pub binary_pass : {t : Bool} → v ≡ binary_from n last (binary_chars (format_of x) (rest m s c)) → (r.u ≡ 256 → ⊥) → t ≡ (x and is_space r.u) → t ≡ true →
      v ≡ binary_from n last (binary_chars (format_of x) (rest m s r.next))
  binary_pass e h k l = e ∙ rw (rest_byte p h) (ap (binary_from n last) (passed x r.u _ (sym k ∙ l)))

  pub binary_more : {t g : Bool} {n' : ℕ} → v ≡ binary_from n last (binary_chars (format_of x) (rest m s c)) → (r.u ≡ 256 → ⊥) → t ≡ (x and is_space r.u) → t ≡ false →
      g ≡ in_group n last r.u → g ≡ true → n' ≡ next_place n r.u → v ≡ binary_from n' r.u (binary_chars (format_of x) (rest m s r.next))
  unfolding binary_from ◌and◌
  binary_more e h k l a b q = e ∙ rw (rest_byte p h) (ap (binary_from n last) (kept x r.u _ (sym k ∙ l)) ∙ rw (← a, b, q))

  pub binary_stop : {t g : Bool} → v ≡ binary_from n last (binary_chars (format_of x) (rest m s c)) → (r.u ≡ 256 → ⊥) → t ≡ (x and is_space r.u) → t ≡ false →
      g ≡ in_group n last r.u → g ≡ false → false ≡ v
  unfolding binary_from ◌and◌
  binary_stop e h k l a b = sym (e ∙ rw (rest_byte p h) (ap (binary_from n last) (kept x r.u _ (sym k ∙ l)) ∙ rw (← a, b)))

  pub binary_end : {a : Bool} → v ≡ binary_from n last (binary_chars (format_of x) (rest m s c)) → r.u ≡ 256 → a ≡ (eqb n 0 or eqb n 5) → a ≡ v
  unfolding binary_from
  binary_end e h k = k ∙ sym (e ∙ rw (rest_end p h) (ap (binary_from n last) (none_left x)))

-- a place stays a place
pub place_small : {g : Bool} {n' : ℕ} (n last u : ℕ) → g ≡ in_group n last u → g ≡ true → n' ≡ next_place n u → n' ≤ 5
unfolding pick
place_small n last u a b q = rw q (go (eqb u 61) (eqb n 2) (eqb n 3) (sym a ∙ b))
  where
    go : (t f h : Bool) → pick t (pad_fits n last) (is_base64_char u and ltb n 4) ≡ true → pick t (pick f 4 5) (pick h 0 (n + 1)) ≤ 5
    go true true h k = omega arith
    go true false h k = omega arith
    go false f true k = omega arith
    go false f false k = let l : n < 4 = ltb-true n 4 (and_both (is_base64_char u) (ltb n 4) k).1 in omega arith

pub ruleset reading_unknown = (unknown_more, unknown_stop, unknown_end, rules)

pub ruleset reading_uri = (uri_more, uri_stop, uri_end, uri_first, uri_none, rules)

pub ruleset reading_binary = (binary_pass, binary_more, binary_stop, binary_end, place_small, rules)
