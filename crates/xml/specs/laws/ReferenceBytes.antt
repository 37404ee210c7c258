-- The first bytes of a reference to a character beyond ASCII: `&`, and then two bytes that are none.
--     reference_begins    it begins with `&`;   reference_second, reference_third: the two bytes after it
use Rattle.std.specs.Prelude.{◌≡◌, refl, Bool, true, false, List, [], ◌∷◌, ℕ, suc, ◌+◌, ◌≤◌, ◌<◌, eqb, ltb, get_or, take, drop}
use Rattle.std.proofs.Common.{sym, ap, ◌∙◌, arith, get_or-drop, eqb-true, ltb-true}
use Rattle.std.proofs.lemmas.Bool.{false≢true}
use Rattle.octets.specs.Ascii.{ascii}
use Rattle.octets.specs.Pick.{pick, ◌and◌}
use Rattle.octets.specs.laws.Pick.{and_both, within_range}
use Rattle.octets.specs.Scan.{span_len}
use Rattle.octets.specs.Class.{is_digit}
use Rattle.octets.specs.Words.{starts}
use Rattle.octets.specs.Decimal.{value}
use Rattle.utf8.specs.Spell.{is_character}
use Rattle.xml.specs.Pieces.{from}
use Rattle.xml.specs.Token.{Token, s_tag, empty_elem_tag, e_tag, char_byte, reference_to, no_token, is_hex_digit, hex_value, char_ref, entity_ref, reference, literal_byte}
use Rattle.xml.specs.CharAt.{char_token, char_in}

-- the code point of a reference, 0 where there is none
abbrev point_of : Token → ℕ
point_of (s_tag nm k) = 0
point_of (empty_elem_tag nm k) = 0
point_of (e_tag nm k) = 0
point_of (char_byte c k) = 0
point_of (reference_to v k) = v
point_of no_token = 0

-- the two bytes after `&`
abbrev Beyond : List ℕ → Type 0
Beyond r = (get_or r 0 0 ≡ 35) × (get_or r 1 0 ≡ 38 → ⊥)

-- an entity names a character of ASCII
entity_low : (s : List ℕ) → point_of (entity_ref s) < 0x80
unfolding pick
entity_low s = go (starts (ascii "amp;") s) (starts (ascii "lt;") s) (starts (ascii "gt;") s) (starts (ascii "apos;") s) (starts (ascii "quot;") s)
  where
    go : (a b c d e : Bool) →
        point_of (pick a (reference_to 38 4) (pick b (reference_to 60 3) (pick c (reference_to 62 3) (pick d (reference_to 39 5) (pick e (reference_to 34 5) no_token))))) < 0x80
    go true b c d e = omega arith
    go false true c d e = omega arith
    go false false true d e = omega arith
    go false false false true e = omega arith
    go false false false false true = omega arith
    go false false false false false = omega arith

hex_begins : (r : List ℕ) → starts (ascii "#x") r ≡ true → Beyond r
unfolding starts
hex_begins [] h = absurd (false≢true h)
hex_begins (x ∷ []) h = absurd (false≢true (and_both (eqb 35 x) false h).1)
hex_begins (x ∷ y ∷ r) h =
    let a = and_both (eqb 35 x) (eqb 120 y and true) h in
    let b = and_both (eqb 120 y) true a.1 in
    let i = eqb-true 35 x a.0 in
    let j = eqb-true 120 y b.0 in
    (sym i, λ e. omega arith)

decimal_begins : (r : List ℕ) → starts (ascii "#") r ≡ true → 0 < span_len is_digit (from 1 r) → Beyond r
unfolding starts from span_len pick
decimal_begins [] h l = absurd (false≢true h)
decimal_begins (x ∷ []) h l = absurd (none l)
  where
    none : 0 < 0 → ⊥
    none l = omega arith
decimal_begins (x ∷ y ∷ r) h l = (sym (eqb-true 35 x (and_both (eqb 35 x) true h).0), λ e. go (is_digit y) refl l e)
  where
    go : (t : Bool) → is_digit y ≡ t → 0 < pick t (suc (span_len is_digit r)) 0 → y ≡ 38 → ⊥
    go true e l q = let b = within_range 48 57 y e in omega arith
    go false e l q = omega arith

-- a character reference has digits
number_some : (k d v : ℕ) (s : List ℕ) → 0 < point_of (char_ref k d v s) → 0 < d
unfolding char_ref pick ◌and◌
number_some k d v s h = go (ltb 0 d) refl h
  where
    go : (t : Bool) → ltb 0 d ≡ t → 0 < point_of (pick (t and starts (ascii ";") (from d s) and is_character v) (reference_to v (k + d + 1)) no_token) → 0 < d
    go true e h = ltb-true 0 d e
    go false e h = omega arith

apart : (n : ℕ) → 0x80 ≤ n → n < 0x80 → ⊥
apart n h l = omega arith

reference_beyond : (r : List ℕ) → 0x80 ≤ point_of (reference r) → Beyond r
unfolding reference pick
reference_beyond r h = go (starts (ascii "#x") r) refl (starts (ascii "#") r) refl h
  where
    go : (a : Bool) → starts (ascii "#x") r ≡ a → (b : Bool) → starts (ascii "#") r ≡ b →
        0x80 ≤ point_of (pick a (char_ref 2 (span_len is_hex_digit (from 2 r)) (hex_value 0 (take (span_len is_hex_digit (from 2 r)) (from 2 r))) (from 2 r))
        (pick b (char_ref 1 (span_len is_digit (from 1 r)) (value 0 (take (span_len is_digit (from 1 r)) (from 1 r))) (from 1 r)) (entity_ref r))) → Beyond r
    go true e b f h = hex_begins r e
    go false e true f h = decimal_begins r f (number_some 1 (span_len is_digit (from 1 r)) (value 0 (take (span_len is_digit (from 1 r)) (from 1 r))) (from 1 r) (omega arith))
    go false e false f h = absurd (apart (point_of (entity_ref r)) h (entity_low r))

literal_none : (b : ℕ) (r : List ℕ) → point_of (literal_byte b r) ≡ 0
unfolding literal_byte pick
literal_none b r = go (eqb b 13) (starts (10 ∷ []) r) (eqb b 93 and starts (ascii "]>") r)
  where
    go : (x y z : Bool) → point_of (pick x (pick y (char_byte 10 1) (char_byte 10 0)) (pick z no_token (char_byte b 0))) ≡ 0
    go true true z = refl
    go true false z = refl
    go false y true = refl
    go false y false = refl

char_beyond : (l : List ℕ) (v k : ℕ) → char_in l ≡ reference_to v k → 0x80 ≤ v → (get_or l 0 0 ≡ 38) × (get_or l 1 0 ≡ 38 → ⊥) × (get_or l 2 0 ≡ 38 → ⊥)
unfolding char_in char_token pick
char_beyond [] v k h l = let z : 0 ≡ v = ap point_of h in omega arith
char_beyond (b ∷ r) v k h l = go (eqb b 60) (eqb b 38) refl h
  where
    go : (x y : Bool) → eqb b 38 ≡ y → pick x no_token (pick y (reference r) (literal_byte b r)) ≡ reference_to v k → (b ≡ 38) × (get_or r 0 0 ≡ 38 → ⊥) × (get_or r 1 0 ≡ 38 → ⊥)
    go true y e h = let z : 0 ≡ v = ap point_of h in omega arith
    go false true e h =
        let z : point_of (reference r) ≡ v = ap point_of h in
        let q = reference_beyond r (omega arith) in
        (eqb-true b 38 e, λ g. omega (arith, q.0), q.1)
    go false false e h = let z : point_of (literal_byte b r) ≡ v = ap point_of h in let w = literal_none b r in omega arith

-- by places
module _ (s : List ℕ) (p v k : ℕ) (h : char_in (drop p s) ≡ reference_to v k) (l : 0x80 ≤ v) where
  pub reference_begins : get_or s p 0 ≡ 38
  reference_begins = let z : p ≡ p + 0 = omega arith in ap (λ (n : ℕ). get_or s n 0) z ∙ sym (get_or-drop p s 0 0) ∙ (char_beyond (drop p s) v k h l).0

  pub reference_second : get_or s (p + 1) 0 ≡ 38 → ⊥
  reference_second e = (char_beyond (drop p s) v k h l).1 (get_or-drop p s 1 0 ∙ e)

  pub reference_third : get_or s (p + 2) 0 ≡ 38 → ⊥
  reference_third e = (char_beyond (drop p s) v k h l).2 (get_or-drop p s 2 0 ∙ e)
