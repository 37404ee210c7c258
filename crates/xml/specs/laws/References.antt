-- What the readings of a reference and of a literal byte come to, by the tests on the way.
--     same_character, pick_first_character, pick_other_character    a reading of what a test chooses
--     number_good, number_empty, number_short, number_other, number_none    a character reference, by its digits
--     hex_reference, decimal_reference, entity_reference    a reference, by how it begins
--     named         an entity
--     cr_lf, cr_alone, bracket_end, bracket_alone, as_it_is    a literal byte
use Rattle.std.specs.Prelude.{◌≡◌, Bool, true, false, List, [], ◌∷◌, ℕ, ◌+◌, ◌-◌, ◌≤◌, ◌<◌, length, get_or}
use Rattle.std.proofs.Math.Path.{refl, ap}
use Rattle.std.proofs.Common.{sym, ◌∙◌, arith}
use Rattle.std.proofs.Math.ListN.{drop, drop_of_length-le}
use Rattle.std.proofs.Math.Seq.{drop-drop}
use borrow.Author.Tests.{eq-eqb, ne_eqb, lt-ltb, le-ltb}
use Rattle.octets.specs.Ascii.{ascii}
use Rattle.octets.specs.Pick.{pick}
use Rattle.octets.specs.laws.Pick.{pick_yes, pick_no, and_yes, and_no_left, and_no_right}
use Rattle.octets.specs.Scan.{span_len}
use Rattle.octets.specs.laws.Scan.{drop_next}
use Rattle.octets.specs.Words.{starts}
use Rattle.utf8.specs.Spell.{is_character}
use Rattle.xml.specs.Pieces.{from}
use Rattle.xml.specs.Token.{Token, char_byte, reference_to, char_ref, entity_ref, reference, literal_byte}
use Rattle.xml.specs.CharAt.{char_token, char_in, Character}
use Rattle.xml.specs.laws.CharAt.{no_character, a_byte, a_reference}
use Rattle.xml.specs.laws.Starting.{starts_inside, starts_byte}
use Rattle.xml.specs.Digits.{is_digit_in, worth_on, Counted}
use Rattle.xml.specs.laws.Digits.{hex_worth, decimal_worth, capped_character, character_worth}
use Rattle.xml.specs.declared.CharRead.{CharRead}
use Rattle.xml.specs.declared.references.Digits.{Digits}

module _ {s : List ℕ} {at : ℕ} {r : CharRead} where
  pub same_character : {t x : Token} → t ≡ x → Character x s at r → Character t s at r
  same_character e p = rw e p

  pub pick_first_character : (b : Bool) (t x : Token) → b ≡ true → Character t s at r → Character (pick b t x) s at r
  pick_first_character b t x h p = same_character (pick_yes b t x h) p

  pub pick_other_character : (b : Bool) (t x : Token) → b ≡ false → Character x s at r → Character (pick b t x) s at r
  pick_other_character b t x h p = same_character (pick_no b t x h) p

-- ---- a character reference

abbrev number_from : List ℕ → ℕ → ℕ → Bool → Token
number_from s at k h = char_ref k (span_len (is_digit_in h) (drop (at + k) s)) (worth_on h 0 (drop (at + k) s)) (drop (at + k) s)

module _ (h : Bool) (s : List ℕ) (at k : ℕ) (r : Digits) (c : Counted h s (at + k) r) where
  after_digits : from (span_len (is_digit_in h) (drop (at + k) s)) (drop (at + k) s) ≡ drop r.end s
  unfolding from
  after_digits = drop-drop (span_len (is_digit_in h) (drop (at + k) s)) (at + k) s ∙ ap (λ (n : ℕ). drop n s) (sym c.end)

  worth_test : is_character (worth_on h 0 (drop (at + k) s)) ≡ is_character r.v
  worth_test = sym (capped_character (worth_on h 0 (drop (at + k) s))) ∙ ap is_character (sym c.worth)

  pub number_good : 1 ≤ k → at + k < r.end → r.end < length s → get_or s r.end 0 ≡ 59 → is_character r.v ≡ true → Character (number_from s at k h) s at (record { u = 257 + r.v; next = r.end + 1 })
  unfolding char_ref
  number_good l d i e g =
      let w = character_worth (worth_on h 0 (drop (at + k) s)) (ap is_character (sym c.worth) ∙ g) in
      let v : r.v ≡ worth_on h 0 (drop (at + k) s) = c.worth ∙ w.0 in
      pick_first_character _ _ _
      (and_yes _ _ (lt-ltb 0 (span_len (is_digit_in h) (drop (at + k) s)) (omega (arith, c.end)))
      (and_yes _ _ (ap (starts (ascii ";")) after_digits ∙ starts_byte 59 s r.end i ∙ eq-eqb 59 (get_or s r.end 0) (sym e)) (worth_test ∙ g)))
      (a_reference (257 + r.v) (worth_on h 0 (drop (at + k) s)) (k + span_len (is_digit_in h) (drop (at + k) s) + 1) (r.end + 1) refl (omega (arith, v)) w.1 (omega (arith, c.end)) (omega (arith, c.end)) (omega arith))

  pub number_empty : r.end ≤ at + k → Character (number_from s at k h) s at (record { u = 256; next = at })
  unfolding char_ref
  number_empty d = pick_other_character _ _ _ (and_no_left _ _ (le-ltb 0 (span_len (is_digit_in h) (drop (at + k) s)) (omega (arith, c.end)))) (no_character at refl)

  pub number_short : length s ≤ r.end → Character (number_from s at k h) s at (record { u = 256; next = at })
  unfolding char_ref starts
  number_short i =
      pick_other_character _ _ _ (and_no_right _ _ (and_no_left _ _ (ap (starts (ascii ";")) (after_digits ∙ drop_of_length-le s i)))) (no_character at refl)

  pub number_other : r.end < length s → (get_or s r.end 0 ≡ 59 → ⊥) → Character (number_from s at k h) s at (record { u = 256; next = at })
  unfolding char_ref
  number_other i e =
      pick_other_character _ _ _
      (and_no_right _ _ (and_no_left _ _ (ap (starts (ascii ";")) after_digits ∙ starts_byte 59 s r.end i ∙ ne_eqb 59 (get_or s r.end 0) (λ q. e (sym q))))) (no_character at refl)

  pub number_none : is_character r.v ≡ false → Character (number_from s at k h) s at (record { u = 256; next = at })
  unfolding char_ref
  number_none g = pick_other_character _ _ _ (and_no_right _ _ (and_no_right _ _ (worth_test ∙ g))) (no_character at refl)

-- ---- a reference

module _ (s : List ℕ) (at : ℕ) {r : CharRead} where
  pub hex_reference : starts (ascii "#x") (drop at s) ≡ true → Character (number_from s at 2 true) s at r → Character (reference (drop at s)) s at r
  unfolding reference from pick
  hex_reference e p = pick_first_character _ _ _ e (same_character (rw (drop-drop 2 at s, hex_worth (drop (at + 2) s) 0)) p)

  pub decimal_reference : starts (ascii "#x") (drop at s) ≡ false → starts (ascii "#") (drop at s) ≡ true → Character (number_from s at 1 false) s at r → Character (reference (drop at s)) s at r
  unfolding reference from pick
  decimal_reference n e p = pick_other_character _ _ _ n (pick_first_character _ _ _ e (same_character (rw (drop-drop 1 at s, decimal_worth (drop (at + 1) s) 0)) p))

  pub entity_reference : starts (ascii "#x") (drop at s) ≡ false → starts (ascii "#") (drop at s) ≡ false → Character (entity_ref (drop at s)) s at r → Character (reference (drop at s)) s at r
  unfolding reference
  entity_reference n m p = pick_other_character _ _ _ n (pick_other_character _ _ _ m p)

-- an entity whose name and `;` are w
pub named : (w s : List ℕ) (at v : ℕ) → at ≤ length s → starts w (drop at s) ≡ true → v < 0x110000 → 3 ≤ length w → Character (reference_to v (length w)) s at (record { u = 257 + v; next = at + length w })
named w s at v l e h k = a_reference (257 + v) v (length w) (at + length w) refl refl h k refl (starts_inside w s at l e)

-- ---- a literal byte

module _ (s : List ℕ) (at u : ℕ) where
  pub cr_lf : u ≡ 13 → at ≤ length s → starts (10 ∷ []) (drop at s) ≡ true → Character (literal_byte u (drop at s)) s at (record { u = 10; next = at + 1 })
  unfolding literal_byte
  cr_lf e l h = pick_first_character _ _ _ (eq-eqb u 13 e) (pick_first_character _ _ _ h (a_byte 10 1 (at + 1) refl (omega arith) refl (starts_inside (10 ∷ []) s at l h)))

  pub cr_alone : u ≡ 13 → at ≤ length s → starts (10 ∷ []) (drop at s) ≡ false → Character (literal_byte u (drop at s)) s at (record { u = 10; next = at })
  unfolding literal_byte
  cr_alone e l h = pick_first_character _ _ _ (eq-eqb u 13 e) (pick_other_character _ _ _ h (a_byte 10 0 at refl (omega arith) (omega arith) l))

  pub bracket_end : (u ≡ 13 → ⊥) → u ≡ 93 → starts (ascii "]>") (drop at s) ≡ true → Character (literal_byte u (drop at s)) s at (record { u = 256; next = at })
  unfolding literal_byte
  bracket_end n e h = pick_other_character _ _ _ (ne_eqb u 13 n) (pick_first_character _ _ _ (and_yes _ _ (eq-eqb u 93 e) h) (no_character at refl))

  pub bracket_alone : (u ≡ 13 → ⊥) → u ≡ 93 → at ≤ length s → starts (ascii "]>") (drop at s) ≡ false → Character (literal_byte u (drop at s)) s at (record { u = 93; next = at })
  unfolding literal_byte
  bracket_alone n e l h =
      pick_other_character _ _ _ (ne_eqb u 13 n) (pick_other_character _ _ _ (and_no_right _ _ h) (a_byte 93 0 at (ap (λ (c : ℕ). char_byte c 0) e) (omega arith) (omega arith) l))

  pub as_it_is : (u ≡ 13 → ⊥) → (u ≡ 93 → ⊥) → u < 256 → at ≤ length s → Character (literal_byte u (drop at s)) s at (record { u = u; next = at })
  unfolding literal_byte
  as_it_is n m b l = pick_other_character _ _ _ (ne_eqb u 13 n) (pick_other_character _ _ _ (and_no_left _ _ (ne_eqb u 93 m)) (a_byte u 0 at refl b (omega arith) l))

-- ---- the character at a place

module _ (s : List ℕ) (p u : ℕ) (l : p < length s) (e : u ≡ get_or s p 0) where
  front : char_in (drop p s) ≡ char_token u (drop (p + 1) s)
  unfolding char_in
  front = ap char_in (drop_next s p l) ∙ ap (λ (b : ℕ). char_token b (drop (p + 1) s)) (sym e)

  pub at_tag : u ≡ 60 → Character (char_in (drop p s)) s (p + 1) (record { u = 256; next = p })
  unfolding char_token
  at_tag h = same_character front (pick_first_character _ _ _ (eq-eqb u 60 h) (no_character p refl))

  pub at_reference : {r : CharRead} → (u ≡ 60 → ⊥) → u ≡ 38 → Character (reference (drop (p + 1) s)) s (p + 1) r → Character (char_in (drop p s)) s (p + 1) r
  unfolding char_token
  at_reference n h q = same_character front (pick_other_character _ _ _ (ne_eqb u 60 n) (pick_first_character _ _ _ (eq-eqb u 38 h) q))

  pub at_literal : {r : CharRead} → (u ≡ 60 → ⊥) → (u ≡ 38 → ⊥) → Character (literal_byte u (drop (p + 1) s)) s (p + 1) r → Character (char_in (drop p s)) s (p + 1) r
  unfolding char_token
  at_literal n m q = same_character front (pick_other_character _ _ _ (ne_eqb u 60 n) (pick_other_character _ _ _ (ne_eqb u 38 m) q))

pub past_end : (s : List ℕ) (p : ℕ) → length s ≤ p → Character (char_in (drop p s)) s (p + 1) (record { u = 256; next = p })
unfolding char_in
past_end s p l = no_character p (ap char_in (drop_of_length-le s l))
