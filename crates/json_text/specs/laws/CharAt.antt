-- Laws of the character at a place in a string.
--     Worth, worth_start, worth_on, worth_stop, worth_short, worth_end    the loop over the digits of a code unit
--     worth_inside, worth_first, pair_bounds  where there are digits
--     read_none, read_byte, read_escape       what a reading says
--     past_char, quote_char, plain_char, cut_char, letter_char, unit_char, none_char, pair_char, lone_char    what is read
--     chars_none, chars_char                  the characters from a place on, by the character there
--     length_past, length_none, length-char    the bytes of a string from a place on, by the character there
use Rattle.std.specs.Prelude.{◌≡◌, Bool, true, false, eqb, ltb, get_or}
use Rattle.std.proofs.Math.Path.{refl, sym, ap}
use Rattle.std.proofs.Common.{◌∙◌, drop_of_length-le, get_or-drop, rules}
use Rattle.std.proofs.lemmas.Bool.{false≢true}
use mathlib.Core.List.{List, [], ◌∷◌}
use Prim.Native.Nat.{ℕ, zero, suc, ◌+◌, ◌-◌, ◌*◌, ◌≤◌, ◌<◌}
use native.Mathlib.Omega.{arith}
use Rattle.std.proofs.Math.ListN.{length, drop, length-drop}
use Rattle.std.proofs.Math.Seq.{drop-drop}
use borrow.Author.Tests.{eq-eqb, ne_eqb, lt-ltb, le-ltb, eqb-false}
use Rattle.octets.specs.Pick.{pick, ◌and◌, ◌or◌}
use Rattle.octets.specs.laws.Pick.{within_range}
use Rattle.octets.specs.laws.Scan.{drop_next}
use Rattle.octets.specs.Append.{◌⊕◌}
use Rattle.utf8.specs.Spell.{spell}
use Rattle.json_text.specs.Bytes.{escape, letter_u, hex_value, grown, is_high, is_low}
use Rattle.json_text.specs.Strings.{Char, closing, char, named, hex_worth, paired, escaped, characters_by, characters_from, characters, length_by, length_from}
use Rattle.json_text.specs.CharAt.{char_in, stated, Escaped, Character}
use Rattle.json_text.specs.declared.CharRead.{CharRead}

-- ---- the digits of a code unit

pub worth_inside : (n v : ℕ) (l : List ℕ) → hex_worth n v l < 0x10000 → n ≤ length l
unfolding hex_worth pick
worth_inside zero v l h = omega arith
worth_inside (suc n) v [] h = omega arith
worth_inside (suc n) v (b ∷ l) h = go (eqb (hex_value b) 16) h (worth_inside n (grown v (hex_value b)) l)
  where
    go : (t : Bool) → pick t 0x10000 (hex_worth n (grown v (hex_value b)) l) < 0x10000 → (hex_worth n (grown v (hex_value b)) l < 0x10000 → n ≤ length l) → suc n ≤ suc (length l)
    go true h f = omega arith
    go false h f = let k = f h in omega arith

-- the first is a digit
pub worth_first : (n v : ℕ) (l : List ℕ) → hex_worth (suc n) v l < 0x10000 → get_or l 0 0 ≡ 92 → ⊥
unfolding hex_worth pick ◌and◌ ◌or◌
worth_first n v [] h e = omega arith
worth_first n v (b ∷ l) h e = go (rw e at h)
  where
    go : 0x10000 < 0x10000 → ⊥
    go h = omega arith

-- k digits are still to come, from i on; those before are worth v
pub record Worth (e : ℕ) (s : List ℕ) (k v i : ℕ) : Type 0 where
  pub left : e ≡ hex_worth k v (drop i s)

pub worth_start : (s : List ℕ) (at : ℕ) → Worth (hex_worth 4 0 (drop at s)) s 4 0 at
worth_start s at = record { left = refl }

worth_cons : (k v b : ℕ) (l : List ℕ) → 0 < k → hex_worth k v (b ∷ l) ≡ pick (eqb (hex_value b) 16) 0x10000 (hex_worth (k - 1) (grown v (hex_value b)) l)
unfolding hex_worth
worth_cons zero v b l h = omega arith
worth_cons (suc k) v b l h = let j : suc k - 1 ≡ k = omega arith in rw j

worth_none : (k v : ℕ) → 0 < k → hex_worth k v [] ≡ 0x10000
unfolding hex_worth
worth_none zero v h = omega arith
worth_none (suc k) v h = refl

module _ {e : ℕ} {s : List ℕ} {k v i : ℕ} (w : Worth e s k v i) (z : 0 < k) where
  module _ (h : i < length s) (d : ℕ) (q : d ≡ hex_value (get_or s i 0)) where
    here : e ≡ pick (eqb d 16) 0x10000 (hex_worth (k - 1) (grown v d) (drop (i + 1) s))
    here = w.left ∙ ap (hex_worth k v) (drop_next s i h) ∙ worth_cons k v (get_or s i 0) (drop (i + 1) s) z ∙ rw q

    pub worth_on : (d ≡ 16 → ⊥) → (v' : ℕ) → v' ≡ grown v d → Worth e s (k - 1) v' (i + 1)
    unfolding pick
    worth_on n v' g = record { left = here ∙ rw (ne_eqb d 16 n, g) }

    pub worth_stop : d ≡ 16 → 0x10000 ≡ e
    unfolding pick
    worth_stop n = sym (here ∙ rw (eq-eqb d 16 n))

  pub worth_short : length s ≤ i → 0x10000 ≡ e
  worth_short h = sym (w.left ∙ ap (hex_worth k v) (drop_of_length-le s h) ∙ worth_none k v z)

pub worth_end : {e : ℕ} {s : List ℕ} {k v i : ℕ} → Worth e s k v i → k ≤ 0 → v ≡ e
unfolding hex_worth
worth_end {e} {s} {k} {v} {i} w z = let o : k ≡ 0 = omega arith in sym (w.left ∙ rw o)

pub pair_bounds : (h l : ℕ) → is_high h ≡ true → is_low l ≡ true → (0xD800 ≤ h) × (h ≤ 0xDBFF) × (0xDC00 ≤ l) × (l ≤ 0xDFFF)
pair_bounds h l a b = let c = within_range 0xD800 0xDBFF h a in let d = within_range 0xDC00 0xDFFF l b in (c.0, c.1, d.0, d.1)

-- ---- what a reading says

module _ {s : List ℕ} {p : ℕ} {r : CharRead} (c : Character s p r) where
  pub read_none : r.u ≡ 256 → char_in (drop p s) ≡ closing
  unfolding pick
  read_none h = c.is ∙ rw (eq-eqb r.u 256 h)

  pub read_byte : r.u < 256 → char_in (drop p s) ≡ char (r.u ∷ []) (r.next - (p + 1))
  unfolding pick
  read_byte h = c.is ∙ rw (ne_eqb r.u 256 (λ e. omega arith), lt-ltb r.u 256 h)

  pub read_escape : 256 < r.u → char_in (drop p s) ≡ char (spell (r.u - 257)) (r.next - (p + 1))
  unfolding pick
  read_escape h = c.is ∙ rw (ne_eqb r.u 256 (λ e. omega arith), le-ltb r.u 256 (omega arith))

-- ---- what is read

module _ (s : List ℕ) (p : ℕ) where
  pub no_char : (n : ℕ) → char_in (drop p s) ≡ closing → Character s p (record { u = 256; next = n })
  unfolding pick
  no_char n e = record { is = e; high = omega arith; inside = λ h. absurd (h refl); digits = λ h. absurd (none h) }
    where
      none : 256 < 256 → ⊥
      none h = omega arith

  a_byte : (c k : ℕ) → char_in (drop p s) ≡ char (c ∷ []) k → c < 256 → p + 1 + k ≤ length s → Character s p (record { u = c; next = p + 1 + k })
  unfolding pick
  a_byte c k e h l =
      let j : p + 1 + k - (p + 1) ≡ k = omega arith in
      record { is = e ∙ rw (ne_eqb c 256 (λ q. omega arith), lt-ltb c 256 h, j); high = omega arith; inside = λ q. (omega arith, l); digits = λ q. absurd (none q) }
    where
      none : 256 < c → ⊥
      none q = omega arith

  an_escape : (v n : ℕ) → char_in (drop p s) ≡ char (spell v) (n - (p + 1)) → v < 0x110000 → n ≤ length s → Escaped s p n → Character s p (record { u = 257 + v; next = n })
  unfolding pick
  an_escape v n e h l d =
      let i : 257 + v - 257 ≡ v = omega arith in
      record {
        is = e ∙ rw (ne_eqb (257 + v) 256 (λ q. omega arith), le-ltb (257 + v) 256 (omega arith), i);
        high = omega arith;
        inside = λ q. (omega (arith, d.wide), l);
        digits = λ q. d;
      }

  pub past_char : (n : ℕ) → length s ≤ p → Character s p (record { u = 256; next = n })
  unfolding char_in
  past_char n h = no_char n (rw (drop_of_length-le s h))

  module _ (h : p < length s) where
    module _ (u : ℕ) (e : u ≡ get_or s p 0) where
      pub quote_char : (n : ℕ) → u ≡ 34 → Character s p (record { u = 256; next = n })
      unfolding char_in pick
      quote_char n q = no_char n (rw (drop_next s p h, ← e, q))

      pub plain_char : (u ≡ 34 → ⊥) → (u ≡ 92 → ⊥) → u < 256 → Character s p (record { u = u; next = p + 1 })
      unfolding char_in pick
      plain_char a b l =
          let k : p + 1 + 0 ≡ p + 1 = omega arith in
          rw k at (a_byte u 0 (rw (drop_next s p h, ← e, ne_eqb u 34 a, ne_eqb u 92 b)) l (omega arith))

    module _ (b : get_or s p 0 ≡ escape) where
      behind : char_in (drop p s) ≡ escaped (drop (p + 1) s)
      unfolding char_in pick
      behind = rw (drop_next s p h, b)

      pub cut_char : (n : ℕ) → length s ≤ p + 1 → Character s p (record { u = 256; next = n })
      unfolding escaped
      cut_char n l = no_char n (behind ∙ rw (drop_of_length-le s l))

      module _ (i : p + 1 < length s) where
        pub letter_char : (c u : ℕ) → c ≡ get_or s (p + 1) 0 → (c ≡ letter_u → ⊥) → u ≡ named c → u < 256 → Character s p (record { u = u; next = p + 2 })
        unfolding escaped pick
        letter_char c u e n m l =
            let k : p + 1 + 1 ≡ p + 2 = omega arith in
            rw k at (a_byte u 1 (behind ∙ rw (drop_next s (p + 1) i, ← e, ne_eqb c letter_u n, ← m)) l (omega arith))

        module _ (c : get_or s (p + 1) 0 ≡ letter_u) (v : ℕ) (q : v ≡ hex_worth 4 0 (drop (p + 2) s)) where
          two : p + 1 + 1 ≡ p + 2
          two = omega arith

          six : p + 2 + 6 ≡ p + 8
          six = omega arith

          by_unit : char_in (drop p s) ≡ pick (is_high v) (pick (is_low (hex_worth 4 0 (drop 6 (drop (p + 2) s)))) (char (spell (paired v (hex_worth 4 0 (drop 6 (drop (p + 2) s))))) 11) closing) (pick (ltb v 0x10000) (char (spell v) 5) closing)
          unfolding escaped pick
          by_unit = behind ∙ rw (drop_next s (p + 1) i, c, two, ← q)

          first_three : (n : ℕ) → p + 6 ≤ n → v < 0x10000 → Escaped s p n
          first_three n w l = record {
            wide = w;
            begins = b;
            second = λ e. apart (sym c ∙ e);
            third = λ e. worth_first 3 0 (drop (p + 2) s) (rw (← q) l) (get_or-drop (p + 2) s 0 0 ∙ rw zero_more e);
          }
            where
              apart : ◌≡◌ {A = ℕ} 0x75 92 → ⊥
              apart e = omega arith

              zero_more : p + 2 + 0 ≡ p + 2
              zero_more = omega arith

          pub unit_char : is_high v ≡ false → v < 0x10000 → Character s p (record { u = 257 + v; next = p + 6 })
          unfolding pick
          unit_char n l =
              let k : p + 6 - (p + 1) ≡ 5 = omega arith in
              let w = worth_inside 4 0 (drop (p + 2) s) (rw (← q) l) in
              an_escape v (p + 6) (by_unit ∙ rw (n, lt-ltb v 0x10000 l, k)) (omega arith) (omega (arith, w, length-drop (p + 2) s)) (first_three (p + 6) (omega arith) l)

          pub none_char : (n : ℕ) → is_high v ≡ false → 0x10000 ≤ v → Character s p (record { u = 256; next = n })
          unfolding pick
          none_char n f l = no_char n (by_unit ∙ rw (f, le-ltb v 0x10000 l))

          module _ (y : is_high v ≡ true) (l : ℕ) (r : l ≡ hex_worth 4 0 (drop (p + 8) s)) where
            by_pair : char_in (drop p s) ≡ pick (is_low l) (char (spell (paired v l)) 11) closing
            unfolding pick
            by_pair = by_unit ∙ rw (y, drop-drop 6 (p + 2) s, six, ← r)

            pub lone_char : (n : ℕ) → is_low l ≡ false → Character s p (record { u = 256; next = n })
            unfolding pick
            lone_char n f = no_char n (by_pair ∙ rw f)

            pub pair_char : (g : ℕ) → is_low l ≡ true → g ≡ paired v l → g < 0x110000 → Character s p (record { u = 257 + g; next = p + 12 })
            unfolding pick
            pair_char g t e m =
                let k : p + 12 - (p + 1) ≡ 11 = omega arith in
                let a = within_range 0xDC00 0xDFFF l t in
                let d = within_range 0xD800 0xDBFF v y in
                let w = worth_inside 4 0 (drop (p + 8) s) (rw (← r) (omega arith)) in
                an_escape g (p + 12) (by_pair ∙ rw (t, ← e, k)) m (omega (arith, w, length-drop (p + 8) s)) (first_three (p + 12) (omega arith) (omega arith))

-- ---- the characters from a place on

characters_skip : (l : List ℕ) (k : ℕ) → characters_from l k ≡ characters_from (drop k l) 0
unfolding characters_from
characters_skip [] zero = refl
characters_skip [] (suc k) = refl
characters_skip (b ∷ l) zero = refl
characters_skip (b ∷ l) (suc k) = characters_skip l k

length_skip : (l : List ℕ) (k : ℕ) → k ≤ length l → length_from l k ≡ k + length_from (drop k l) 0
unfolding length_from
length_skip l zero h = omega arith
length_skip [] (suc k) h = omega arith
length_skip (b ∷ l) (suc k) h = let e = length_skip l k (omega arith) in omega arith

module _ (s : List ℕ) (p : ℕ) where
  pub chars_none : char_in (drop p s) ≡ closing → characters (drop p s) ≡ []
  unfolding char_in characters_from characters_by
  chars_none h = go (drop p s) h
    where
      go : (l : List ℕ) → char_in l ≡ closing → characters_from l 0 ≡ []
      go [] h = refl
      go (b ∷ l) h = rw h

  pub chars_char : (bs : List ℕ) (k : ℕ) → char_in (drop p s) ≡ char bs k → characters (drop p s) ≡ bs ⊕ characters (drop (p + 1 + k) s)
  unfolding char_in characters_from characters_by
  chars_char bs k h = go (drop p s) refl h
    where
      go : (l : List ℕ) → drop p s ≡ l → char_in l ≡ char bs k → characters_from l 0 ≡ bs ⊕ characters_from (drop (p + 1 + k) s) 0
      go [] e h = cc
      go (b ∷ l) e h =
          let t : l ≡ drop (p + 1) s = ap (drop 1) (sym e) ∙ drop-drop 1 p s in
          rw (h, characters_skip l k, t, drop-drop k (p + 1) s)

  pub length_past : length s ≤ p → length_from (drop p s) 0 ≡ 0
  unfolding length_from
  length_past h = rw (drop_of_length-le s h)

  pub length_none : p < length s → char_in (drop p s) ≡ closing → length_from (drop p s) 0 ≡ 1
  unfolding char_in length_from length_by
  length_none h e = rw (drop_next s p h) (rw (rw (drop_next s p h) at e))

  pub length-char : (bs : List ℕ) (k : ℕ) → p + 1 + k ≤ length s → char_in (drop p s) ≡ char bs k → length_from (drop p s) 0 ≡ 1 + k + length_from (drop (p + 1 + k) s) 0
  unfolding char_in length_from length_by
  length-char bs k l e =
      let h : p < length s = omega arith in
      let a : length_from (drop (p + 1) s) k ≡ k + length_from (drop k (drop (p + 1) s)) 0 = length_skip (drop (p + 1) s) k (omega (arith, length-drop (p + 1) s)) in
      let d : suc (k + length_from (drop (p + 1 + k) s) 0) ≡ 1 + k + length_from (drop (p + 1 + k) s) 0 = omega arith in
      rw (drop_next s p h) (rw (rw (drop_next s p h) at e, a, drop-drop k (p + 1) s) d)
