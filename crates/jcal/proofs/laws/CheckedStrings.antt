-- A string of a JSON text that passes the checks states text: well-formed UTF-8 of permitted characters, without CR (RFC 8259, section 7).
--     Goes, choose, bad_not  what a move that is not refused can be
--     Left                 what is left behind a token: the check goes on there, and a character begins
--     string_text          the characters of a string, and what is left behind it
use Rattle.std.specs.Prelude.{◌≡◌, Bool, ltb, leb, None, Option, Some}
use Rattle.std.proofs.Math.Path.{refl, sym, ap, subst}
use Rattle.std.proofs.Common.{◌∙◌, drop-drop}
use Rattle.std.proofs.Math.Bool.{true, false}
use Rattle.std.proofs.lemmas.Bool.{false≢true}
use mathlib.Core.List.{List, [], ◌∷◌}
use Prim.Native.Nat.{ℕ, zero, suc, ◌+◌, ◌-◌, ◌≤◌, ◌<◌}
use native.Mathlib.Omega.{arith}
use Rattle.std.proofs.Math.Dec.{eqb}
use Rattle.std.proofs.Math.ListN.{drop}
use borrow.Author.Tests.{eqb-true, ne_eqb, lt-ltb, le-leb, ltb-true, ltb-false, eqb-false}
use Rattle.octets.specs.Pick.{pick, within, ◌and◌, ◌or◌}
use Rattle.octets.specs.laws.Pick.{pick_case, or_left, or_right, or_no, or_cases, or_neither, within_range, within_yes, within_wider}
use Rattle.octets.specs.Append.{◌⊕◌}
use Rattle.octets.specs.laws.Append.{append_empty, append_none, append_regroup}
use Rattle.octets.specs.Class.{is_digit}
use Rattle.octets.specs.Words.{holds}
use Rattle.octets.specs.laws.Words.{holds_neither, all_without}
use Rattle.utf8.specs.Utf8.{is_ascii, first_bad}
use Rattle.utf8.specs.laws.Utf8.{good_shifted, good_append, good_split, ascii_first}
use Rattle.utf8.specs.Spell.{spell, is_character}
use Rattle.utf8.specs.laws.Spell.{spell_ascii, spell_high, spell_good}
use Rattle.utf8.specs.Computing.{utf8_compute}
use Rattle.json_text.specs.Bytes.{letter_u, names_good, names_bad, hex_value, grown, is_high, is_low, named_bad}
use Rattle.json_text.specs.Check.{named, low_pair, move, end, Container, around, followed, check}
use Rattle.json_text.specs.Strings.{char, named as lettered, hex_worth, paired, escaped, char_at, characters_by, characters_from, length_by, length_from}
use Rattle.json_text.specs.laws.CharAt.{pair_bounds}
use Rattle.json_text.specs.declared.Around.{Around}
use Rattle.json_text.specs.declared.Expect.{Expect}
use Rattle.json_text.specs.declared.Expect.TheVariants.{Colon, After}
use Rattle.json_text.specs.declared.Inside.TheVariants.{Chars, Escape, Hex, High, HighEscape, Low}
use Rattle.json_text.specs.declared.State.{State}
use Rattle.json_text.specs.declared.State.TheVariants.{Expects, InString}
use Rattle.json_text.specs.declared.Move.{Move}
use Rattle.json_text.specs.declared.Move.TheVariants.{To, Bad}

-- ---- what is not refused

abbrev is_fine : Option ℕ → Bool
is_fine None = true
is_fine (Some p) = false

pub not_fine : {X : Type 0} (p : ℕ) → Some p ≡ None → X
not_fine p e = absurd (false≢true (ap is_fine e))

-- what a move leads to is not refused, `rest` being the check of the bytes behind it
pub record Goes (m : Move) (limit i : ℕ) (cs : List Container) (rest : State → List Container → Option ℕ) : Type 0 where
  pub fine : followed m limit i cs rest ≡ None

pub goes : (b : ℕ) (s : List ℕ) (limit i : ℕ) (st : State) (cs : List Container) → check (b ∷ s) limit i st cs ≡ None → Goes (move st (around cs) i b) limit i cs (check s limit (i + 1))
unfolding check
goes b s limit i st cs h = record { fine = h }

module _ {limit i : ℕ} {cs : List Container} {rest : State → List Container → Option ℕ} where
  pub choose : {X : Type 0} (t : Bool) (a b : Move) → Goes (pick t a b) limit i cs rest → (t ≡ true → Goes a limit i cs rest → X) → (t ≡ false → Goes b limit i cs rest → X) → X
  unfolding pick
  choose true a b h f g = f refl h
  choose false a b h f g = g refl h

  pub bad_not : {X : Type 0} (p : ℕ) → Goes (Bad p) limit i cs rest → X
  unfolding followed
  bad_not p h = not_fine p h.fine

  pub to_state : (st : State) → Goes (To st) limit i cs rest → rest st cs ≡ None
  unfolding followed
  to_state st h = h.fine

-- ---- bytes

-- behind a byte of ASCII a character begins
pub past_ascii : (b : ℕ) (s : List ℕ) → is_ascii b ≡ true → first_bad (b ∷ s) ≡ None → first_bad s ≡ None
past_ascii b s a h = good_shifted s 0 (0 + 1) 0 (sym (ascii_first b 0 s a) ∙ h)

-- a hexadecimal digit
hex_digit : (b : ℕ) → eqb (hex_value b) 16 ≡ false → (hex_value b < 16) × (is_ascii b ≡ true)
hex_digit b h =
    pick_case P (is_digit b) _ _ (λ e k. let r = within_range 48 57 b e in (omega arith, or_left _ _ (within_wider 48 57 0x20 0x7E b (omega arith) (omega arith) e)))
    (λ e. pick_case P (within 0x41 0x46 b) _ _ (λ e k. let r = within_range 0x41 0x46 b e in (omega arith, or_left _ _ (within_wider 0x41 0x46 0x20 0x7E b (omega arith) (omega arith) e)))
    (λ e. pick_case P (within 0x61 0x66 b) _ _ (λ e k. let r = within_range 0x61 0x66 b e in (omega arith, or_left _ _ (within_wider 0x61 0x66 0x20 0x7E b (omega arith) (omega arith) e)))
    (λ e k. absurd (false≢true (sym k)))))
    h
  where
    P : ℕ → Type 0
    P x = eqb x 16 ≡ false → (x < 16) × (is_ascii b ≡ true)

-- ---- characters that an escape names

no_return : is_character 13 ≡ false
unfolding utf8_compute
no_return = refl

spell_plain : (v : ℕ) → is_character v ≡ true → holds 13 (spell v) ≡ false
unfolding holds
spell_plain v h = go (ltb v 0x80) refl
  where
    go : (t : Bool) → ltb v 0x80 ≡ t → holds 13 (spell v) ≡ false
    go true e = ap (holds 13) (spell_ascii v (ltb-true v 0x80 e)) ∙ or_no _ _ (ne_eqb 13 v (λ z. false≢true (sym no_return ∙ ap is_character z ∙ h))) refl
    go false e = all_without (leb 0x80) 13 refl (spell v) (spell_high v (ltb-false v 0x80 e))

not_within : (lo hi x : ℕ) → within lo hi x ≡ false → lo ≤ x → hi < x
not_within lo hi x h l = go (ltb hi x) refl
  where
    go : (t : Bool) → ltb hi x ≡ t → hi < x
    go true e = ltb-true hi x e
    go false e = let k = ltb-false hi x e in absurd (false≢true (sym h ∙ within_yes lo hi x (le-leb lo x l) (le-leb x hi k)))

-- a code unit that is no surrogate and that a string may name
unit_character : (v : ℕ) → is_high v ≡ false → named_bad v ≡ false → v < 0x10000 → is_character v ≡ true
unfolding is_character
unit_character v h k l =
    let a = or_neither (is_low v) _ k in
    let b = or_neither (within 0x0 0x8 v) _ a.1 in
    let c = or_neither (within 0xB 0x1F v) _ b.1 in
    let d = or_neither (eqb v 0x7F) (within 0xFFFE 0xFFFF v) c.1 in
    let low : 0x8 < v = not_within 0x0 0x8 v b.0 (omega arith) in
    let del : (v ≡ 0x7F → ⊥) = eqb-false v 0x7F d.0 in
    go (ltb v 0x20) refl (ltb v 0x80) refl (ltb v 0xD800) refl low del (not_within 0xB 0x1F v c.0) (not_within 0xD800 0xDBFF v h) (not_within 0xDC00 0xDFFF v a.0) (not_within 0xFFFE 0xFFFF v d.1)
  where
    one : (lo hi : ℕ) → lo ≤ v → v ≤ hi → within lo hi v ≡ true
    one lo hi p q = within_yes lo hi v (le-leb lo v p) (le-leb v hi q)

    control : (t : Bool) → eqb v 9 ≡ t → (u : Bool) → eqb v 10 ≡ u → 0x8 < v → v < 0x20 → (0xB ≤ v → 0x1F < v) → (eqb v 9 or eqb v 10 or within 0x80 0xD7FF v or within 0xE000 0xFFFD v or within 0x10000 0x10FFFF v) ≡ true
    control true e u f p q r = or_left _ _ e
    control false e true f p q r = or_right _ _ (or_left _ _ f)
    control false e false f p q r =
        let x : (v ≡ 9 → ⊥) = eqb-false v 9 e in
        let y : (v ≡ 10 → ⊥) = eqb-false v 10 f in
        let z : 0xB ≤ v = apart p x y in
        let w = r z in
        absurd (omega arith)
      where
        apart : 0x8 < v → (v ≡ 9 → ⊥) → (v ≡ 10 → ⊥) → 0xB ≤ v
        apart p x y = omega arith

    go : (t : Bool) → ltb v 0x20 ≡ t → (u : Bool) → ltb v 0x80 ≡ u → (w : Bool) → ltb v 0xD800 ≡ w → 0x8 < v → (v ≡ 0x7F → ⊥) → (0xB ≤ v → 0x1F < v) → (0xD800 ≤ v → 0xDBFF < v) → (0xDC00 ≤ v → 0xDFFF < v) →
        (0xFFFE ≤ v → 0xFFFF < v) → (within 0x20 0x7E v or eqb v 9 or eqb v 10 or within 0x80 0xD7FF v or within 0xE000 0xFFFD v or within 0x10000 0x10FFFF v) ≡ true
    go true e u f w g low del ctl hi lo last = or_right _ _ (control (eqb v 9) refl (eqb v 10) refl low (ltb-true v 0x20 e) ctl)
    go false e true f w g low del ctl hi lo last =
        let p = ltb-false v 0x20 e in
        let q = ltb-true v 0x80 f in
        or_left _ _ (one 0x20 0x7E p (omega arith))
    go false e false f true g low del ctl hi lo last =
        let p = ltb-false v 0x80 f in
        let q = ltb-true v 0xD800 g in
        or_right _ _ (or_right _ _ (or_right _ _ (or_left _ _ (one 0x80 0xD7FF p (omega arith)))))
    go false e false f false g low del ctl hi lo last =
        let p = ltb-false v 0xD800 g in
        let q = hi p in
        let r = lo (omega arith) in
        or_right _ _ (or_right _ _ (or_right _ _ (or_right _ _ (or_left _ _ (one 0xE000 0xFFFD (omega arith) (below last))))))
      where
        below : (0xFFFE ≤ v → 0xFFFF < v) → v ≤ 0xFFFD
        below f = side (ltb v 0xFFFE) refl
          where
            side : (t : Bool) → ltb v 0xFFFE ≡ t → v ≤ 0xFFFD
            side true e = let k = ltb-true v 0xFFFE e in omega arith
            side false e = let k = f (ltb-false v 0xFFFE e) in omega arith

pair_character : (h l : ℕ) → is_high h ≡ true → is_low l ≡ true → is_character (paired h l) ≡ true
unfolding is_character
pair_character h l a b =
    let k = pair_bounds h l a b in
    or_right _ _ (or_right _ _ (or_right _ _ (or_right _ _ (or_right _ _ (within_yes 0x10000 0x10FFFF (paired h l) (le-leb 0x10000 (paired h l) (omega arith)) (le-leb (paired h l) 0x10FFFF (omega arith)))))))

-- the letter of an escape
letter_ascii : (d : ℕ) → names_good d ≡ true → is_ascii d ≡ true
unfolding ◌and◌ ◌or◌
letter_ascii d h =
    or_cases (eqb d 0x22) _ h (λ e. rw (eqb-true d 0x22 e)) (λ h.
    or_cases (eqb d 0x5C) _ h (λ e. rw (eqb-true d 0x5C e)) (λ h.
    or_cases (eqb d 0x2F) _ h (λ e. rw (eqb-true d 0x2F e)) (λ h.
    or_cases (eqb d 0x6E) _ h (λ e. rw (eqb-true d 0x6E e)) (λ e. rw (eqb-true d 0x74 e)))))

letter_named : (d : ℕ) → names_good d ≡ true → is_character (lettered d) ≡ true
unfolding utf8_compute
letter_named d h =
    or_cases (eqb d 0x22) _ h (λ e. rw (eqb-true d 0x22 e)) (λ h.
    or_cases (eqb d 0x5C) _ h (λ e. rw (eqb-true d 0x5C e)) (λ h.
    or_cases (eqb d 0x2F) _ h (λ e. rw (eqb-true d 0x2F e)) (λ h.
    or_cases (eqb d 0x6E) _ h (λ e. rw (eqb-true d 0x6E e)) (λ e. rw (eqb-true d 0x74 e)))))

letter_small : (d : ℕ) → names_good d ≡ true → lettered d < 0x80
unfolding pick
letter_small d h =
    or_cases (eqb d 0x22) _ h (λ e. rw (eqb-true d 0x22 e) (omega arith)) (λ h.
    or_cases (eqb d 0x5C) _ h (λ e. rw (eqb-true d 0x5C e) (omega arith)) (λ h.
    or_cases (eqb d 0x2F) _ h (λ e. rw (eqb-true d 0x2F e) (omega arith)) (λ h.
    or_cases (eqb d 0x6E) _ h (λ e. rw (eqb-true d 0x6E e) (omega arith)) (λ e. rw (eqb-true d 0x74 e) (omega arith)))))

module _ (limit : ℕ) where
  -- ---- what is left behind a token

  pub record Left (s : List ℕ) (cs : List Container) : Type 0 where
    pub at : ℕ
    pub expect : Expect
    pub fine : check s limit at (Expects expect) cs ≡ None
    pub good : first_bad s ≡ None

  -- ---- hexadecimal digits

  -- k digits behind the next one, those before worth v: what the code unit leads to is not refused
  record Digits (F : ℕ → Move) (k v : ℕ) (r : List ℕ) (cs : List Container) : Type 0 where
    small : hex_worth (suc k) v r < 0x10000
    good : first_bad r ≡ None → first_bad (drop (suc k) r) ≡ None
    at : ℕ
    next : Goes (F (hex_worth (suc k) v r)) limit at cs (check (drop (suc k) r) limit (at + 1))

  grown_small : (v d : ℕ) → d < 16 → grown v d < 0x10000
  grown_small v d h = omega arith

  -- of a state T k v, and what a code unit leads to
  module _ (T : ℕ → ℕ → State) (F : ℕ → Move) (bad : ℕ → ℕ)
      (step : (k v : ℕ) (a : Around) (i b : ℕ) → move (T k v) a i b ≡ pick (eqb (hex_value b) 16) (Bad (bad i)) (pick (eqb k 0) (F (grown v (hex_value b))) (To (T (k - 1) (grown v (hex_value b))))))
      (over : (k v l : ℕ) (a : Around) → end (T k v) a l ≡ None → ⊥) where
    digits_run : (k v : ℕ) (r : List ℕ) (i : ℕ) (cs : List Container) → check r limit i (T k v) cs ≡ None → Digits F k v r cs
    unfolding check hex_worth pick
    digits_run k v [] i cs h = absurd (over k v i (around cs) h)
    digits_run zero v (b ∷ r) i cs h =
        choose (eqb (hex_value b) 16) _ _ (rw (step 0 v (around cs) i b) at (goes b r limit i (T 0 v) cs h)) (λ e k. bad_not (bad i) k)
        (λ e k. let d = hex_digit b e in record { small = rw e (grown_small v (hex_value b) d.0); good = past_ascii b r d.1; at = i; next = rw e k })
    digits_run (suc k) v (b ∷ r) i cs h =
        choose (eqb (hex_value b) 16) _ _ (rw (step (suc k) v (around cs) i b) at (goes b r limit i (T (suc k) v) cs h)) (λ e k. bad_not (bad i) k)
        (λ e g.
        let d = hex_digit b e in
        let z : suc k - 1 ≡ k = omega arith in
        let f : eqb (suc k) 0 ≡ false = ne_eqb (suc k) 0 (λ w. omega arith) in
        let q = digits_run k (grown v (hex_value b)) r (i + 1) cs (to_state _ (rw (f, z) at g)) in
        record { small = rw e q.small; good = λ w. q.good (past_ascii b r d.1 w); at = q.at; next = rw e q.next })

  -- ---- a string

  -- of what is left, behind k bytes more that belong to a character, with the bytes u of this string before it
  pub record Quoted (s : List ℕ) (k : ℕ) (u : List ℕ) (cs : List Container) : Type 0 where
    pub good : first_bad (u ⊕ characters_from s k) ≡ None
    pub plain : holds 13 (characters_from s k) ≡ false
    pub left : Left (drop (length_from s k) s) cs

  -- a character of the bytes w, of which k bytes of the text follow
  char_quoted : (b : ℕ) (s w : List ℕ) (k : ℕ) (u : List ℕ) (cs : List Container) → char_at b s ≡ char w k → first_bad u ≡ None → first_bad w ≡ None → holds 13 w ≡ false → Quoted s k [] cs → Quoted (b ∷ s) 0 u cs
  unfolding characters_from characters_by length_from length_by
  char_quoted b s w k u cs e g h p q = record {
    good = rw e (good_append u (w ⊕ characters_from s k) g (good_append w (characters_from s k) h (rw (append_empty (characters_from s k)) at q.good)));
    plain = rw e (holds_neither 13 w (characters_from s k) p q.plain);
    left = rw e q.left;
  }

  -- a byte that stands for itself
  byte_quoted : (b : ℕ) (s u : List ℕ) (cs : List Container) → char_at b s ≡ char (b ∷ []) 0 → eqb 13 b ≡ false → Quoted s 0 (u ⊕ (b ∷ [])) cs → Quoted (b ∷ s) 0 u cs
  unfolding characters_from characters_by length_from length_by holds
  byte_quoted b s u cs e c q = record {
    good = rw (e, ← (append_regroup u (b ∷ []) (characters_from s 0))) q.good;
    plain = rw e (holds_neither 13 (b ∷ []) (characters_from s 0) (or_no _ _ c refl) q.plain);
    left = rw e q.left;
  }

  -- the quotation mark that closes it
  close_quoted : (s u : List ℕ) (cs : List Container) → first_bad (u ⊕ (34 ∷ s)) ≡ None → (i : ℕ) (e : Expect) → check s limit i (Expects e) cs ≡ None → Quoted (34 ∷ s) 0 u cs
  unfolding characters_from characters_by length_from length_by utf8_compute
  close_quoted s u cs h i e c =
      let g = good_split u (34 ∷ s) refl h in
      record { good = rw (append_none u) g.0; plain = refl; left = record { at = i; expect = e; fine = c; good = past_ascii 34 s refl g.1 } }

  -- what is known of the rest of a text
  abbrev Strings : List ℕ → Type 0
  Strings s = (k i : ℕ) (u : List ℕ) (n : Bool) (cs : List Container) → first_bad (u ⊕ drop k s) ≡ None → check (drop k s) limit i (InString n Chars) cs ≡ None → Quoted s k u cs

  module _ (u : List ℕ) (n : Bool) (cs : List Container) (g : first_bad u ≡ None) where
    letter_quoted : (d : ℕ) (r : List ℕ) (i : ℕ) → Strings (d ∷ r) → eqb d letter_u ≡ false → names_good d ≡ true → first_bad (d ∷ r) ≡ None → check r limit i (InString n Chars) cs ≡ None → Quoted (92 ∷ d ∷ r) 0 u cs
    unfolding escaped pick
    letter_quoted d r i ih e l h c =
        let w = letter_named d l in
        let z = spell_ascii (lettered d) (letter_small d l) in
        char_quoted 92 (d ∷ r) (lettered d ∷ []) 1 u cs (rw e) g (rw z at (spell_good (lettered d) w)) (rw z at (spell_plain (lettered d) w))
        (ih 1 i [] n cs (rw (append_empty r) (past_ascii d r (letter_ascii d l) h)) c)

    -- a code unit of its own
    unit_quoted : (r : List ℕ) (i : ℕ) → Strings (117 ∷ r) → hex_worth 4 0 r < 0x10000 → is_high (hex_worth 4 0 r) ≡ false → named_bad (hex_worth 4 0 r) ≡ false → first_bad (drop 4 r) ≡ None →
        check (drop 4 r) limit i (InString n Chars) cs ≡ None → Quoted (92 ∷ 117 ∷ r) 0 u cs
    unfolding escaped pick
    unit_quoted r i ih l a b h c =
        let w = unit_character (hex_worth 4 0 r) a b l in
        char_quoted 92 (117 ∷ r) (spell (hex_worth 4 0 r)) 5 u cs (rw (a, lt-ltb (hex_worth 4 0 r) 0x10000 l)) g (spell_good _ w) (spell_plain _ w) (ih 5 i [] n cs (rw (append_empty (drop 4 r)) h) c)

    -- a high surrogate and a low one, r being behind `\u` of the first, t behind that of the second
    pair_quoted : (r t : List ℕ) (i : ℕ) → Strings (117 ∷ r) → drop 6 r ≡ t → is_high (hex_worth 4 0 r) ≡ true → is_low (hex_worth 4 0 t) ≡ true → first_bad (drop 4 t) ≡ None →
        check (drop 4 t) limit i (InString n Chars) cs ≡ None → Quoted (92 ∷ 117 ∷ r) 0 u cs
    unfolding escaped pick
    pair_quoted r t i ih e a b h c =
        let w = pair_character (hex_worth 4 0 r) (hex_worth 4 0 t) a b in
        let z : drop 10 r ≡ drop 4 t = sym (drop-drop 4 6 r) ∙ ap (drop 4) e in
        char_quoted 92 (117 ∷ r) (spell (paired (hex_worth 4 0 r) (hex_worth 4 0 t))) 11 u cs (rw (a, e, b)) g (spell_good _ w) (spell_plain _ w)
        (ih 11 i [] n cs (rw (append_empty (drop 10 r), z) h) (rw z c))

    -- behind a high surrogate, whose escape is at `from`
    high_quoted : (r : List ℕ) (from i : ℕ) → Strings (117 ∷ r) → is_high (hex_worth 4 0 r) ≡ true → first_bad (drop 4 r) ≡ None → check (drop 4 r) limit i (InString n (High from)) cs ≡ None → Quoted (92 ∷ 117 ∷ r) 0 u cs
    unfolding check utf8_compute
    high_quoted r from i ih a h c = first (drop 4 r) refl h c
      where
        second : (t : List ℕ) (j : ℕ) → drop 6 r ≡ t → first_bad t ≡ None → check t limit j (InString n (Low from 3 0)) cs ≡ None → Quoted (92 ∷ 117 ∷ r) 0 u cs
        second t j e h c =
            let q = digits_run (λ k v. InString n (Low from k v)) (low_pair n from) (λ i. from) (λ k v a i b. refl) (λ k v l a e. not_fine from e) 3 0 t j cs c in
            choose (is_low (hex_worth 4 0 t)) _ _ q.next (λ b k. pair_quoted r t (q.at + 1) ih e a b (q.good h) (to_state _ k)) (λ b k. bad_not from k)

        letter : (t : List ℕ) (j : ℕ) → drop 5 r ≡ t → first_bad t ≡ None → check t limit j (InString n (HighEscape from)) cs ≡ None → Quoted (92 ∷ 117 ∷ r) 0 u cs
        letter [] j e h c = not_fine from c
        letter (y ∷ t) j e h c =
            choose (eqb y letter_u) _ _ (goes y t limit j (InString n (HighEscape from)) cs c)
            (λ b k. second t (j + 1) (sym (drop-drop 1 5 r) ∙ ap (drop 1) e) (past_ascii 117 t refl (subst (λ (x : ℕ). first_bad (x ∷ t) ≡ None) (eqb-true y 117 b) h)) (to_state _ k))
            (λ b k. bad_not from k)

        first : (t : List ℕ) → drop 4 r ≡ t → first_bad t ≡ None → check t limit i (InString n (High from)) cs ≡ None → Quoted (92 ∷ 117 ∷ r) 0 u cs
        first [] e h c = not_fine from c
        first (x ∷ t) e h c =
            choose (eqb x 92) _ _ (goes x t limit i (InString n (High from)) cs c)
            (λ b k. letter t (i + 1) (sym (drop-drop 1 4 r) ∙ ap (drop 1) e) (past_ascii 92 t refl (subst (λ (x : ℕ). first_bad (x ∷ t) ≡ None) (eqb-true x 92 b) h)) (to_state _ k))
            (λ b k. bad_not from k)

    -- behind `\u`
    hex_quoted : (r : List ℕ) (from i : ℕ) → Strings (117 ∷ r) → first_bad r ≡ None → check r limit i (InString n (Hex from 3 0)) cs ≡ None → Quoted (92 ∷ 117 ∷ r) 0 u cs
    hex_quoted r from i ih h c =
        let q = digits_run (λ k v. InString n (Hex from k v)) (named n from) (λ i. i) (λ k v a i b. refl) (λ k v l a e. not_fine l e) 3 0 r i cs c in
        choose (is_high (hex_worth 4 0 r)) _ _ q.next (λ a k. high_quoted r from (q.at + 1) ih a (q.good h) (to_state _ k))
        (λ a k. choose (named_bad (hex_worth 4 0 r)) _ _ k (λ b k. bad_not from k) (λ b k. unit_quoted r (q.at + 1) ih q.small a b (q.good h) (to_state _ k)))

    escape_quoted : (s : List ℕ) (from i : ℕ) → Strings s → first_bad s ≡ None → check s limit i (InString n (Escape from)) cs ≡ None → Quoted (92 ∷ s) 0 u cs
    unfolding check utf8_compute
    escape_quoted [] from i ih h c = not_fine i c
    escape_quoted (d ∷ r) from i ih h c =
        choose (eqb d letter_u) _ _ (goes d r limit i (InString n (Escape from)) cs c)
        (λ e k.
        let z = eqb-true d 117 e in
        subst (λ (x : ℕ). Quoted (92 ∷ x ∷ r) 0 u cs) (sym z) (hex_quoted r from (i + 1) (subst (λ (x : ℕ). Strings (x ∷ r)) z ih) (past_ascii 117 r refl (subst (λ (x : ℕ). first_bad (x ∷ r) ≡ None) z h)) (to_state _ k)))
        (λ e k. choose (names_good d) _ _ k (λ l k. letter_quoted d r (i + 1) ih e l h (to_state _ k)) (λ l k. choose (names_bad d) _ _ k (λ b k. bad_not from k) (λ b k. bad_not i k)))

  pub string_text : (s : List ℕ) → Strings s
  unfolding check characters_from length_from utf8_compute
  string_text [] zero i u n cs h c = not_fine i c
  string_text [] (suc k) i u n cs h c = not_fine i c
  string_text (b ∷ s) (suc k) i u n cs h c = let q = string_text s k i u n cs h c in record { good = q.good; plain = q.plain; left = q.left }
  string_text (b ∷ s) zero i u n cs h c =
      choose (eqb b 34) _ _ (goes b s limit i (InString n Chars) cs c)
      (λ e k.
      let z = eqb-true b 34 e in
      let g = subst (λ (x : ℕ). first_bad (u ⊕ (x ∷ s)) ≡ None) z h in
      subst (λ (x : ℕ). Quoted (x ∷ s) 0 u cs) (sym z)
      (choose n _ _ k (λ m k. close_quoted s u cs g (i + 1) Colon (to_state _ k)) (λ m k. close_quoted s u cs g (i + 1) After (to_state _ k))))
      (λ q k. choose (eqb b 92) _ _ k
      (λ e k.
      let z = eqb-true b 92 e in
      let g = good_split u (92 ∷ s) refl (subst (λ (x : ℕ). first_bad (u ⊕ (x ∷ s)) ≡ None) z h) in
      subst (λ (x : ℕ). Quoted (x ∷ s) 0 u cs) (sym z) (escape_quoted u n cs g.0 s i (i + 1) (string_text s) (past_ascii 92 s refl g.1) (to_state _ k)))
      (λ e k. choose (ltb b 0x20) _ _ k (λ l k. bad_not i k)
      (λ l k.
      byte_quoted b s u cs (rw (q, e)) (ne_eqb 13 b (λ z. let w = ltb-false b 0x20 l in omega arith))
      (string_text s 0 (i + 1) (u ⊕ (b ∷ [])) n cs (rw (append_regroup u (b ∷ []) s) h) (to_state _ k)))))
