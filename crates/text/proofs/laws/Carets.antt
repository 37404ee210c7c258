-- Characters of values with carets (RFC 6868): a caret and its letter are ASCII, so that a value is well formed encoded and decoded where it is.
--     encode_good, decode_good;   type_encoded: the name of a type
use Rattle.std.specs.Prelude.{◌≡◌, Bool, List, [], ◌∷◌, ℕ, zero, suc, ◌+◌, ◌≤◌, leb, None, Some}
use Rattle.std.proofs.Math.Path.{refl}
use Rattle.std.proofs.Common.{sym, ◌∙◌, arith}
use Rattle.std.proofs.Math.Bool.{true, false}
use Rattle.std.proofs.Math.Dec.{eqb}
use borrow.Author.Tests.{leb-true, ne_eqb, eqb-true}
use Rattle.octets.specs.Pick.{pick, within, ◌and◌, ◌or◌}
use Rattle.octets.specs.laws.Pick.{pick_no, and_yes, and_both, or_cases, eqb_passes}
use Rattle.octets.specs.Append.{◌⊕◌}
use Rattle.octets.specs.Words.{same}
use Rattle.octets.specs.laws.Words.{same_true}
use Rattle.octets.specs.Computing.{octets_compute}
use Rattle.octets.specs.laws.Reading.{none-some}
use Rattle.calendar.specs.Calendar.{ValueType}
use Rattle.schema.specs.Types.{type_name}
use Rattle.schema.specs.laws.Types.{type_passes}
use Rattle.schema.specs.Computing.{schema_compute}
use Rattle.utf8.specs.Utf8.{is_ascii, more, low, high, high_after, tails, is_sequence, bad_from, first_bad}
use Rattle.utf8.specs.laws.Utf8.{ascii_first, low_least}
use Rattle.edition.specs.Edition.{is_letter, meant, decoding, encode_byte, encoding, decode, encode}
use Rattle.edition.specs.Computing.{edition_compute}
use Rattle.edition.specs.declared.Edition.{Edition}
use Rattle.edition.specs.declared.Edition.TheVariants.{Rfc5545, Rfc6868}
use Rattle.text.proofs.laws.EscapedCharacters.{one_good, Spelled}

-- a character that is there, before what comes of those behind it
begun_good : (a i : ℕ) (s d : List ℕ) → pick (is_sequence a s) (bad_from (more a) (i + 1) s) (Some i) ≡ None →
    (tails (more a) (low a) (high a) (eqb a 0xEF) s ≡ true → bad_from (more a) (i + 1) s ≡ None → Spelled (more a) (low a) (high a) (eqb a 0xEF) d) →
    (is_sequence a d ≡ true) × ((j : ℕ) → bad_from (more a) j d ≡ None)
unfolding pick
begun_good a i s d h f = go (is_sequence a s) refl h
  where
    go : (u : Bool) → is_sequence a s ≡ u → pick u (bad_from (more a) (i + 1) s) (Some i) ≡ None → (is_sequence a d ≡ true) × ((j : ℕ) → bad_from (more a) j d ≡ None)
    go false e k = none-some (sym k)
    go true e k =
        let c = and_both (leb (more a) 3) _ e in
        let g = f c.1 k in
        (and_yes _ _ c.0 g.begun, g.onward)

first_good : (a j : ℕ) (d : List ℕ) → (is_sequence a d ≡ true) × ((j : ℕ) → bad_from (more a) j d ≡ None) → bad_from 0 j (a ∷ d) ≡ None
first_good a j d g = one_good a j d g.0 (g.1 (j + 1))

-- ---- encoded

-- a byte that is not of ASCII is not encoded
high_encode : (b : ℕ) → 0x80 ≤ b → encode_byte b ≡ b ∷ []
high_encode b h =
    pick_no _ _ _ (ne_eqb b 10 (λ e. omega arith)) ∙ pick_no _ _ _ (ne_eqb b 34 (λ e. omega arith)) ∙ pick_no _ _ _ (ne_eqb b 94 (λ e. omega arith))

-- a caret and a letter before whole characters
pair_good : (c i : ℕ) (s : List ℕ) → is_ascii c ≡ true → ((j : ℕ) → bad_from 0 j s ≡ None) → bad_from 0 i (94 ∷ c ∷ s) ≡ None
unfolding pick ◌and◌ ◌or◌
pair_good c i s a h = ascii_first 94 i (c ∷ s) refl ∙ ascii_first c (i + 1) s a ∙ h (i + 1 + 1)

encode_byte_good : (a i : ℕ) (s : List ℕ) → (is_sequence a s ≡ true) × ((j : ℕ) → bad_from (more a) j s ≡ None) → bad_from 0 i (encode_byte a ⊕ s) ≡ None
unfolding ◌⊕◌ pick ◌and◌ ◌or◌
encode_byte_good a i s g = newline (eqb a 10) refl
  where
    caret : (t : Bool) → eqb a 94 ≡ t → bad_from 0 i (pick t (94 ∷ 94 ∷ []) (a ∷ []) ⊕ s) ≡ None
    caret true e = pair_good 94 i s refl (λ j. rw (eqb-true a 94 e) at (g.1 j))
    caret false e = first_good a i s g

    quote : (t : Bool) → eqb a 34 ≡ t → bad_from 0 i (pick t (94 ∷ 39 ∷ []) (pick (eqb a 94) (94 ∷ 94 ∷ []) (a ∷ [])) ⊕ s) ≡ None
    quote true e = pair_good 39 i s refl (λ j. rw (eqb-true a 34 e) at (g.1 j))
    quote false e = caret (eqb a 94) refl

    newline : (t : Bool) → eqb a 10 ≡ t → bad_from 0 i (pick t (94 ∷ 110 ∷ []) (pick (eqb a 34) (94 ∷ 39 ∷ []) (pick (eqb a 94) (94 ∷ 94 ∷ []) (a ∷ []))) ⊕ s) ≡ None
    newline true e = pair_good 110 i s refl (λ j. rw (eqb-true a 10 e) at (g.1 j))
    newline false e = quote (eqb a 34) refl

encoded_from : (s : List ℕ) (k lo hi : ℕ) (l : Bool) (i : ℕ) → 0x80 ≤ lo → tails k lo hi l s ≡ true → bad_from k i s ≡ None → Spelled k lo hi l (encoding s)
unfolding encoding bad_from tails ◌⊕◌
encoded_from [] k lo hi l i b t h = record { begun = t; onward = λ j. refl }
encoded_from (a ∷ s) (suc k) lo hi l i b t h =
    let e = and_both (within lo hi a) _ t in
    let g = leb-true lo a (and_both _ _ e.0).0 in
    let ih = encoded_from s k 0x80 (high_after l a) false (i + 1) (omega arith) e.1 h in
    rw (high_encode a (omega arith)) (record { begun = and_yes _ _ e.0 ih.begun; onward = λ j. ih.onward (j + 1) })
encoded_from (a ∷ s) zero lo hi l i b t h =
    let g = begun_good a i s (encoding s) h (encoded_from s (more a) (low a) (high a) (eqb a 0xEF) (i + 1) (low_least a)) in
    record { begun = refl; onward = λ j. encode_byte_good a j (encoding s) g }

pub encode_good : (ed : Edition) (s : List ℕ) → first_bad s ≡ None → first_bad (encode ed s) ≡ None
unfolding encode tails
encode_good Rfc5545 s h = h
encode_good Rfc6868 s h = (encoded_from s 0 0x80 0xBF false 0 (omega arith) refl h).onward 0

-- ---- decoded

letter_ascii : (b : ℕ) → is_letter b ≡ true → is_ascii b ≡ true
unfolding ◌and◌ ◌or◌
letter_ascii b h =
    or_cases (eqb b 110) (eqb b 39 or eqb b 94) h (eqb_passes is_ascii 110 b refl)
    (λ k. or_cases (eqb b 39) (eqb b 94) k (eqb_passes is_ascii 39 b refl) (eqb_passes is_ascii 94 b refl))

meant_ascii : (b : ℕ) → is_ascii (meant b) ≡ true
unfolding pick ◌and◌ ◌or◌
meant_ascii b = go (eqb b 110) (eqb b 39)
  where
    go : (t u : Bool) → is_ascii (pick t 10 (pick u 34 94)) ≡ true
    go true u = refl
    go false true = refl
    go false false = refl

caret_ascii : is_ascii 94 ≡ true
unfolding ◌and◌ ◌or◌
caret_ascii = refl

high_decode : (b : ℕ) (s : List ℕ) → 0x80 ≤ b → decoding (b ∷ s) false ≡ b ∷ decoding s false
unfolding decoding
high_decode b s h = pick_no _ _ _ (ne_eqb b 94 (λ e. omega arith))

-- behind whole characters, and behind an open caret
record Decoded (s : List ℕ) : Type 0 where
  shut : (k lo hi : ℕ) (l : Bool) (i : ℕ) → 0x80 ≤ lo → tails k lo hi l s ≡ true → bad_from k i s ≡ None → Spelled k lo hi l (decoding s false)
  opened : (i : ℕ) → bad_from 0 i s ≡ None → (j : ℕ) → bad_from 0 j (decoding s true) ≡ None

module _ (a : ℕ) (s : List ℕ) (d : Decoded s) where
  inner : (k lo hi : ℕ) (l : Bool) (i : ℕ) → 0x80 ≤ lo → tails (suc k) lo hi l (a ∷ s) ≡ true → bad_from (suc k) i (a ∷ s) ≡ None → Spelled (suc k) lo hi l (decoding (a ∷ s) false)
  unfolding bad_from tails
  inner k lo hi l i b t h =
      let e = and_both (within lo hi a) _ t in
      let g = leb-true lo a (and_both _ _ e.0).0 in
      let ih = d.shut k 0x80 (high_after l a) false (i + 1) (omega arith) e.1 h in
      rw (high_decode a s (omega arith)) (record { begun = and_yes _ _ e.0 ih.begun; onward = λ j. ih.onward (j + 1) })

  begun : (i : ℕ) → bad_from 0 i (a ∷ s) ≡ None → (is_sequence a (decoding s false) ≡ true) × ((j : ℕ) → bad_from (more a) j (decoding s false) ≡ None)
  unfolding bad_from
  begun i h = begun_good a i s (decoding s false) h (d.shut (more a) (low a) (high a) (eqb a 0xEF) (i + 1) (low_least a))

  after_ascii : (i : ℕ) → is_ascii a ≡ true → bad_from 0 i (a ∷ s) ≡ None → bad_from 0 (i + 1) s ≡ None
  after_ascii i e h = sym (ascii_first a i s e) ∙ h

  plain : (i : ℕ) → bad_from 0 i (a ∷ s) ≡ None → (j : ℕ) → bad_from 0 j (decoding (a ∷ s) false) ≡ None
  unfolding decoding pick
  plain i h j = go (eqb a 94) refl
    where
      go : (t : Bool) → eqb a 94 ≡ t → bad_from 0 j (pick t (decoding s true) (a ∷ decoding s false)) ≡ None
      go true e = d.opened (i + 1) (after_ascii i (eqb_passes is_ascii 94 a caret_ascii e) h) j
      go false e = first_good a j (decoding s false) (begun i h)

  caret : (i : ℕ) → bad_from 0 i (a ∷ s) ≡ None → (j : ℕ) → bad_from 0 j (decoding (a ∷ s) true) ≡ None
  unfolding decoding pick tails
  caret i h j = go (is_letter a) refl
    where
      go : (t : Bool) → is_letter a ≡ t → bad_from 0 j (pick t (meant a ∷ decoding s false) (94 ∷ a ∷ decoding s false)) ≡ None
      go true e = ascii_first (meant a) j (decoding s false) (meant_ascii a) ∙ (d.shut 0 0x80 0xBF false (i + 1) (omega arith) refl (after_ascii i (letter_ascii a e) h)).onward (j + 1)
      go false e = ascii_first 94 j (a ∷ decoding s false) caret_ascii ∙ first_good a (j + 1) (decoding s false) (begun i h)

decoded_from : (s : List ℕ) → Decoded s
unfolding decoding bad_from tails
decoded_from [] = record { shut = λ k lo hi l i b t h. record { begun = t; onward = λ j. refl }; opened = λ i h j. ascii_first 94 j [] caret_ascii }
decoded_from (a ∷ s) = let d = decoded_from s in record { shut = λ k. step d k; opened = caret a s d }
  where
    step : Decoded s → (k lo hi : ℕ) (l : Bool) (i : ℕ) → 0x80 ≤ lo → tails k lo hi l (a ∷ s) ≡ true → bad_from k i (a ∷ s) ≡ None → Spelled k lo hi l (decoding (a ∷ s) false)
    step d zero lo hi l i b t h = record { begun = refl; onward = plain a s d i h }
    step d (suc k) lo hi l i b t h = inner a s d k lo hi l i b t h

pub decode_good : (ed : Edition) (s : List ℕ) → first_bad s ≡ None → first_bad (decode ed s) ≡ None
unfolding decode tails
decode_good Rfc5545 s h = h
decode_good Rfc6868 s h = ((decoded_from s).shut 0 0x80 0xBF false 0 (omega arith) refl h).onward 0

-- ---- the names of types have no carets

pub type_encoded : (ed : Edition) (t : ValueType) → encode ed (type_name t) ≡ type_name t
unfolding octets_compute edition_compute schema_compute
type_encoded Rfc5545 t = refl
type_encoded Rfc6868 t = same_true _ _ (type_passes (λ u. same (encoding (type_name u)) (type_name u)) refl t)
