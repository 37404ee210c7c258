-- Laws of what specs/Edition.antt defines.
--     number_back            an edition's number names it
--     decode-encode          what is encoded is decoded again
--     decode_plain, encode_plain   edition 0 changes nothing
--     decode_short, encode_short   a value is not longer decoded, and at most twice as long encoded
--     decode_passes, encode_passes   a test of each byte
--     decode_without, encode_without   a byte that does not stand there
--     encode_safe            under edition 1 neither LF nor a double quote is left
--     decoded_other, decoded_letter, decoded_caret, decoded_last    a step of the decoding
use Rattle.std.specs.Prelude.{◌≡◌, Bool, ℕ, suc, ◌+◌, ◌*◌, ◌≤◌, length, Some}
use Rattle.std.proofs.Math.Path.{refl}
use Rattle.std.proofs.Common.{ap, ◌∙◌, arith, eqb-true}
use Rattle.std.proofs.Math.Bool.{true, false}
use mathlib.Core.List.{List, [], ◌∷◌}
use Rattle.std.proofs.Math.Dec.{eqb}
use Rattle.octets.specs.Pick.{pick, ◌or◌}
use Rattle.octets.specs.laws.Pick.{pick_case, pick_second, or_neither}
use Rattle.octets.specs.Append.{◌⊕◌}
use Rattle.octets.specs.laws.Append.{length_both}
use Rattle.octets.specs.Scan.{all_of}
use Rattle.octets.specs.laws.Scan.{all_cons, all_split, all_append}
use Rattle.octets.specs.Words.{holds}
use Rattle.octets.specs.laws.Words.{holds_split}
use Rattle.edition.specs.Edition.{edition_of, edition_number, is_letter, meant, decoding, encode_byte, encoding, decode, encode}
use Rattle.edition.specs.declared.Edition.{Edition}
use Rattle.edition.specs.declared.Edition.TheVariants.{Rfc5545, Rfc6868}

pub number_back : (e : Edition) → edition_of (edition_number e) ≡ Some e
unfolding pick
number_back Rfc5545 = refl
number_back Rfc6868 = refl

pub decode_plain : (s : List ℕ) → decode Rfc5545 s ≡ s
unfolding decode
decode_plain s = refl

pub encode_plain : (s : List ℕ) → encode Rfc5545 s ≡ s
unfolding encode
encode_plain s = refl

-- ---- what is encoded is decoded again

byte_back : (b : ℕ) (r : List ℕ) → decoding (encode_byte b ⊕ r) false ≡ b ∷ decoding r false
unfolding decoding pick ◌or◌ ◌⊕◌
byte_back b r = newline (eqb b 10) refl
  where
    caret : eqb b 10 ≡ false → eqb b 34 ≡ false → (t : Bool) → eqb b 94 ≡ t → decoding (encode_byte b ⊕ r) false ≡ b ∷ decoding r false
    caret k m true e = rw (eqb-true b 94 e)
    caret k m false e = rw (k, m, e) (rw e)

    quote : eqb b 10 ≡ false → (t : Bool) → eqb b 34 ≡ t → decoding (encode_byte b ⊕ r) false ≡ b ∷ decoding r false
    quote k true e = rw (eqb-true b 34 e)
    quote k false e = caret k e (eqb b 94) refl

    newline : (t : Bool) → eqb b 10 ≡ t → decoding (encode_byte b ⊕ r) false ≡ b ∷ decoding r false
    newline true e = rw (eqb-true b 10 e)
    newline false e = quote e (eqb b 34) refl

encoding_back : (s : List ℕ) → decoding (encoding s) false ≡ s
unfolding encoding
encoding_back [] = unfold decoding in refl
encoding_back (b ∷ s) = byte_back b (encoding s) ∙ ap (λ (l : List ℕ). b ∷ l) (encoding_back s)

pub decode-encode : (e : Edition) (s : List ℕ) → decode e (encode e s) ≡ s
unfolding decode encode
decode-encode Rfc5545 s = refl
decode-encode Rfc6868 s = encoding_back s

-- ---- lengths

decoding_short : (s : List ℕ) → (length (decoding s false) ≤ length s) × (length (decoding s true) ≤ length s + 1)
unfolding decoding
decoding_short [] = (omega arith, omega arith)
decoding_short (b ∷ s) =
    let ih = decoding_short s in (
      pick_case (λ (l : List ℕ). length l ≤ suc (length s)) (eqb b 94) _ _ (λ e. omega (arith, ih.1)) (λ e. omega (arith, ih.0)),
      pick_case (λ (l : List ℕ). length l ≤ suc (length s) + 1) (is_letter b) _ _ (λ e. omega (arith, ih.0)) (λ e. omega (arith, ih.0)),
    )

pub decode_short : (e : Edition) (s : List ℕ) → length (decode e s) ≤ length s
unfolding decode
decode_short Rfc5545 s = omega arith
decode_short Rfc6868 s = (decoding_short s).0

byte_short : (b : ℕ) → length (encode_byte b) ≤ 2
unfolding pick
byte_short b = go (eqb b 10) (eqb b 34) (eqb b 94)
  where
    go : (x y z : Bool) → length (pick x (94 ∷ 110 ∷ []) (pick y (94 ∷ 39 ∷ []) (pick z (94 ∷ 94 ∷ []) (b ∷ [])))) ≤ 2
    go true y z = omega arith
    go false true z = omega arith
    go false false true = omega arith
    go false false false = omega arith

encoding_short : (s : List ℕ) → length (encoding s) ≤ 2 * length s
unfolding encoding
encoding_short [] = omega arith
encoding_short (b ∷ s) = omega (arith, length_both (encode_byte b) (encoding s), byte_short b, encoding_short s)

pub encode_short : (e : Edition) (s : List ℕ) → length (encode e s) ≤ 2 * length s
unfolding encode
encode_short Rfc5545 s = omega arith
encode_short Rfc6868 s = encoding_short s

-- ---- what each byte passes

module _ (p : ℕ → Bool) (x : p 94 ≡ true) (y : p 10 ≡ true) (z : p 34 ≡ true) where
  meant_passes : (b : ℕ) → p (meant b) ≡ true
  unfolding pick
  meant_passes b = go (eqb b 110) (eqb b 39)
    where
      go : (t u : Bool) → p (pick t 10 (pick u 34 94)) ≡ true
      go true u = y
      go false true = z
      go false false = x

  decoding_passes : (s : List ℕ) → all_of p s ≡ true → (all_of p (decoding s false) ≡ true) × (all_of p (decoding s true) ≡ true)
  unfolding decoding
  decoding_passes [] h = (h, all_cons p 94 [] x h)
  decoding_passes (b ∷ s) h =
      let a = all_split p b s h in
      let ih = decoding_passes s a.1 in (
        pick_case (λ (l : List ℕ). all_of p l ≡ true) (eqb b 94) _ _ (λ e. ih.1) (λ e. all_cons p b _ a.0 ih.0),
        pick_case (λ (l : List ℕ). all_of p l ≡ true) (is_letter b) _ _ (λ e. all_cons p (meant b) _ (meant_passes b) ih.0) (λ e. all_cons p 94 _ x (all_cons p b _ a.0 ih.0)),
      )

  pub decode_passes : (e : Edition) (s : List ℕ) → all_of p s ≡ true → all_of p (decode e s) ≡ true
  unfolding decode
  decode_passes Rfc5545 s h = h
  decode_passes Rfc6868 s h = (decoding_passes s h).0

-- what a byte that is left as it stands passes
module _ (p q : ℕ → Bool) (x : p 94 ≡ true) (y : p 110 ≡ true) (z : p 39 ≡ true) (w : (b : ℕ) → q b ≡ true → eqb b 10 ≡ false → eqb b 34 ≡ false → p b ≡ true) where
  byte_passes : (b : ℕ) → q b ≡ true → all_of p (encode_byte b) ≡ true
  unfolding all_of pick
  byte_passes b h = go (eqb b 10) refl (eqb b 34) refl (eqb b 94)
    where
      go : (t : Bool) → eqb b 10 ≡ t → (u : Bool) → eqb b 34 ≡ u → (v : Bool) → all_of p (pick t (94 ∷ 110 ∷ []) (pick u (94 ∷ 39 ∷ []) (pick v (94 ∷ 94 ∷ []) (b ∷ [])))) ≡ true
      go true e u f v = rw (x, y)
      go false e true f v = rw (x, z)
      go false e false f true = rw x
      go false e false f false = rw (w b h e f)

  pub encoding_safe : (s : List ℕ) → all_of q s ≡ true → all_of p (encoding s) ≡ true
  unfolding encoding
  encoding_safe [] h = unfold all_of in refl
  encoding_safe (b ∷ s) h = let a = all_split q b s h in all_append p (encode_byte b) (encoding s) (byte_passes b a.0) (encoding_safe s a.1)

-- neither LF nor a double quote is left under edition 1
pub encode_safe : (p q : ℕ → Bool) → p 94 ≡ true → p 110 ≡ true → p 39 ≡ true → ((b : ℕ) → q b ≡ true → eqb b 10 ≡ false → eqb b 34 ≡ false → p b ≡ true) →
    (s : List ℕ) → all_of q s ≡ true → all_of p (encode Rfc6868 s) ≡ true
unfolding encode
encode_safe p q x y z w s h = encoding_safe p q x y z w s h

pub encode_passes : (p : ℕ → Bool) → p 94 ≡ true → p 110 ≡ true → p 39 ≡ true → (e : Edition) (s : List ℕ) → all_of p s ≡ true → all_of p (encode e s) ≡ true
unfolding encode
encode_passes p x y z Rfc5545 s h = h
encode_passes p x y z Rfc6868 s h = encoding_safe p p x y z (λ b k e f. k) s h

-- ---- a byte that does not stand there

isnt : ℕ → ℕ → Bool
isnt x b = pick (eqb x b) false true

holds-isnt : (x : ℕ) (s : List ℕ) → holds x s ≡ false → all_of (isnt x) s ≡ true
unfolding all_of isnt pick
holds-isnt x [] h = refl
holds-isnt x (b ∷ s) h = let a = holds_split x b s h in rw a.0 (holds-isnt x s a.1)

isnt-holds : (x : ℕ) (s : List ℕ) → all_of (isnt x) s ≡ true → holds x s ≡ false
unfolding holds isnt ◌or◌
isnt-holds x [] h = refl
isnt-holds x (b ∷ s) h = let a = all_split (isnt x) b s h in rw (pick_second (eqb x b) true a.0).0 (isnt-holds x s a.1)

other_isnt : (x b : ℕ) → eqb x b ≡ false → isnt x b ≡ true
unfolding isnt pick
other_isnt x b h = rw h

pub decode_without : (x : ℕ) → eqb x 94 ≡ false → eqb x 10 ≡ false → eqb x 34 ≡ false → (e : Edition) (s : List ℕ) → holds x s ≡ false → holds x (decode e s) ≡ false
decode_without x a b c e s h =
    isnt-holds x (decode e s) (decode_passes (isnt x) (other_isnt x 94 a) (other_isnt x 10 b) (other_isnt x 34 c) e s (holds-isnt x s h))

pub encode_without : (x : ℕ) → eqb x 94 ≡ false → eqb x 110 ≡ false → eqb x 39 ≡ false → (e : Edition) (s : List ℕ) → holds x s ≡ false → holds x (encode e s) ≡ false
encode_without x a b c e s h =
    isnt-holds x (encode e s) (encode_passes (isnt x) (other_isnt x 94 a) (other_isnt x 110 b) (other_isnt x 39 c) e s (holds-isnt x s h))

-- ---- a step of the decoding

pub decoded_other : (b : ℕ) (s : List ℕ) → eqb b 94 ≡ false → decoding (b ∷ s) false ≡ b ∷ decoding s false
unfolding decoding pick
decoded_other b s h = rw h

pub decoded_last : decoding (94 ∷ []) false ≡ 94 ∷ []
unfolding decoding pick
decoded_last = refl

pub decoded_letter : (b : ℕ) (s : List ℕ) → is_letter b ≡ true → decoding (94 ∷ b ∷ s) false ≡ meant b ∷ decoding s false
unfolding decoding pick
decoded_letter b s h = rw h

pub decoded_caret : (b : ℕ) (s : List ℕ) → is_letter b ≡ false → decoding (94 ∷ b ∷ s) false ≡ 94 ∷ decoding (b ∷ s) false
unfolding decoding pick
decoded_caret b s h =
    let o = or_neither (eqb b 110) _ h in
    let c = or_neither (eqb b 39) (eqb b 94) o.1 in
    rw (h, c.1)
