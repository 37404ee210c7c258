-- Laws of what specs/Written.antt defines.
--     value_quoted_put, value_bare_put    a value, between quotes and not
--     encoding-each, put_plain, put_careted    the characters of a value in an edition
use Rattle.std.specs.Prelude.{◌≡◌, refl, Bool, true, false, List, [], ◌∷◌, ◌++◌, ℕ}
use Rattle.std.proofs.Common.{ap, subst, ◌∙◌}
use Rattle.octets.specs.Append.{◌⊕◌}
use Rattle.octets.specs.laws.Append.{append_cons, append_empty}
use Rattle.sink.specs.Sink.{Put}
use Rattle.sink.specs.laws.Sink.{put_yes, put_no, ◌▷◌, each}
use Rattle.edition.specs.Edition.{encode_byte, encoding, encode}
use Rattle.edition.specs.declared.Edition.{Edition}
use Rattle.edition.specs.declared.Edition.TheVariants.{Rfc5545, Rfc6868}
use Rattle.read_text_line.specs.Write.{write_param_value}
use Rattle.read_text_line.specs.Written.{opening}

-- a byte before other bytes
byte_before : (x : ℕ) (l : List ℕ) → (x ∷ []) ⊕ l ≡ x ∷ l
byte_before x l = append_cons x [] l ∙ ap (λ (y : List ℕ). x ∷ y) (append_empty l)

module _ {d e f g : List ℕ} {o a b r : ℕ} {n : List ℕ} where
  pub opening_put : Put d e o a (59 ∷ []) → Put e f a b n → Put f g b r (61 ∷ []) → Put d g o r (opening n)
  opening_put p q w = subst (Put d g o r) (byte_before 59 (n ⊕ 61 ∷ [])) (p ▷ q ▷ w)

  pub value_quoted_put : {t : Bool} → t ≡ true → Put d e o a (34 ∷ []) → Put e f a b n → Put f g b r (34 ∷ []) → Put d g o r (write_param_value (record { quoted = t; chars = n }))
  unfolding write_param_value
  value_quoted_put {t} h p q w = put_yes t _ _ h (subst (Put d g o r) (byte_before 34 (n ⊕ 34 ∷ [])) (p ▷ q ▷ w))

pub value_bare_put : {d e : List ℕ} {o r : ℕ} {n : List ℕ} {t : Bool} → t ≡ false → Put d e o r n → Put d e o r (write_param_value (record { quoted = t; chars = n }))
unfolding write_param_value
value_bare_put {t = t} h p = put_no t _ _ h p

-- a loop that encodes each byte
pub encoding-each : (s : List ℕ) → encoding s ≡ each encode_byte s
unfolding encoding each ◌⊕◌
encoding-each [] = refl
encoding-each (b ∷ s) = ap (λ (l : List ℕ). encode_byte b ++ l) (encoding-each s)

pub put_plain : {ed : Edition} {d e : List ℕ} {o r : ℕ} (l : List ℕ) → ed ≡ Rfc5545 → Put d e o r l → Put d e o r (encode ed l)
unfolding encode
put_plain l h p = rw h p

pub put_careted : {ed : Edition} {d e : List ℕ} {o r : ℕ} (l : List ℕ) → ed ≡ Rfc6868 → Put d e o r (encoding l) → Put d e o r (encode ed l)
unfolding encode
put_careted l h p = rw h p
