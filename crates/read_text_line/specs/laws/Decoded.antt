-- Laws of what specs/Decoded.antt defines.
--     decoded_encoded        a line that is encoded is decoded again;   line_back: a line written in an edition is read in it
--     is_spelled             a character of a value in an edition: of RFC 5545 alone a QSAFE-CHAR, with carets any but CR
--     decoded_spelled, spelled_encoded    what is read has such characters, and what has them can be written
--     map_empty              as many as were read
use Rattle.std.specs.Prelude.{◌≡◌, refl, Bool, true, false, List, [], ◌∷◌, map, ℕ, eqb, Some, option_map}
use Rattle.std.proofs.Common.{ap, ◌∙◌}
use Rattle.octets.specs.Pick.{pick, ◌or◌}
use Rattle.octets.specs.laws.Pick.{pick_second, or_neither, or_no}
use Rattle.octets.specs.Words.{is_empty}
use Rattle.octets.specs.Scan.{all_of}
use Rattle.octets.specs.laws.Scan.{all_weaker}
use Rattle.edition.specs.Edition.{decode, encode}
use Rattle.edition.specs.laws.Carets.{decode-encode, decode_plain, encode_plain, decode_passes, encode_safe}
use Rattle.edition.specs.declared.Edition.{Edition}
use Rattle.edition.specs.declared.Edition.TheVariants.{Rfc5545, Rfc6868}
use Rattle.read_text_line.specs.ContentLine.{ParamValue, RawParameter, ContentLine, is_q_safe_char, is_content_line}
use Rattle.read_text_line.specs.Decoded.{decoded_value, decoded_parameter, decoded_line, read_line, encoded_value, encoded_parameter, encoded_line, write_line}
use Rattle.read_text_line.specs.laws.RoundTrip.{content_line_read_back}

-- ---- what is encoded is decoded

values_back : (ed : Edition) (vs : List ParamValue) → map (decoded_value ed) (map (encoded_value ed) vs) ≡ vs
values_back ed [] = refl
values_back ed (v ∷ vs) = rw (decode-encode ed v.chars, values_back ed vs)

parameters_back : (ed : Edition) (ps : List RawParameter) → map (decoded_parameter ed) (map (encoded_parameter ed) ps) ≡ ps
parameters_back ed [] = refl
parameters_back ed (p ∷ ps) = rw (values_back ed p.values, parameters_back ed ps)

pub decoded_encoded : (ed : Edition) (l : ContentLine) → decoded_line ed (encoded_line ed l) ≡ l
decoded_encoded ed l = rw (parameters_back ed l.parameters)

pub line_back : (ed : Edition) (l : ContentLine) → is_content_line (encoded_line ed l) ≡ true → read_line ed (write_line ed l) ≡ Some l
line_back ed l h = ap (option_map (decoded_line ed)) (content_line_read_back (encoded_line ed l) h) ∙ ap Some (decoded_encoded ed l)

-- ---- characters

-- any character but CR
abbrev pub is_unbroken : ℕ → Bool
is_unbroken b = pick (eqb b 13) false true

abbrev pub is_spelled : Edition → ℕ → Bool
is_spelled Rfc5545 = is_q_safe_char
is_spelled Rfc6868 = is_unbroken

qsafe_unbroken : (b : ℕ) → is_q_safe_char b ≡ true → is_unbroken b ≡ true
qsafe_unbroken b h =
    let a = or_neither (eqb b 13 or eqb b 10) (eqb b 34) (pick_second _ true h).0 in
    rw (or_neither (eqb b 13) (eqb b 10) a.0).0 (unfold pick in refl)

pub decoded_spelled : (ed : Edition) (s : List ℕ) → all_of is_q_safe_char s ≡ true → all_of (is_spelled ed) (decode ed s) ≡ true
decoded_spelled Rfc5545 s h = rw (decode_plain s) h
decoded_spelled Rfc6868 s h = decode_passes is_unbroken (unfold pick in refl) (unfold pick in refl) (unfold pick in refl) Rfc6868 s (all_weaker is_q_safe_char is_unbroken qsafe_unbroken s h)

unbroken_qsafe : (b : ℕ) → is_unbroken b ≡ true → eqb b 10 ≡ false → eqb b 34 ≡ false → is_q_safe_char b ≡ true
unfolding pick
unbroken_qsafe b h e f = rw (or_no (eqb b 13 or eqb b 10) (eqb b 34) (or_no (eqb b 13) (eqb b 10) (pick_second (eqb b 13) true h).0 e) f)

pub spelled_encoded : (ed : Edition) (s : List ℕ) → all_of (is_spelled ed) s ≡ true → all_of is_q_safe_char (encode ed s) ≡ true
spelled_encoded Rfc5545 s h = rw (encode_plain s) h
spelled_encoded Rfc6868 s h = encode_safe is_q_safe_char is_unbroken (unfold pick ◌or◌ in refl) (unfold pick ◌or◌ in refl) (unfold pick ◌or◌ in refl) unbroken_qsafe s h

-- ---- how many

pub map_empty : {A B : Type 0} (f : A → B) (l : List A) → is_empty (map f l) ≡ is_empty l
map_empty f [] = refl
map_empty f (x ∷ l) = refl
