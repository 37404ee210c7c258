-- The content line of a valid property is one that the grammar has, so that its bytes are read back as that line.
--     line_is_line, line_read_back
use Rattle.std.specs.Prelude.{◌≡◌, Bool, ℕ, Some}
use Rattle.std.proofs.Math.Path.{refl}
use Rattle.std.proofs.Common.{◌∙◌}
use Rattle.std.proofs.Math.Bool.{true, false}
use Rattle.std.proofs.lemmas.Bool.{false≢true}
use mathlib.Core.List.{List, [], ◌∷◌, map}
use Rattle.octets.specs.Pick.{pick, ◌and◌, ◌or◌}
use Rattle.octets.specs.laws.Pick.{pick_no, pick_either, pick_case, and_yes, and_both, or_no, or_neither, eqb_swap}
use Rattle.octets.specs.Scan.{all_of}
use Rattle.octets.specs.Class.{is_visible}
use Rattle.octets.specs.Words.{is_empty, holds, none_holds}
use Rattle.octets.specs.laws.Words.{holds_split, none_split, all_without}
use Rattle.octets.specs.Lists.{every}
use Rattle.octets.specs.laws.Lists.{every_both, every_weaker, every-and, every_map, all_joined}
use Rattle.octets.specs.Computing.{octets_compute}
use Rattle.calendar.specs.Calendar.{ValueType, Value, boolean, text, unknown, Parameter, Property}
use Rattle.edition.specs.Edition.{encode}
use Rattle.edition.specs.laws.Carets.{encode_without}
use Rattle.edition.specs.Computing.{edition_compute}
use Rattle.edition.specs.declared.Edition.{Edition}
use Rattle.edition.specs.declared.Edition.TheVariants.{Rfc5545, Rfc6868}
use Rattle.schema.specs.Types.{same_type}
use Rattle.schema.specs.laws.Types.{type_passes}
use Rattle.schema.specs.Parameters.{parameter_type, parameter_words, is_quoted_parameter}
use Rattle.schema.specs.Properties.{default_type}
use Rattle.schema.specs.Computing.{schema_compute}
use Rattle.texts.specs.Uri.{is_uri}
use Rattle.texts.specs.laws.Uri.{uri_visible, uri_unquoted}
use Rattle.texts.specs.Quoting.{needs_quotes}
use Rattle.texts.specs.laws.Quoting.{plain_no_colon, plain_no_semicolon, plain_no_comma}
use Rattle.values.specs.WriteValue.{write_value, write_values, type_of_all}
use Rattle.values.specs.Valid.{is_amount, is_parameter_value, is_property_value, are_values_of}
use Rattle.values.specs.laws.Valid.{property_value_valid}
use Rattle.values.specs.Characters.{is_value_text}
use Rattle.values.specs.laws.Characters.{value_one_line, value_no_return}
use Rattle.read_text_line.specs.ContentLine.{RawParameter, is_value_char, is_q_safe_char, is_name, is_param_value, is_raw_parameter, is_content_line}
use Rattle.read_text_line.specs.laws.Chars.{qsafe_safe}
use Rattle.read_text_line.specs.Decoded.{read_line, encoded_value, encoded_parameter, encoded_line, write_line}
use Rattle.read_text_line.specs.laws.Decoded.{is_unbroken, is_spelled, spelled_encoded, line_back}
use Rattle.validity.specs.ValidCalendar.{is_parameter_text, is_valid_parameter}
use Rattle.validity.proofs.laws.ValidCalendar.{kept_parts, valid_parameter, parameter_value_lem, ValidProperty}
use Rattle.text.specs.WriteText.{param_chars, param_value_of, raw_of, value_parameter, with_value, content_line_of}

-- ---- bytes

value_chars : (s : List ℕ) → holds 13 s ≡ false → holds 10 s ≡ false → all_of is_value_char s ≡ true
unfolding all_of pick
value_chars [] a b = refl
value_chars (x ∷ s) a b =
    let p = holds_split 13 x s a in
    let q = holds_split 10 x s b in
    rw (or_no _ _ (eqb_swap 13 x p.0) (eqb_swap 10 x q.0)) (value_chars s p.1 q.1)

qsafe_chars : (s : List ℕ) → holds 13 s ≡ false → holds 10 s ≡ false → holds 34 s ≡ false → all_of is_q_safe_char s ≡ true
unfolding all_of pick
qsafe_chars [] a b c = refl
qsafe_chars (x ∷ s) a b c =
    let p = holds_split 13 x s a in
    let q = holds_split 10 x s b in
    let r = holds_split 34 x s c in
    rw (or_no _ _ (or_no _ _ (eqb_swap 13 x p.0) (eqb_swap 10 x q.0)) (eqb_swap 34 x r.0)) (qsafe_chars s p.1 q.1 r.1)

-- ---- the value of a parameter

uri_chars : (s : List ℕ) → is_uri s ≡ true → all_of is_q_safe_char s ≡ true
unfolding ◌and◌
uri_chars s h = qsafe_chars s (all_without is_visible 13 refl s (uri_visible s h)) (all_without is_visible 10 refl s (uri_visible s h)) (uri_unquoted s h)

unbroken_chars : (s : List ℕ) → holds 13 s ≡ false → all_of is_unbroken s ≡ true
unfolding all_of pick
unbroken_chars [] a = refl
unbroken_chars (x ∷ s) a = let p = holds_split 13 x s a in rw (eqb_swap 13 x p.0) (unbroken_chars s p.1)

-- characters of both editions
both_chars : (ed : Edition) (s : List ℕ) → all_of is_q_safe_char s ≡ true → all_of (is_spelled ed) s ≡ true
unfolding pick ◌or◌
both_chars Rfc5545 s h = h
both_chars Rfc6868 s h = unbroken_chars s (all_without is_q_safe_char 13 refl s h)

free_chars : (ed : Edition) (s : List ℕ) → is_parameter_text ed (text s) ≡ true → all_of (is_spelled ed) s ≡ true
free_chars Rfc5545 s h =
    let p = and_both (none_holds 13 (s ∷ [])) _ h in
    let q = and_both (none_holds 10 (s ∷ [])) _ p.1 in
    qsafe_chars s (none_split 13 s [] p.0).0 (none_split 10 s [] q.0).0 (none_split 34 s [] q.1).0
free_chars Rfc6868 s h = unbroken_chars s (none_split 13 s [] h).0

unknown_chars : (ed : Edition) (s : List ℕ) → is_parameter_text ed (unknown s) ≡ true → all_of (is_spelled ed) s ≡ true
unknown_chars Rfc5545 s h = free_chars Rfc5545 s h
unknown_chars Rfc6868 s h = free_chars Rfc6868 s h

value_is : (ed : Edition) (t : ValueType) → is_raw_parameter (encoded_parameter ed (value_parameter t)) ≡ true
unfolding octets_compute edition_compute schema_compute is_raw_parameter is_name is_param_value
value_is Rfc5545 t = type_passes (λ u. is_raw_parameter (encoded_parameter Rfc5545 (value_parameter u))) refl t
value_is Rfc6868 t = type_passes (λ u. is_raw_parameter (encoded_parameter Rfc6868 (value_parameter u))) refl t

-- a parameter has a value
some_written : {A B C : Type 0} (g : B → C) (f : A → B) (l : Bool) (vs : List A) → is_amount l vs ≡ true → is_empty (map g (map f vs)) ≡ false
some_written g f l [] h = absurd (false≢true h)
some_written g f l (v ∷ vs) h = refl

-- ---- values

value_written : (k n : List ℕ) (t : ValueType) (v : Value) → (is_property_value k n t v and is_value_text v) ≡ true → all_of is_value_char (write_value v) ≡ true
value_written k n t v w =
    let p = and_both (is_property_value k n t v) (is_value_text v) w in
    let q = property_value_valid k n t v p.0 in
    value_chars (write_value v) (value_no_return v q p.1) (value_one_line v q)

values_written : (k n : List ℕ) (t : ValueType) (vs : List Value) → every (is_property_value k n t) vs ≡ true → every is_value_text vs ≡ true → all_of is_value_char (write_values vs) ≡ true
unfolding write_values pick ◌or◌
values_written k n t vs h f =
    all_joined (λ v. is_property_value k n t v and is_value_text v) write_value is_value_char 44 refl (value_written k n t) vs (every-and (is_property_value k n t) is_value_text vs h f)

module _ (ed : Edition) where
  param_chars_lem : (n : List ℕ) (v : Value) → is_parameter_value (parameter_words n) (parameter_type n) v ≡ true → is_parameter_text ed v ≡ true → all_of (is_spelled ed) (param_chars v) ≡ true
  unfolding octets_compute write_value
  param_chars_lem n v h f =
      parameter_value_lem (λ v. is_parameter_text ed v ≡ true → all_of (is_spelled ed) (param_chars v) ≡ true) truth (λ s u f. both_chars ed s (uri_chars s u)) (λ s u f. both_chars ed s (uri_chars s u)) (free_chars ed) (unknown_chars ed)
      n v h f
    where
      truth : (b : Bool) → is_parameter_text ed (boolean b) ≡ true → all_of (is_spelled ed) (param_chars (boolean b)) ≡ true
      truth true f = both_chars ed (param_chars (boolean true)) refl
      truth false f = both_chars ed (param_chars (boolean false)) refl

  param_value_is : (n : List ℕ) (v : Value) → is_parameter_value (parameter_words n) (parameter_type n) v ≡ true → is_parameter_text ed v ≡ true → is_param_value (encoded_value ed (param_value_of n v)) ≡ true
  unfolding is_param_value
  param_value_is n v h f =
      let c = spelled_encoded ed (param_chars v) (param_chars_lem n v h f) in
      pick_case (λ b. b ≡ true) (is_quoted_parameter n or needs_quotes (param_chars v)) _ _ (λ e. c)
      (λ e.
      let q = (or_neither (is_quoted_parameter n) _ e).1 in
      qsafe_safe (encode ed (param_chars v)) c (encode_without 59 refl refl refl ed _ (plain_no_semicolon _ q)) (encode_without 58 refl refl refl ed _ (plain_no_colon _ q)) (encode_without 44 refl refl refl ed _ (plain_no_comma _ q)))

  -- ---- parameters

  param_values_are : (n : List ℕ) (vs : List Value) → every (is_parameter_value (parameter_words n) (parameter_type n)) vs ≡ true → every (is_parameter_text ed) vs ≡ true →
      every is_param_value (map (encoded_value ed) (map (param_value_of n) vs)) ≡ true
  unfolding every
  param_values_are n [] h f = refl
  param_values_are n (v ∷ vs) h f =
      let a = every_both (is_parameter_value (parameter_words n) (parameter_type n)) v vs h in
      let b = every_both (is_parameter_text ed) v vs f in
      and_yes _ _ (param_value_is n v a.0 b.0) (param_values_are n vs a.1 b.1)

  parameter_is : (p : Parameter) → is_valid_parameter ed p ≡ true → is_raw_parameter (encoded_parameter ed (raw_of p)) ≡ true
  unfolding is_raw_parameter
  parameter_is p h =
      let v = valid_parameter ed p h in
      and_yes _ _ (kept_parts p.name v.kept).1
      (pick_no _ false _ (some_written (encoded_value ed) (param_value_of p.name) _ p.values v.amount) ∙ param_values_are p.name p.values v.chosen v.plain)

  -- what can be written
  abbrev is_written : RawParameter → Bool
  is_written r = is_raw_parameter (encoded_parameter ed r)

  parameters_are : (ps : List Parameter) → every (is_valid_parameter ed) ps ≡ true → every is_written (map raw_of ps) ≡ true
  parameters_are ps h = every_map is_written raw_of ps ∙ every_weaker (is_valid_parameter ed) (λ p. is_written (raw_of p)) parameter_is ps h

  with_value_are : (n : List ℕ) (t : ValueType) (rs : List RawParameter) → every is_written rs ≡ true → every is_written (with_value n t rs) ≡ true
  unfolding with_value every
  with_value_are n t rs h = pick_either (λ (l : List RawParameter). every is_written l ≡ true) (same_type t (default_type n)) rs (value_parameter t ∷ rs) h (and_yes _ _ (value_is ed t) h)

  -- ---- the line

  pub line_is_line : (k : List ℕ) (p : Property) → ValidProperty ed k p → is_content_line (encoded_line ed (content_line_of p)) ≡ true
  unfolding are_values_of is_content_line content_line_of
  line_is_line k p s =
      and_yes _ _ (kept_parts p.name s.kept).1
      (and_yes _ _ (every_map is_raw_parameter (encoded_parameter ed) _ ∙ with_value_are p.name _ _ (parameters_are p.parameters s.parameters))
      (values_written k p.name (type_of_all p.values) p.values (and_both _ _ (and_both _ _ s.values).1).1 s.plain))

  pub line_read_back : (k : List ℕ) (p : Property) → ValidProperty ed k p → read_line ed (write_line ed (content_line_of p)) ≡ Some (content_line_of p)
  line_read_back k p s = line_back ed (content_line_of p) (line_is_line k p s)
