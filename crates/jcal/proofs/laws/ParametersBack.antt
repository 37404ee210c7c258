-- Parameters are read back from their members (RFC 7265, section 3.5).
--     parameters_back    the parameters of a property
--     parameters_good_lem  and they have no fault
use Rattle.std.specs.Prelude.{◌≡◌, Bool, List, [], ◌∷◌, map, ℕ, Option, None, Some}
use Rattle.std.proofs.Math.Path.{refl}
use Rattle.std.proofs.Common.{◌∙◌}
use Rattle.std.proofs.Math.Bool.{true, false}
use Rattle.std.proofs.lemmas.Bool.{false≢true}
use Rattle.octets.specs.Pick.{pick, ◌and◌, ◌or◌}
use Rattle.octets.specs.laws.Pick.{and_both, and_yes}
use Rattle.octets.specs.Class.{is_visible, upper, lower}
use Rattle.octets.specs.Words.{is_one_of, holds, none_holds}
use Rattle.octets.specs.laws.Words.{none_split, all_without}
use Rattle.octets.specs.Lists.{every, distinct}
use Rattle.octets.specs.laws.Lists.{every_both}
use Rattle.octets.specs.Reading.{and_then, is_read, read_or}
use Rattle.octets.specs.laws.Reading.{each_read_back}
use Rattle.octets.specs.Computing.{octets_compute}
use Rattle.calendar.specs.Calendar.{ValueType, UNKNOWN, Value, binary, boolean, cal_address, date, date_time, duration, float, integer, period_explicit, period_start, recur, text, time, uri, utc_offset, unknown, geo, request_status, type_of, text_in, Parameter}
use Rattle.schema.specs.Types.{same_type}
use Rattle.schema.specs.laws.Types.{same_type_true}
use Rattle.schema.specs.Properties.{permits_parameter}
use Rattle.schema.specs.Parameters.{parameter_type, parameter_words}
use Rattle.edition.specs.declared.Edition.{Edition}
use Rattle.edition.specs.declared.Edition.TheVariants.{Rfc5545, Rfc6868}
use Rattle.texts.specs.Uri.{is_uri}
use Rattle.texts.specs.laws.Uri.{uri_visible, uri_unquoted}
use Rattle.values.specs.WriteValue.{value_characters}
use Rattle.values.specs.ReadBack.{is_value, is_typed}
use Rattle.values.specs.Valid.{is_word_in, is_parameter_value, is_parameter, are_parameters}
use Rattle.values.specs.laws.ReadBack.{is_character_data, characters_read_back}
use Rattle.values.specs.laws.Valid.{text_in_lem, kept_or_valid}
use Rattle.validity.specs.ValidCalendar.{is_kept_name, is_parameter_text, is_valid_parameter}
use Rattle.validity.proofs.laws.ValidCalendar.{valid_parameter, parameter_value_lem}
use Rattle.xcal.proofs.laws.ElementNames.{lower-same, kept_upper, kept_back}
use Rattle.json_text.specs.Tree.{Member}
use Rattle.json_text.specs.Kinds.{as_string}
use Rattle.jcal.specs.Parameters.{read_word_in, read_characters, read_parameter, read_parameters, is_plain, are_spelled, parameters_good}
use Rattle.jcal.specs.WriteJcal.{parameter_value}
use Rattle.jcal.proofs.laws.Trees.{str, parameter_member}
use Rattle.jcal.proofs.laws.ValuesBack.{alone_back}

-- ---- one value

plain_back : (v : Value) → is_character_data v ≡ true → is_value v ≡ true → read_word_in None (type_of v) (parameter_value v) ≡ Some v
unfolding parameter_value value_characters same_type octets_compute
plain_back (binary s) c h = characters_read_back (binary s) refl h
plain_back (boolean true) c h = refl
plain_back (boolean false) c h = refl
plain_back (cal_address s) c h = characters_read_back (cal_address s) refl h
plain_back (date s) c h = characters_read_back (date s) refl h
plain_back (date_time s) c h = characters_read_back (date_time s) refl h
plain_back (duration s) c h = characters_read_back (duration s) refl h
plain_back (float d) c h = characters_read_back (float d) refl h
plain_back (integer w) c h = characters_read_back (integer w) refl h
plain_back (period_explicit s e) c h = absurd (false≢true c)
plain_back (period_start s d) c h = absurd (false≢true c)
plain_back (recur ps) c h = absurd (false≢true c)
plain_back (text s) c h = characters_read_back (text s) refl h
plain_back (time s) c h = characters_read_back (time s) refl h
plain_back (uri s) c h = characters_read_back (uri s) refl h
plain_back (utc_offset s) c h = characters_read_back (utc_offset s) refl h
plain_back (unknown s) c h = refl
plain_back (geo la lo) c h = absurd (false≢true c)
plain_back (request_status a b x) c h = absurd (false≢true c)

-- that of an unrecognised parameter is any characters
unknown_back : (s : List ℕ) → read_word_in None UNKNOWN (parameter_value (unknown s)) ≡ Some (unknown s)
unfolding parameter_value value_characters same_type octets_compute
unknown_back s = refl

word_back : (o : Option (List (List ℕ))) (t : ValueType) (v : Value) → is_parameter_value o t v ≡ true → is_character_data v ≡ true → read_word_in o t (parameter_value v) ≡ Some v
unfolding parameter_value value_characters pick
word_back None t v h c =
    let p = and_both (same_type (type_of v) t) _ h in
    let q = and_both (is_typed v) (same_type (type_of v) UNKNOWN or is_value v) p.1 in
    rw (← (same_type_true (type_of v) t p.0))
    (kept_or_valid (λ v. is_character_data v ≡ true → read_word_in None (type_of v) (parameter_value v) ≡ Some v) (λ s c. unknown_back s) (λ v h c. plain_back v c h) v q.1 c)
word_back (Some words) t v h c = go (text_in v) refl h
  where
    go : (o : Option (List ℕ)) → text_in v ≡ o → is_word_in words o ≡ true → read_word_in (Some words) t (parameter_value v) ≡ Some v
    go None e k = absurd (false≢true k)
    go (Some s) e k = rw (text_in_lem v s e, k)

-- no double quote (34) and no LF (10)
neither : (s : List ℕ) → holds 34 s ≡ false → holds 10 s ≡ false → is_plain s ≡ true
unfolding ◌or◌
neither s a b = rw (a, b)

uri_carried : (s : List ℕ) → is_uri s ≡ true → is_plain s ≡ true
unfolding octets_compute
uri_carried s h = neither s (uri_unquoted s h) (all_without is_visible 10 refl s (uri_visible s h))

free_carried : (s : List ℕ) → (none_holds 13 (s ∷ []) and none_holds 10 (s ∷ []) and none_holds 34 (s ∷ [])) ≡ true → is_plain s ≡ true
free_carried s h =
    let q = and_both (none_holds 10 (s ∷ [])) _ (and_both (none_holds 13 (s ∷ [])) _ h).1 in
    neither s (none_split 34 s [] q.1).0 (none_split 10 s [] q.0).0

module _ (n : List ℕ) where
  pub data_of : (v : Value) → is_parameter_value (parameter_words n) (parameter_type n) v ≡ true → is_character_data v ≡ true
  data_of v h = parameter_value_lem (λ v. is_character_data v ≡ true) (λ b. refl) (λ s u. refl) (λ s u. refl) (λ s. refl) (λ s. refl) n v h

  carried : (v : Value) → is_parameter_value (parameter_words n) (parameter_type n) v ≡ true → is_parameter_text Rfc5545 v ≡ true → is_plain (parameter_value v) ≡ true
  unfolding octets_compute parameter_value value_characters
  carried v h f =
      parameter_value_lem (λ v. is_parameter_text Rfc5545 v ≡ true → is_plain (parameter_value v) ≡ true) truth (λ s u f. uri_carried s u) (λ s u f. uri_carried s u) free_carried free_carried n v h f
    where
      truth : (b : Bool) → is_parameter_text Rfc5545 (boolean b) ≡ true → is_plain (parameter_value (boolean b)) ≡ true
      truth true f = refl
      truth false f = refl

  value_back : (v : Value) → is_parameter_value (parameter_words n) (parameter_type n) v ≡ true → and_then (as_string (str (parameter_value v))) (read_characters n) ≡ Some v
  unfolding and_then
  value_back v h = word_back (parameter_words n) (parameter_type n) v h (data_of v h)

-- ---- one parameter

parameter_back : (ed : Edition) (p : Parameter) → is_valid_parameter ed p ≡ true → read_parameter (parameter_member p) ≡ Some p
unfolding read_parameter and_then pick
parameter_back ed p h =
    let c = valid_parameter ed p h in
    rw (
      kept_back p.name c.kept,
      alone_back (λ v. str (parameter_value v)) (λ v. refl) p.values,
      each_read_back (λ v. and_then (as_string v) (read_characters p.name)) (is_parameter_value (parameter_words p.name) (parameter_type p.name)) (λ v. str (parameter_value v)) (value_back p.name) p.values c.chosen,
      c.amount,
    )

pub parameters_back : (ed : Edition) (ps : List Parameter) → every (is_valid_parameter ed) ps ≡ true → read_parameters (map parameter_member ps) ≡ Some ps
parameters_back ed ps h = each_read_back read_parameter (is_valid_parameter ed) parameter_member (parameter_back ed) ps h

-- ---- all parameters

kept : (ed : Edition) (p : Parameter) → is_valid_parameter ed p ≡ true → is_kept_name p.name ≡ true
kept ed p h = (valid_parameter ed p h).kept

one_of : (ed : Edition) (w : List ℕ) (ps : List Parameter) → upper w ≡ w → every (is_valid_parameter ed) ps ≡ true →
    is_one_of (lower w) (map (λ (m : Member). m.name) (map parameter_member ps)) ≡ is_one_of w (map (λ (p : Parameter). p.name) ps)
unfolding is_one_of
one_of ed w [] u h = refl
one_of ed w (p ∷ ps) u h =
    let a = every_both (is_valid_parameter ed) p ps h in
    rw (lower-same w p.name u (kept_upper p.name (kept ed p a.0)), one_of ed w ps u a.1)

once : (ed : Edition) (ps : List Parameter) → every (is_valid_parameter ed) ps ≡ true → distinct (map (λ (m : Member). m.name) (map parameter_member ps)) ≡ distinct (map (λ (p : Parameter). p.name) ps)
unfolding distinct
once ed [] h = refl
once ed (p ∷ ps) h =
    let a = every_both (is_valid_parameter ed) p ps h in
    rw (one_of ed p.name ps (kept_upper p.name (kept ed p a.0)) a.1, once ed ps a.1)

permits : (ed : Edition) (n : List ℕ) (t : ValueType) (ps : List Parameter) → every (is_valid_parameter ed) ps ≡ true → every (λ (p : Parameter). permits_parameter n t p.name) ps ≡ true →
    every (λ (m : Member). permits_parameter n t (upper m.name)) (map parameter_member ps) ≡ true
unfolding every
permits ed n t [] h g = refl
permits ed n t (p ∷ ps) h g =
    let a = every_both (is_valid_parameter ed) p ps h in
    let b = and_both (permits_parameter n t p.name) _ g in
    and_yes _ _ (rw (kept_back p.name (kept ed p a.0)) b.0) (permits ed n t ps a.1 b.1)

-- ---- what an edition can spell

plain_all : (n : List ℕ) (vs : List Value) → every (is_parameter_value (parameter_words n) (parameter_type n)) vs ≡ true → every (is_parameter_text Rfc5545) vs ≡ true →
    every (λ v. is_plain (read_or [] (as_string v))) (map (λ v. str (parameter_value v)) vs) ≡ true
unfolding every read_or
plain_all n [] h k = refl
plain_all n (v ∷ vs) h k =
    let a = every_both (is_parameter_value (parameter_words n) (parameter_type n)) v vs h in
    let b = every_both (is_parameter_text Rfc5545) v vs k in
    and_yes _ _ (carried n v a.0 b.0) (plain_all n vs a.1 b.1)

spelled : (ed : Edition) (ps : List Parameter) → every (is_valid_parameter ed) ps ≡ true → are_spelled ed (map parameter_member ps) ≡ true
unfolding are_spelled every
spelled Rfc6868 ps h = refl
spelled Rfc5545 [] h = refl
spelled Rfc5545 (p ∷ ps) h =
    let a = every_both (is_valid_parameter Rfc5545) p ps h in
    let c = valid_parameter Rfc5545 p a.0 in
    and_yes _ _ (rw (alone_back (λ v. str (parameter_value v)) (λ v. refl) p.values) (plain_all p.name p.values c.chosen c.plain)) (spelled Rfc5545 ps a.1)

pub parameters_good_lem : (ed : Edition) (n : List ℕ) (t : ValueType) (ps : List Parameter) → are_parameters n t ps ≡ true → every (is_valid_parameter ed) ps ≡ true → parameters_good ed n t (map parameter_member ps) ≡ true
unfolding are_parameters parameters_good is_read read_or
parameters_good_lem ed n t ps g h =
    let a = and_both (every is_parameter ps) _ g in
    let b = and_both (distinct (map (λ (p : Parameter). p.name) ps)) _ a.1 in
    let c = and_both (every (λ (p : Parameter). permits_parameter n t p.name) ps) _ b.1 in
    rw (parameters_back ed ps h) (and_yes _ _ (once ed ps h ∙ b.0) (and_yes _ _ refl (and_yes _ _ (permits ed n t ps h c.0) (and_yes _ _ (spelled ed ps h) c.1))))
