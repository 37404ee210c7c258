-- The parameters of a property that is not refused, ENCODING among them where a value has type BINARY.
--     are_parameters_lem  they are the parameters of such a property
use Rattle.std.specs.Prelude.{◌≡◌, Bool, ℕ, Option, None, Some}
use Rattle.std.proofs.Math.Path.{refl}
use Rattle.std.proofs.Common.{sym, ap, ◌∙◌}
use Rattle.std.proofs.Math.Bool.{true, false, not}
use Rattle.std.proofs.lemmas.Bool.{false≢true, not-false}
use mathlib.Core.List.{List, [], ◌∷◌, map}
use Rattle.octets.specs.Ascii.{ascii}
use Rattle.octets.specs.Pick.{◌and◌, ◌or◌}
use Rattle.octets.specs.laws.Pick.{and_yes, or_left, or_right, or_cases}
use Rattle.octets.specs.Class.{upper}
use Rattle.octets.specs.Words.{same, is_one_of}
use Rattle.octets.specs.laws.Words.{same_self, same_true}
use Rattle.octets.specs.Lists.{every, any_one}
use Rattle.octets.specs.laws.Lists.{every_both, every_weaker}
use Rattle.octets.specs.Reading.{read_or}
use Rattle.octets.specs.Computing.{octets_compute}
use Rattle.calendar.specs.Calendar.{ValueType, BINARY, Value, text_in, Parameter}
use Rattle.schema.specs.Types.{same_type}
use Rattle.schema.specs.Parameters.{is_listed_parameter}
use Rattle.schema.specs.Computing.{schema_compute}
use Rattle.values.specs.Valid.{is_amount, is_word_in, is_parameter, are_parameters, is_base64_encoding}
use Rattle.values.specs.laws.Valid.{only_one}
use Rattle.validity.specs.ValidCalendar.{is_valid_parameter}
use Rattle.validity.proofs.laws.ValidCalendar.{valid_parameter}
use Rattle.xml.specs.Nodes.{Nodes, no_nodes, element, literal, referred}
use Rattle.edition.specs.declared.Edition.{Edition}
use Rattle.xcal.specs.ParameterNodes.{are_base64, has_encoding, read_parameter_nodes}
use Rattle.xcal.proofs.laws.ParametersFine.{name_in, is_encoded}
use Rattle.xcal.proofs.laws.ParametersAccepted.{Said}

encoding_name : upper (ascii "encoding") ≡ ascii "ENCODING"
unfolding octets_compute
encoding_name = refl

one_encoding : is_listed_parameter (ascii "ENCODING") ≡ false
unfolding schema_compute
one_encoding = refl

named_encoding : (kids : Nodes) → has_encoding kids ≡ true → is_one_of (ascii "ENCODING") (map name_in (read_parameter_nodes kids)) ≡ true
unfolding has_encoding read_parameter_nodes is_one_of
named_encoding no_nodes h = h
named_encoding (literal p b more) h = named_encoding more h
named_encoding (referred p bs more) h = named_encoding more h
named_encoding (element p m x kids more) h =
    or_cases (same m (ascii "encoding")) _ h
    (λ e. or_left _ _ (ap (same (ascii "ENCODING")) (ap upper (same_true m (ascii "encoding") e) ∙ encoding_name) ∙ same_self (ascii "ENCODING")))
    (λ e. or_right _ _ (named_encoding more e))

one_base64 : (v : Value) → are_base64 (v ∷ []) ≡ true → is_word_in (ascii "BASE64" ∷ []) (text_in v) ≡ true
unfolding octets_compute
one_base64 v h = go (text_in v) h
  where
    go : (o : Option (List ℕ)) → same (read_or [] o) (ascii "BASE64") ≡ true → is_word_in (ascii "BASE64" ∷ []) o ≡ true
    go None k = absurd (false≢true k)
    go (Some s) k = or_left (same s (ascii "BASE64")) false k

base64_values : (vs : List Value) → is_amount false vs ≡ true → are_base64 vs ≡ true → every (λ v. is_word_in (ascii "BASE64" ∷ []) (text_in v)) vs ≡ true
unfolding every
base64_values vs a h = only_one (λ vs. are_base64 vs ≡ true → every (λ v. is_word_in (ascii "BASE64" ∷ []) (text_in v)) vs ≡ true) (λ v k. and_yes _ _ (one_base64 v k) refl) vs a h

module _ (ed : Edition) where
  base64_says : (t : ValueType) (p : Parameter) → same_type t BINARY ≡ true → is_valid_parameter ed p ≡ true → is_encoded t p ≡ true → same p.name (ascii "ENCODING") ≡ true → is_base64_encoding p ≡ true
  unfolding ◌and◌ ◌or◌
  base64_says t p b c e n =
      let k = valid_parameter ed p c in
      let z : p.name ≡ ascii "ENCODING" = same_true _ _ n in
      rw n (base64_values p.values (ap (λ (l : Bool). is_amount l p.values) (sym (ap is_listed_parameter z ∙ one_encoding)) ∙ k.amount) (rw (n, b) at e))

  any_base64 : (t : ValueType) (ps : List Parameter) → same_type t BINARY ≡ true → every (is_valid_parameter ed) ps ≡ true → every (is_encoded t) ps ≡ true → is_one_of (ascii "ENCODING") (map name_in ps) ≡ true →
      any_one is_base64_encoding ps ≡ true
  unfolding is_one_of any_one
  any_base64 t [] b c e o = o
  any_base64 t (p ∷ ps) b c e o =
      let f = every_both (is_valid_parameter ed) p ps c in
      let g = every_both (is_encoded t) p ps e in
      or_cases (same (ascii "ENCODING") p.name) _ o
      (λ n. or_left _ _ (base64_says t p b f.0 g.0 (ap (λ (w : List ℕ). same w (ascii "ENCODING")) (sym (same_true _ _ n)) ∙ same_self (ascii "ENCODING"))))
      (λ n. or_right _ _ (any_base64 t ps b f.1 g.1 n))

  pub are_parameters_lem : (n : List ℕ) (t : ValueType) (kids : Nodes) → Said ed n t (read_parameter_nodes kids) → (same_type t BINARY and not (has_encoding kids)) ≡ false → are_parameters n t (read_parameter_nodes kids) ≡ true
  unfolding are_parameters ◌and◌
  are_parameters_lem n t kids s h =
      and_yes _ _ (every_weaker (is_valid_parameter ed) is_parameter (λ p h. (valid_parameter ed p h).typed) (read_parameter_nodes kids) s.valid)
      (and_yes _ _ s.once (and_yes _ _ s.permitted (go (same_type t BINARY) refl h)))
    where
      go : (b : Bool) → same_type t BINARY ≡ b → (b and not (has_encoding kids)) ≡ false → (not b or any_one is_base64_encoding (read_parameter_nodes kids)) ≡ true
      go false e k = or_left _ _ refl
      go true e k = or_right _ _ (any_base64 t (read_parameter_nodes kids) e s.valid s.encoded (named_encoding kids (not-false _ k)))
