-- Parameters that are written to XML are not refused (RFC 6321, section 3.5).
--     parameters_fine      the verdict on the elements of parameters
--     has_encoding_lem     ENCODING stands among them where a value of type BINARY has it
use Rattle.std.specs.Prelude.{◌≡◌, Bool, true, false, ℕ, eqb, Option, None, Some}
use Rattle.std.proofs.Math.Path.{refl}
use Rattle.std.proofs.Common.{sym, ap, ◌∙◌, arith, ne_eqb}
use Rattle.std.proofs.Math.Bool.{not}
use Rattle.std.proofs.lemmas.Bool.{false≢true, not-true}
use mathlib.Core.List.{List, [], ◌∷◌, map}
use Rattle.octets.specs.Ascii.{ascii}
use Rattle.octets.specs.Pick.{pick, ◌and◌, ◌or◌}
use Rattle.octets.specs.laws.Pick.{and_both, and_yes, or_no, or_neither, or_left, or_right, or_cases, and_no_left, and_no_right, pick_second}
use Rattle.octets.specs.Append.{◌⊕◌}
use Rattle.octets.specs.laws.Append.{length_both}
use Rattle.octets.specs.Class.{upper, lower}
use Rattle.octets.specs.Words.{same, is_one_of}
use Rattle.octets.specs.laws.Words.{same_self, same_true, same_swap}
use Rattle.octets.specs.Lists.{every, any_one, distinct}
use Rattle.octets.specs.laws.Lists.{every_both}
use Rattle.octets.specs.Reading.{read_or}
use Rattle.octets.specs.Computing.{octets_compute}
use Rattle.calendar.specs.Calendar.{ValueType, BINARY, Value, text_in, Parameter}
use Rattle.calendar.specs.Refusal.{fine, ◌otherwise◌}
use Rattle.schema.specs.Types.{same_type}
use Rattle.schema.specs.Parameters.{is_listed_parameter}
use Rattle.schema.specs.Properties.{permits_parameter}
use Rattle.values.specs.Valid.{is_amount, is_word_in, is_parameter, are_parameters, is_base64_encoding}
use Rattle.validity.specs.ValidCalendar.{is_kept_name, is_valid_parameter}
use Rattle.validity.proofs.laws.ValidCalendar.{ValidParameter, valid_parameter}
use Rattle.xml.specs.Nodes.{no_nodes}
use Rattle.xml.specs.Content.{Content, nothing, end_tag_place, placed}
use Rattle.edition.specs.declared.Edition.{Edition}
use Rattle.xcal.proofs.laws.ElementNames.{lower-same, no_capital, kept_upper, kept_back, kept_carried}
use Rattle.xcal.proofs.laws.Contents.{values_before, parameters_before}
use Rattle.xcal.specs.ParameterNodes.{are_spelled, read_param_nodes, values_good, are_base64, encodes, has_encoding, bad_name, parameter_verdict, parameters_verdict}
use Rattle.xcal.proofs.laws.ParametersBack.{spelled_in, values_in, has_element_lem}

abbrev pub name_in : Parameter → List ℕ
name_in p = p.name

-- ---- the verdict on one

-- a start tag and an end tag stand at two places
tags_apart : (n : List ℕ) (c : Content) (p : ℕ) → eqb p (end_tag_place n c p) ≡ false
tags_apart n c p = ne_eqb p (end_tag_place n c p) (λ e. omega (arith, length_both (ascii "<") (n ⊕ ascii ">")))

value_name : upper (ascii "VALUE") ≡ ascii "VALUE"
unfolding octets_compute
value_name = refl

good_name : (n : List ℕ) → is_kept_name n ≡ true → same n (ascii "VALUE") ≡ false → bad_name (lower n) ≡ false
unfolding lower pick ◌and◌
good_name n k o =
    or_no _ _ (no_capital n) (or_no _ _ (rw (kept_carried n k)) (lower-same n (ascii "VALUE") (kept_upper n k) value_name ∙ o))

good_amount : (l : Bool) (vs : List Value) → is_amount l vs ≡ true → values_good l (Some vs) ≡ true
good_amount l [] h = refl
good_amount l (v ∷ vs) h = h

-- ---- ENCODING

-- with a value of type BINARY, it is BASE64
abbrev pub is_encoded : ValueType → Parameter → Bool
is_encoded t p = not (same p.name (ascii "ENCODING") and same_type t BINARY) or are_base64 p.values

base64_values : (vs : List Value) → every (λ v. is_word_in (ascii "BASE64" ∷ []) (text_in v)) vs ≡ true → are_base64 vs ≡ true
unfolding is_one_of read_or
base64_values [] h = refl
base64_values (v ∷ vs) h = go (text_in v) (every_both _ v vs h).0
  where
    go : (o : Option (List ℕ)) → is_word_in (ascii "BASE64" ∷ []) o ≡ true → same (read_or [] o) (ascii "BASE64") ≡ true
    go None k = absurd (false≢true k)
    go (Some s) k = or_cases (same s (ascii "BASE64")) false k (λ e. e) (λ e. absurd (false≢true e))

not_encoding : (t : ValueType) (p : Parameter) → same p.name (ascii "ENCODING") ≡ false → is_encoded t p ≡ true
unfolding ◌and◌ ◌or◌
not_encoding t p h = rw h

no_encoding : (t : ValueType) (ps : List Parameter) → is_one_of (ascii "ENCODING") (map name_in ps) ≡ false → every (is_encoded t) ps ≡ true
unfolding is_one_of every
no_encoding t [] h = refl
no_encoding t (p ∷ ps) h =
    let e = or_neither (same (ascii "ENCODING") p.name) _ h in
    and_yes _ _ (not_encoding t p (same_swap _ _ e.0)) (no_encoding t ps e.1)

any_encoding : (ps : List Parameter) → any_one is_base64_encoding ps ≡ true → is_one_of (ascii "ENCODING") (map name_in ps) ≡ true
unfolding is_one_of any_one
any_encoding [] h = absurd (false≢true h)
any_encoding (p ∷ ps) h =
    or_cases (is_base64_encoding p) (any_one is_base64_encoding ps) h
    (λ e. or_left _ _ (rw (same_true p.name (ascii "ENCODING") (and_both _ _ e).0) (same_self (ascii "ENCODING"))))
    (λ e. or_right _ _ (any_encoding ps e))

-- a name that is in a list is another than one that is not
apart_of : (n : List ℕ) (ns : List (List ℕ)) → is_one_of (ascii "ENCODING") ns ≡ true → is_one_of n ns ≡ false → same (ascii "ENCODING") n ≡ false
apart_of n ns a b = go (same (ascii "ENCODING") n) refl
  where
    go : (t : Bool) → same (ascii "ENCODING") n ≡ t → t ≡ false
    go true e = absurd (false≢true (sym b ∙ ap (λ (x : List ℕ). is_one_of x ns) (sym (same_true _ _ e)) ∙ a))
    go false e = refl

each_encoded : (t : ValueType) (ps : List Parameter) → distinct (map name_in ps) ≡ true → any_one is_base64_encoding ps ≡ true → every (is_encoded t) ps ≡ true
unfolding distinct any_one every
each_encoded t [] d h = refl
each_encoded t (p ∷ ps) d h =
    let o = pick_second (is_one_of p.name (map name_in ps)) (distinct (map name_in ps)) d in
    or_cases (is_base64_encoding p) (any_one is_base64_encoding ps) h
    (λ e.
    let w = and_both (same p.name (ascii "ENCODING")) _ e in
    let z : p.name ≡ ascii "ENCODING" = same_true _ _ w.0 in
    and_yes _ _ (or_right _ _ (base64_values p.values w.1)) (no_encoding t ps (rw z at o.0)))
    (λ e. and_yes _ _ (not_encoding t p (same_swap _ _ (apart_of p.name (map name_in ps) (any_encoding ps e) o.0))) (each_encoded t ps o.1 e))

others_encoded : (t : ValueType) (ps : List Parameter) → same_type t BINARY ≡ false → every (is_encoded t) ps ≡ true
unfolding every
others_encoded t [] h = refl
others_encoded t (p ∷ ps) h = and_yes _ _ (or_left _ _ (rw (and_no_right (same p.name (ascii "ENCODING")) _ h))) (others_encoded t ps h)

all_encoded : (t : ValueType) (ps : List Parameter) → distinct (map name_in ps) ≡ true → (not (same_type t BINARY) or any_one is_base64_encoding ps) ≡ true → every (is_encoded t) ps ≡ true
all_encoded t ps d h = or_cases (not (same_type t BINARY)) _ h (λ e. others_encoded t ps (not-true _ e)) (each_encoded t ps d)

-- none of the parameters has come
abbrev unseen : List (List ℕ) → List Parameter → Bool
unseen seen ps = every (λ (p : Parameter). not (is_one_of (lower p.name) seen)) ps

unseen_none : (ps : List Parameter) → unseen [] ps ≡ true
unfolding every is_one_of
unseen_none [] = refl
unseen_none (p ∷ ps) = and_yes _ _ refl (unseen_none ps)

module _ (ed : Edition) where
  -- ---- the verdict

  -- a parameter of the property n whose values have type t
  module _ (n : List ℕ) (t : ValueType) (p : Parameter) (c : ValidParameter ed p) (permitted : permits_parameter n t p.name ≡ true) (enc : is_encoded t p ≡ true) where
    good_parameter : (seen : List (List ℕ)) (r : ℕ) → is_one_of (lower p.name) seen ≡ false →
        (is_one_of (lower p.name) seen or not (permits_parameter n t (upper (lower p.name)))
        or not (values_good (is_listed_parameter (upper (lower p.name))) (read_param_nodes (upper (lower p.name)) (placed (values_before p.values nothing) r no_nodes)))
        or not (encodes (upper (lower p.name)) t (placed (values_before p.values nothing) r no_nodes))
        or not (are_spelled ed (placed (values_before p.values nothing) r no_nodes))) ≡ false
    unfolding read_or
    good_parameter seen r u =
        rw (kept_back p.name c.kept, values_in ed p c r)
        (or_no _ _ u (or_no _ _ (rw permitted) (or_no _ _ (rw (good_amount (is_listed_parameter p.name) p.values c.amount)) (or_no _ _ (rw enc) (rw (spelled_in ed p c r))))))

    parameter_fine : (seen : List (List ℕ)) (a x r : ℕ) → is_one_of (lower p.name) seen ≡ false → eqb a x ≡ false →
        parameter_verdict ed n t seen a (lower p.name) x (placed (values_before p.values nothing) r no_nodes) ≡ fine
    unfolding parameter_verdict pick
    parameter_fine seen a x r u e =
        rw (good_name p.name c.kept c.other, e, good_parameter seen r u, has_element_lem p.name (is_listed_parameter p.name) p.values c.amount c.chosen r)

  unseen_more : (m : List ℕ) (seen : List (List ℕ)) (ps : List Parameter) → upper m ≡ m → every (is_valid_parameter ed) ps ≡ true → is_one_of m (map name_in ps) ≡ false → unseen seen ps ≡ true →
      unseen (lower m ∷ seen) ps ≡ true
  unfolding is_one_of every
  unseen_more m seen [] u h o k = refl
  unseen_more m seen (p ∷ ps) u h o k =
      let a = every_both (is_valid_parameter ed) p ps h in
      let b = or_neither (same m p.name) _ o in
      let d = and_both (not (is_one_of (lower p.name) seen)) _ k in
      and_yes _ _
      (rw (or_no _ _ (lower-same p.name m (kept_upper p.name (valid_parameter ed p a.0).kept) u ∙ same_swap m p.name b.0) (not-true _ d.0)))
      (unseen_more m seen ps u a.1 b.1 d.1)

  pub parameters_fine : (n : List ℕ) (t : ValueType) (ps : List Parameter) (seen : List (List ℕ)) → every (is_valid_parameter ed) ps ≡ true → distinct (map name_in ps) ≡ true →
      every (λ (p : Parameter). permits_parameter n t p.name) ps ≡ true → every (is_encoded t) ps ≡ true → unseen seen ps ≡ true →
      (q : ℕ) → parameters_verdict ed n t (placed (parameters_before ps nothing) q no_nodes) seen ≡ fine
  unfolding parameters_before placed parameters_verdict distinct ◌otherwise◌
  parameters_fine n t [] seen h d m e u q = refl
  parameters_fine n t (p ∷ ps) seen h d m e u q =
      let a = every_both (is_valid_parameter ed) p ps h in
      let c = valid_parameter ed p a.0 in
      let o = pick_second (is_one_of p.name (map name_in ps)) (distinct (map name_in ps)) d in
      let b = every_both (λ (p : Parameter). permits_parameter n t p.name) p ps m in
      let k = every_both (is_encoded t) p ps e in
      let w = every_both (λ (p : Parameter). not (is_one_of (lower p.name) seen)) p ps u in
      rw (parameter_fine n t p c b.0 k.0 seen q _ _ (not-true _ w.0) (tags_apart (lower p.name) (values_before p.values nothing) q))
      (parameters_fine n t ps (lower p.name ∷ seen) a.1 o.1 b.1 k.1 (unseen_more p.name seen ps (kept_upper p.name c.kept) a.1 o.0 w.1) _)

  -- the parameters of a property n whose values have type t
  pub parameters_good_lem : (n : List ℕ) (t : ValueType) (ps : List Parameter) → are_parameters n t ps ≡ true → every (is_valid_parameter ed) ps ≡ true →
      (q : ℕ) → parameters_verdict ed n t (placed (parameters_before ps nothing) q no_nodes) [] ≡ fine
  unfolding are_parameters
  parameters_good_lem n t ps h c q =
      let a = and_both (every is_parameter ps) _ h in
      let b = and_both (distinct (map name_in ps)) _ a.1 in
      let d = and_both (every (λ (p : Parameter). permits_parameter n t p.name) ps) _ b.1 in
      parameters_fine n t ps [] c b.0 d.0 (all_encoded t ps b.0 d.1) (unseen_none ps) q

  -- ---- ENCODING among the parameters

  encoding_in : (ps : List Parameter) → every (is_valid_parameter ed) ps ≡ true → is_one_of (ascii "ENCODING") (map name_in ps) ≡ true → (q : ℕ) → has_encoding (placed (parameters_before ps nothing) q no_nodes) ≡ true
  unfolding parameters_before placed has_encoding is_one_of lower pick ◌and◌
  encoding_in [] h o q = absurd (false≢true o)
  encoding_in (p ∷ ps) h o q =
      let a = every_both (is_valid_parameter ed) p ps h in
      or_cases (same (ascii "ENCODING") p.name) _ o
      (λ e. or_left _ _ (ap (λ (n : List ℕ). same (lower n) (ascii "encoding")) (sym (same_true _ _ e)) ∙ same_self (ascii "encoding")))
      (λ e. or_right _ _ (encoding_in ps a.1 e _))

  pub has_encoding_lem : (n : List ℕ) (t : ValueType) (ps : List Parameter) → are_parameters n t ps ≡ true → every (is_valid_parameter ed) ps ≡ true → (q : ℕ) →
      (same_type t BINARY and not (has_encoding (placed (parameters_before ps nothing) q no_nodes))) ≡ false
  unfolding are_parameters
  has_encoding_lem n t ps h c q =
      let a = and_both (every is_parameter ps) _ h in
      let b = and_both (distinct (map name_in ps)) _ a.1 in
      let d = and_both (every (λ (p : Parameter). permits_parameter n t p.name) ps) _ b.1 in
      or_cases (not (same_type t BINARY)) _ d.1 (λ e. and_no_left _ _ (not-true _ e)) (λ e. and_no_right _ _ (rw (encoding_in ps c (any_encoding ps e) q)))
