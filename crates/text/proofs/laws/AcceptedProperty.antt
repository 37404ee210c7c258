-- What a content line with no fault states is a property of its component.
--     parameters_read_lem  parameters that are good are those of a property
--     both_pass            a line without a fault has parameters without one, and its value is read
--     property_accepted    what such a line states is a property
use Rattle.std.specs.Prelude.{◌≡◌, refl, Bool, true, false, not, List, [], ◌∷◌, map, ℕ, Option, None, Some, option_map}
use Rattle.std.proofs.Common.{sym, ap, ◌∙◌}
use Rattle.std.proofs.lemmas.Bool.{false≢true}
use Rattle.octets.specs.Ascii.{ascii}
use Rattle.octets.specs.Pick.{pick, ◌and◌, ◌or◌}
use Rattle.octets.specs.laws.Pick.{pick_second, and_yes, and_both, or_no, or_neither, or_left, or_right, or_cases}
use Rattle.octets.specs.Class.{upper}
use Rattle.octets.specs.laws.Letters.{upper_twice}
use Rattle.octets.specs.Words.{same, is_one_of, is_empty}
use Rattle.octets.specs.laws.Words.{empty_is, same_self, same_true}
use Rattle.octets.specs.Lists.{every, any_one, distinct}
use Rattle.octets.specs.laws.Lists.{every_map}
use Rattle.octets.specs.Reading.{cons_read, is_read, read_or, read_each}
use Rattle.octets.specs.laws.Reading.{none-some, provided-some, and_then-some, cons_read-some, each_empty, read_some}
use Rattle.octets.specs.Computing.{octets_compute}
use Rattle.calendar.specs.Calendar.{ValueType, BINARY, Value, text, text_in, Parameter}
use Rattle.schema.specs.Types.{same_type}
use Rattle.schema.specs.Parameters.{parameter_row, parameter_type, parameter_words, is_listed_parameter, is_quoted_parameter, encodings}
use Rattle.schema.specs.Properties.{permits_parameter}
use Rattle.values.specs.Valid
use Rattle.values.specs.Valid.{is_word_in, are_parameters, is_property, is_base64_encoding}
use Rattle.read_text_line.specs.ContentLine.{ParamValue, RawParameter, ContentLine}
use Rattle.text.specs.Parameters.{read_word, read_param_value, is_single, read_parameter, is_value_parameter, stated_type, own_parameters, read_parameters, is_word, is_raw_base64_encoding}
use Rattle.text.specs.Values.{read_values}
use Rattle.text.specs.Faults.{Where, parameters_fault, line_fault}
use Rattle.text.specs.Statement.{values_of_line, fault_as, property_fault, property_of}
use Rattle.text.proofs.laws.Faults.{parameters_good, faultless_good}
use Rattle.text.proofs.laws.ParameterLaws.{has_value, parameters_accepted}
use Rattle.text.proofs.laws.AcceptedValues.{values_accepted}

-- ---- names

abbrev raw_name : RawParameter → List ℕ
raw_name r = upper r.name

abbrev name_of : Parameter → List ℕ
name_of p = p.name

-- what a parameter is read from
pub record Read (r : RawParameter) (p : Parameter) : Type 0 where
  pub named : p.name ≡ upper r.name
  pub each : read_each (read_param_value (upper r.name)) r.values ≡ Some p.values

pub parameter_read : (r : RawParameter) (p : Parameter) → read_parameter r ≡ Some p → Read r p
unfolding read_parameter pick
parameter_read r p h = go (is_listed_parameter (raw_name r) or is_single r.values) (read_each (read_param_value (raw_name r)) r.values) refl h
  where
    named : List Value → Parameter
    named vs = record { name = raw_name r; values = vs }

    go : (b : Bool) (o : Option (List Value)) → read_each (read_param_value (raw_name r)) r.values ≡ o → pick b (option_map named o) None ≡ Some p → Read r p
    go false o e k = none-some k
    go true None e k = none-some k
    go true (Some vs) e k =
        let q : named vs ≡ p = cc in
        record { named = ap name_of (sym q); each = e ∙ ap (λ (x : Parameter). Some x.values) q }

names_read : (rs : List RawParameter) (ps : List Parameter) → read_each read_parameter rs ≡ Some ps → map name_of ps ≡ map raw_name rs
unfolding read_each
names_read [] ps h = let q : [] ≡ ps = cc in rw (← q)
names_read (r ∷ rs) ps h =
    let e = and_then-some (read_parameter r) (λ p. cons_read p (read_each read_parameter rs)) ps h in
    let g = cons_read-some e.0 (read_each read_parameter rs) ps e.2 in
    rw (← g.2, (parameter_read r e.0 e.1).named, names_read rs g.0 g.1)

-- without VALUE, each still stands once
own_among : (w : List ℕ) (rs : List RawParameter) → is_one_of w (map raw_name rs) ≡ false → is_one_of w (map raw_name (own_parameters rs)) ≡ false
unfolding is_one_of own_parameters pick
own_among w [] h = refl
own_among w (r ∷ rs) h = let e = or_neither _ _ h in go (is_value_parameter r) e.0 (own_among w rs e.1)
  where
    go : (b : Bool) → same w (raw_name r) ≡ false → is_one_of w (map raw_name (own_parameters rs)) ≡ false → is_one_of w (map raw_name (pick b (own_parameters rs) (r ∷ own_parameters rs))) ≡ false
    go true e ih = ih
    go false e ih = or_no _ _ e ih

own_distinct : (rs : List RawParameter) → distinct (map raw_name rs) ≡ true → distinct (map raw_name (own_parameters rs)) ≡ true
unfolding distinct own_parameters pick
own_distinct [] h = refl
own_distinct (r ∷ rs) h = let e = pick_second _ _ h in go (is_value_parameter r) (own_among (raw_name r) rs e.0) (own_distinct rs e.1)
  where
    go : (b : Bool) → is_one_of (raw_name r) (map raw_name (own_parameters rs)) ≡ false → distinct (map raw_name (own_parameters rs)) ≡ true →
        distinct (map raw_name (pick b (own_parameters rs) (r ∷ own_parameters rs))) ≡ true
    go true a ih = ih
    go false a ih = rw a ih

-- ---- ENCODING=BASE64

encoding_words : (n : List ℕ) → same n (ascii "ENCODING") ≡ true → parameter_words n ≡ Some encodings
unfolding parameter_row octets_compute
encoding_words n h = rw (same_true n (ascii "ENCODING") h)

-- its value is the word that stands there, in capitals
encoding_read : (n : List ℕ) (v : ParamValue) (x : Value) → same n (ascii "ENCODING") ≡ true → read_param_value n v ≡ Some x → text (upper v.chars) ≡ x
unfolding read_param_value pick
encoding_read n v x e h = go (not v.quoted and is_quoted_parameter n) (parameter_words n) (encoding_words n e) h
  where
    go : (b : Bool) (o : Option (List (List ℕ))) → o ≡ Some encodings → pick b None (read_word o (parameter_type n) v.chars) ≡ Some x → text (upper v.chars) ≡ x
    go true o w k = none-some k
    go false None w k = none-some w
    go false (Some words) w k = (provided-some (is_one_of (upper v.chars) words) (text (upper v.chars)) x k).1

base64_values : (n : List ℕ) (rs : List ParamValue) (vs : List Value) → same n (ascii "ENCODING") ≡ true → is_word (ascii "BASE64") rs ≡ true →
    read_each (read_param_value n) rs ≡ Some vs → every (λ v. is_word_in (ascii "BASE64" ∷ []) (text_in v)) vs ≡ true
unfolding read_each every is_one_of ◌and◌
base64_values n [] vs e w h = absurd (false≢true w)
base64_values n (r ∷ rs) vs e w h =
    let a = and_then-some (read_param_value n r) (λ v. cons_read v (read_each (read_param_value n) rs)) vs h in
    let g = cons_read-some a.0 (read_each (read_param_value n) rs) vs a.2 in
    let c = and_both (same (upper r.chars) (ascii "BASE64")) (is_empty rs) w in
    let l : g.0 ≡ [] = empty_is g.0 (each_empty (read_param_value n) rs g.0 g.1 ∙ c.1) in
    rw (← g.2, l, ← (encoding_read n r a.0 e a.1)) (and_yes _ _ (or_left _ _ c.0) refl)

base64_read : (r : RawParameter) (p : Parameter) → Read r p → is_raw_base64_encoding r ≡ true → is_base64_encoding p ≡ true
base64_read r p d h =
    let c = and_both (same (raw_name r) (ascii "ENCODING")) _ h in
    and_yes _ _ (rw d.named c.0) (base64_values (raw_name r) r.values p.values c.0 c.1 d.each)

encoding_own : same (ascii "ENCODING") (ascii "VALUE") ≡ false
unfolding octets_compute
encoding_own = refl

base64_own : (r : RawParameter) → is_raw_base64_encoding r ≡ true → is_value_parameter r ≡ false
base64_own r h = rw (same_true (raw_name r) (ascii "ENCODING") (and_both _ _ h).0) encoding_own

any_own : (rs : List RawParameter) → any_one is_raw_base64_encoding rs ≡ true → any_one is_raw_base64_encoding (own_parameters rs) ≡ true
unfolding any_one own_parameters pick
any_own [] h = h
any_own (r ∷ rs) h = go (is_value_parameter r) refl (any_own rs)
  where
    go : (b : Bool) → is_value_parameter r ≡ b → (any_one is_raw_base64_encoding rs ≡ true → any_one is_raw_base64_encoding (own_parameters rs) ≡ true) → any_one is_raw_base64_encoding (pick b (own_parameters rs) (r ∷ own_parameters rs)) ≡ true
    go true e ih = or_cases (is_raw_base64_encoding r) _ h (λ k. absurd (false≢true (sym (base64_own r k) ∙ e))) ih
    go false e ih = or_cases (is_raw_base64_encoding r) _ h (λ k. or_left _ _ k) (λ k. or_right _ _ (ih k))

any_read : (rs : List RawParameter) (ps : List Parameter) → read_each read_parameter rs ≡ Some ps → any_one is_raw_base64_encoding rs ≡ true → any_one is_base64_encoding ps ≡ true
unfolding read_each any_one
any_read [] ps h b = absurd (false≢true b)
any_read (r ∷ rs) ps h b =
    let e = and_then-some (read_parameter r) (λ p. cons_read p (read_each read_parameter rs)) ps h in
    let g = cons_read-some e.0 (read_each read_parameter rs) ps e.2 in
    let ih = any_read rs g.0 g.1 in
    rw (← g.2) (or_cases (is_raw_base64_encoding r) _ b (λ k. or_left _ _ (base64_read r e.0 (parameter_read r e.0 e.1) k)) (λ k. or_right _ _ (ih k)))

-- ---- the parameters of a property

every_named : (p : List ℕ → Bool) (rs : List RawParameter) (ps : List Parameter) → map name_of ps ≡ map raw_name rs → every (λ r. p (raw_name r)) rs ≡ true → every (λ q. p (name_of q)) ps ≡ true
every_named p rs ps e h = sym (every_map p name_of ps) ∙ ap (every p) e ∙ every_map p raw_name rs ∙ h

pub parameters_read_lem : (n : List ℕ) (t : ValueType) (rs : List RawParameter) (ps : List Parameter) → every has_value rs ≡ true → parameters_good n t rs ≡ true → read_parameters rs ≡ Some ps →
    are_parameters n t ps ≡ true
unfolding parameters_good are_parameters
parameters_read_lem n t rs ps v g h =
    let a = and_both (distinct (map raw_name rs)) _ g in
    let b = and_both (is_read (read_parameters rs)) _ a.1 in
    let c = and_both (every (λ r. permits_parameter n t (raw_name r)) (own_parameters rs)) _ b.1 in
    let e : map name_of ps ≡ map raw_name (own_parameters rs) = names_read (own_parameters rs) ps h in
    and_yes _ _ (parameters_accepted rs ps v h)
    (and_yes _ _ (rw e (own_distinct rs a.0))
    (and_yes _ _ (every_named (permits_parameter n t) (own_parameters rs) ps e c.0)
    (or_cases (not (same_type t BINARY)) _ c.1 (λ k. or_left _ _ k) (λ k. or_right _ _ (any_read (own_parameters rs) ps h (any_own rs k))))))

-- ---- the property

-- what a line with no fault has
pub record NoFault (k : List ℕ) (l : ContentLine) : Type 0 where
  pub type : ValueType
  pub parameters : List Parameter
  pub values : List Value
  pub stated : stated_type (upper l.name) l.parameters ≡ Some type
  pub good : parameters_good (upper l.name) type l.parameters ≡ true
  pub parameters_read : read_parameters l.parameters ≡ Some parameters
  pub values_read : read_values k (upper l.name) type l.value ≡ Some values

some-none : {A X : Type 0} {a : A} → Some a ≡ None → X
some-none e = none-some (sym e)

-- the two tests that a line passes
pub both_pass : (o : Option Where) (r : Bool) → line_fault o r ≡ None → (o ≡ None) × (r ≡ true)
both_pass None true h = (refl, refl)
both_pass None false h = some-none h
both_pass (Some w) r h = some-none h

pub no_fault : (k : List ℕ) (l : ContentLine) → property_fault k l ≡ None → NoFault k l
unfolding fault_as parameters_good read_or
no_fault k l h =
    let n = upper l.name in
    let o = stated_type n l.parameters in
    let b = both_pass (parameters_fault n o l.parameters) (is_read (values_of_line k o l)) h in
    let f = faultless_good n l.parameters b.0 in
    let r : is_read (read_values k n f.type l.value) ≡ true = rw f.stated at b.1 in
    let v = read_some (read_values k n f.type l.value) r in
    let p = read_some (read_parameters l.parameters) (and_both _ _ (and_both _ _ f.good).1).0 in
    record { type = f.type; parameters = p.0; values = v.0; stated = f.stated; good = f.good; parameters_read = p.1; values_read = v.1 }

pub property_accepted : (k : List ℕ) (l : ContentLine) → every has_value l.parameters ≡ true → property_fault k l ≡ None → is_property k (property_of k l) ≡ true
unfolding is_property property_of read_or
property_accepted k l v h =
    let f = no_fault k l h in
    let n = upper l.name in
    let a = values_accepted k n f.type l.value f.values f.values_read in
    rw (f.stated, f.parameters_read, f.values_read, a.1)
    (and_yes _ _ (rw (upper_twice l.name) (same_self n))
    (and_yes _ _ (parameters_read_lem n f.type l.parameters f.parameters v f.good f.parameters_read) a.0))
