-- Parameters that are written to a content line are read back, and what is read is a parameter.
--     parameter_read_back, parameters_read_back   of one, and of those of a property
--     parameter_accepted, parameters_accepted     what is read is typed as the schema says
--     own_with_value, type_read_back              VALUE that is written is none of the parameters, and names the type
use Rattle.std.specs.Prelude.{◌≡◌, refl, Bool, true, false, not, List, [], ◌∷◌, map, ℕ, Option, None, Some, option_map}
use Rattle.std.proofs.Common.{subst, sym, ap, ◌∙◌}
use Rattle.std.proofs.lemmas.Bool.{false≢true, not-true}
use Rattle.octets.specs.Pick.{pick, ◌and◌, ◌or◌}
use Rattle.octets.specs.laws.Pick.{pick_yes, pick_no, and_yes, and_both, or_left, or_right}
use Rattle.octets.specs.Class.{upper}
use Rattle.octets.specs.laws.Letters.{upper_twice}
use Rattle.octets.specs.Words.{same, is_one_of, is_empty}
use Rattle.octets.specs.laws.Words.{same_true, same_self}
use Rattle.octets.specs.Lists.{every}
use Rattle.octets.specs.laws.Lists.{every_both}
use Rattle.octets.specs.Reading.{provided, read_or, read_each}
use Rattle.octets.specs.laws.Reading.{none-some, provided-some, each_read_back, each_accepted, each_accepted_of}
use Rattle.octets.specs.Computing.{octets_compute}
use Rattle.calendar.specs.Calendar.{ical, ValueType, TEXT, UNKNOWN, Value, text, unknown, type_of, text_in, Parameter}
use Rattle.schema.specs.Types.{type_name, type_named, value_types, same_type, is_type_of}
use Rattle.schema.specs.laws.Types.{same_type_self, same_type_true, type_name_read_back, type_any, type_passes}
use Rattle.schema.specs.Properties.{PropertyRow, default_type, permitted_types, is_known_property}
use Rattle.schema.specs.laws.Rows.{known_types, unrecognised_property_lem}
use Rattle.schema.specs.Computing.{schema_compute}
use Rattle.schema.specs.Parameters.{parameter_type, is_listed_parameter, parameter_words, is_quoted_parameter}
use Rattle.schema.specs.laws.Closed.{parameter_words_plain}
use Rattle.values.specs.ReadValue.{read_value}
use Rattle.values.specs.WriteValue.{write_value}
use Rattle.values.specs.ReadBack.{is_value, is_typed}
use Rattle.values.specs.laws.ReadBack.{value_read_back, value_accepted}
use Rattle.values.specs.Valid.{is_amount, is_of_parameter, is_word_in, is_parameter_value, is_parameter}
use Rattle.values.specs.laws.Valid.{each_amount, text_or_other, text_in_lem, any_unknown, kept_or_valid}
use Rattle.read_text_line.specs.ContentLine.{ParamValue, RawParameter}
use Rattle.text.specs.Parameters.{read_typed, read_word, read_param_value, is_single, read_parameter, is_value_parameter, stated_type, own_parameters, read_parameters}
use Rattle.text.specs.WriteText.{param_chars, param_value_of, raw_of, value_parameter, with_value}

-- ---- one value

-- any characters, or as the type says
typed_read_back : (v : Value) → is_typed v ≡ true → (same_type (type_of v) UNKNOWN or is_value v) ≡ true → read_typed (type_of v) (param_chars v) ≡ Some v
unfolding same_type pick read_or write_value
typed_read_back v t h = kept_or_valid (λ v. is_typed v ≡ true → read_typed (type_of v) (param_chars v) ≡ Some v) (λ s t. refl) typed v h t
  where
    typed : (v : Value) → is_value v ≡ true → is_typed v ≡ true → read_typed (type_of v) (param_chars v) ≡ Some v
    typed v h t =
        text_or_other (λ v. is_typed v ≡ true → is_value v ≡ true → read_typed (type_of v) (param_chars v) ≡ Some v)
        (λ s t h. refl)
        (λ v e n t h. other v e n t h (same_type (type_of v) UNKNOWN) refl)
        v t t h
      where
        other : (v : Value) → text_in v ≡ None → same_type (type_of v) TEXT ≡ false → is_typed v ≡ true → is_value v ≡ true → (b : Bool) → same_type (type_of v) UNKNOWN ≡ b → read_typed (type_of v) (param_chars v) ≡ Some v
        other v e n t h true q = any_unknown (λ v. read_typed (type_of v) (param_chars v) ≡ Some v) (λ s. refl) v q
        other v e n t h false q = rw (n, q, e) (value_read_back v t h)

word_read_back : (n : List ℕ) (o : Option (List (List ℕ))) (t : ValueType) (v : Value) → parameter_words n ≡ o → is_parameter_value o t v ≡ true → read_word o t (param_chars v) ≡ Some v
unfolding read_or
word_read_back n None t v e h =
    let p = and_both (same_type (type_of v) t) (is_typed v and (same_type (type_of v) UNKNOWN or is_value v)) h in
    let q = and_both (is_typed v) (same_type (type_of v) UNKNOWN or is_value v) p.1 in
    rw (← (same_type_true (type_of v) t p.0)) (typed_read_back v q.0 q.1)
word_read_back n (Some words) t v e h = go (text_in v) refl h
  where
    go : (x : Option (List ℕ)) → text_in v ≡ x → is_word_in words x ≡ true → provided (is_one_of (upper (read_or (write_value v) x)) words) (text (upper (read_or (write_value v) x))) ≡ Some v
    go None k h = absurd (false≢true h)
    go (Some s) k h =
        let c = and_both _ _ (and_both _ _ (parameter_words_plain n words s e h)).1 in
        rw (same_true (upper s) s c.1, text_in_lem v s k) (pick_yes (is_one_of s words) _ _ h)

-- a parameter that must be quoted is written with quotes
quotes_kept : (a b : Bool) → (not (a or b) and a) ≡ false
unfolding ◌and◌ ◌or◌
quotes_kept true b = refl
quotes_kept false true = refl
quotes_kept false false = refl

value_written : (n : List ℕ) (v : Value) → is_parameter_value (parameter_words n) (parameter_type n) v ≡ true → read_param_value n (param_value_of n v) ≡ Some v
unfolding read_param_value
value_written n v h = pick_no _ None _ (quotes_kept (is_quoted_parameter n) _) ∙ word_read_back n (parameter_words n) (parameter_type n) v refl h

-- ---- one parameter

-- as many values as are written
single_map : {A B : Type 0} (l : Bool) (f : A → B) (vs : List A) → is_amount l vs ≡ true → (l or is_single (map f vs)) ≡ true
single_map l f [] h = absurd (false≢true h)
single_map l f (v ∷ []) h = h
single_map l f (v ∷ w ∷ vs) h = h

abbrev parameter_of : List ℕ → List Value → Parameter
parameter_of n vs = record { name = n; values = vs }

-- of a name in capitals
named_read_back : (n : List ℕ) (vs : List Value) → is_amount (is_listed_parameter n) vs ≡ true → every (is_parameter_value (parameter_words n) (parameter_type n)) vs ≡ true →
    pick (is_listed_parameter n or is_single (map (param_value_of n) vs))
    (option_map (parameter_of n) (read_each (read_param_value n) (map (param_value_of n) vs))) None
    ≡ Some (parameter_of n vs)
unfolding pick
named_read_back n vs a h =
    rw (single_map (is_listed_parameter n) (param_value_of n) vs a, each_read_back (read_param_value n) (is_parameter_value (parameter_words n) (parameter_type n)) (param_value_of n) (value_written n) vs h)

pub parameter_read_back : (p : Parameter) → is_parameter p ≡ true → read_parameter (raw_of p) ≡ Some p
unfolding is_parameter read_parameter
parameter_read_back p h =
    let c = and_both (same (upper p.name) p.name) _ h in
    let d = and_both _ _ (and_both _ _ c.1).1 in
    rw (same_true (upper p.name) p.name c.0) (named_read_back p.name p.values d.0 d.1)

-- ---- what is read is a parameter

word_accepted : (o : Option (List (List ℕ))) (t : ValueType) (s : List ℕ) (v : Value) → read_word o t s ≡ Some v → is_parameter_value o t v ≡ true
unfolding pick ◌and◌
word_accepted None t s v h = go (same_type t TEXT) refl h
  where
    other : (b : Bool) → same_type t UNKNOWN ≡ b → pick b (Some (unknown s)) (read_value ical t s) ≡ Some v → is_of_parameter t v ≡ true
    other true e k =
        let q : unknown s ≡ v = cc in
        rw (← q, same_type_true t UNKNOWN e, same_type_self UNKNOWN) (or_left _ _ refl)
    other false e k =
        let a = value_accepted ical t s v k in
        rw (a.2, same_type_self t) (and_yes _ _ a.1 (or_right _ _ a.0))

    go : (b : Bool) → same_type t TEXT ≡ b → pick b (Some (text s)) (pick (same_type t UNKNOWN) (Some (unknown s)) (read_value ical t s)) ≡ Some v → is_of_parameter t v ≡ true
    go true e k =
        let q : text s ≡ v = cc in
        rw (← q, same_type_true t TEXT e, same_type_self TEXT) (or_right _ _ refl)
    go false e k = other (same_type t UNKNOWN) refl k
word_accepted (Some words) t s v h =
    let p = provided-some (is_one_of (upper s) words) (text (upper s)) v h in
    rw (← p.1) p.0

value_read : (n : List ℕ) (r : ParamValue) (v : Value) → read_param_value n r ≡ Some v → is_parameter_value (parameter_words n) (parameter_type n) v ≡ true
unfolding read_param_value pick
value_read n r v h = go (not r.quoted and is_quoted_parameter n) h
  where
    go : (b : Bool) → pick b None (read_word (parameter_words n) (parameter_type n) r.chars) ≡ Some v → is_parameter_value (parameter_words n) (parameter_type n) v ≡ true
    go true k = none-some k
    go false k = word_accepted (parameter_words n) (parameter_type n) r.chars v k

-- as many values as there are
single_amount : {A : Type 0} (l : Bool) (rs : List A) → is_empty rs ≡ false → (l or is_single rs) ≡ true → is_amount l rs ≡ true
single_amount l [] x a = absurd (false≢true (sym x))
single_amount l (r ∷ rs) x a = a

-- of a parameter with at least one value, as every parameter of a content line is
pub parameter_accepted : (r : RawParameter) (p : Parameter) → is_value_parameter r ≡ false → is_empty r.values ≡ false → read_parameter r ≡ Some p → is_parameter p ≡ true
unfolding is_parameter read_parameter pick
parameter_accepted r p x y h = go (is_listed_parameter n or is_single r.values) refl (read_each (read_param_value n) r.values) refl h
  where
    n : List ℕ
    n = upper r.name

    go : (b : Bool) → (is_listed_parameter n or is_single r.values) ≡ b → (o : Option (List Value)) → read_each (read_param_value n) r.values ≡ o →
        pick b (option_map (parameter_of n) o) None ≡ Some p → is_parameter p ≡ true
    go false a o e k = none-some k
    go true a None e k = none-some k
    go true a (Some vs) e k =
        let q : parameter_of n vs ≡ p = cc in
        rw (← q)
        (and_yes _ _ (rw (upper_twice r.name) (same_self n))
        (and_yes _ _ (rw x)
        (and_yes _ _ (each_amount (read_param_value n) (is_listed_parameter n) r.values vs e ∙ single_amount (is_listed_parameter n) r.values y a)
        (each_accepted (read_param_value n) _ (value_read n) r.values vs e))))

-- ---- the parameters of a property

-- no parameter is named VALUE, and each is named in capitals
pub parameter_name : (p : Parameter) → is_parameter p ≡ true → upper p.name ≡ p.name
unfolding is_parameter
parameter_name p h = same_true (upper p.name) p.name (and_both _ _ h).0

pub parameter_own : (p : Parameter) → is_parameter p ≡ true → is_value_parameter (raw_of p) ≡ false
unfolding is_parameter
parameter_own p h = rw (parameter_name p h) (not-true _ (and_both _ _ (and_both _ _ h).1).0)

pub own_written : (ps : List Parameter) → every is_parameter ps ≡ true → own_parameters (map raw_of ps) ≡ map raw_of ps
unfolding own_parameters pick
own_written [] h = refl
own_written (p ∷ ps) h = let e = every_both is_parameter p ps h in rw (parameter_own p e.0) (ap (λ (l : List RawParameter). raw_of p ∷ l) (own_written ps e.1))

pub parameters_read_back : (ps : List Parameter) → every is_parameter ps ≡ true → read_parameters (map raw_of ps) ≡ Some ps
parameters_read_back ps h = rw (own_written ps h) (each_read_back read_parameter is_parameter raw_of parameter_read_back ps h)

-- every parameter of a content line has a value
abbrev pub has_value : RawParameter → Bool
has_value r = not (is_empty r.values)

abbrev is_own : RawParameter → Bool
is_own r = not (is_value_parameter r) and has_value r

own_have : (rs : List RawParameter) → every has_value rs ≡ true → every is_own (own_parameters rs) ≡ true
unfolding own_parameters every pick
own_have [] h = refl
own_have (r ∷ rs) h = let e = every_both has_value r rs h in go (is_value_parameter r) refl e.0 (own_have rs e.1)
  where
    go : (b : Bool) → is_value_parameter r ≡ b → has_value r ≡ true → every is_own (own_parameters rs) ≡ true →
        every is_own (pick b (own_parameters rs) (r ∷ own_parameters rs)) ≡ true
    go true e k ih = ih
    go false e k ih = and_yes _ _ (and_yes _ _ (rw e) k) ih

pub parameters_accepted : (rs : List RawParameter) (ps : List Parameter) → every has_value rs ≡ true → read_parameters rs ≡ Some ps → every is_parameter ps ≡ true
parameters_accepted rs ps a h =
    each_accepted_of read_parameter is_parameter is_own
    (λ r p t e. let d = and_both (not (is_value_parameter r)) (has_value r) t in parameter_accepted r p (not-true _ d.0) (not-true _ d.1) e)
    (own_parameters rs) ps (own_have rs a) h

-- ---- VALUE

-- VALUE that is written is none of the parameters
pub own_with_value : (n : List ℕ) (t : ValueType) (rs : List RawParameter) → own_parameters (with_value n t rs) ≡ own_parameters rs
unfolding with_value own_parameters octets_compute
own_with_value n t rs = go (same_type t (default_type n))
  where
    go : (b : Bool) → own_parameters (pick b rs (value_parameter t ∷ rs)) ≡ own_parameters rs
    go true = refl
    go false = refl

-- where VALUE is not given, the type is the default
stated_default : (n : List ℕ) (ps : List Parameter) → every is_parameter ps ≡ true → stated_type n (map raw_of ps) ≡ Some (default_type n)
unfolding stated_type pick
stated_default n [] h = refl
stated_default n (p ∷ ps) h = let e = every_both is_parameter p ps h in rw (parameter_own p e.0) (stated_default n ps e.1)

-- a type that a property permits and that is not its default is one of the fourteen
other_named : (n : List ℕ) (t : ValueType) → is_type_of t (permitted_types n) ≡ true → same_type t (default_type n) ≡ false → is_type_of t value_types ≡ true
unfolding is_type_of ◌or◌
other_named n t h d = go (same_type t UNKNOWN) refl (type_any t)
  where
    known : (b : Bool) → is_known_property n ≡ b → t ≡ UNKNOWN → is_type_of t value_types ≡ true
    known true k e = absurd (false≢true (sym (known_types n k) ∙ subst (λ (x : ValueType). is_type_of x (permitted_types n) ≡ true) e h))
    known false k e =
        let u : default_type n ≡ UNKNOWN = ap (λ (r : PropertyRow). r.default) (unrecognised_property_lem n k) in
        absurd (false≢true (sym d ∙ rw (u, e) (same_type_self UNKNOWN)))

    go : (b : Bool) → same_type t UNKNOWN ≡ b → (b or is_type_of t value_types) ≡ true → is_type_of t value_types ≡ true
    go true e k = known (is_known_property n) refl (same_type_true t UNKNOWN e)
    go false e k = k

name_capitals : (t : ValueType) → upper (type_name t) ≡ type_name t
unfolding octets_compute schema_compute
name_capitals t = same_true _ _ (type_passes (λ u. same (upper (type_name u)) (type_name u)) refl t)

stated_named : (n : List ℕ) (t : ValueType) (rs : List RawParameter) → stated_type n (value_parameter t ∷ rs) ≡ type_named (upper (type_name t))
unfolding stated_type octets_compute
stated_named n t rs = refl

pub type_read_back : (n : List ℕ) (t : ValueType) (ps : List Parameter) → is_type_of t (permitted_types n) ≡ true → every is_parameter ps ≡ true →
    stated_type n (with_value n t (map raw_of ps)) ≡ Some t
unfolding with_value pick
type_read_back n t ps a h = go (same_type t (default_type n)) refl
  where
    go : (b : Bool) → same_type t (default_type n) ≡ b → stated_type n (pick b (map raw_of ps) (value_parameter t ∷ map raw_of ps)) ≡ Some t
    go true e = stated_default n ps h ∙ rw (← (same_type_true t (default_type n) e))
    go false e = stated_named n t (map raw_of ps) ∙ rw (name_capitals t) (type_name_read_back t (other_named n t a e))
