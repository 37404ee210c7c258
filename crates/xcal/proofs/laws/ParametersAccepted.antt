-- Parameters read from elements that are not refused are valid (RFC 6321, section 3.5).
--     Said          what is known of the parameters that elements state
--     parameters_accepted
use Rattle.std.specs.Prelude.{◌≡◌, Bool, ℕ, eqb, Option, None, Some}
use Rattle.std.proofs.Math.Path.{refl}
use Rattle.std.proofs.Common.{sym, ap, ◌∙◌}
use Rattle.std.proofs.Math.Bool.{true, false, not}
use Rattle.std.proofs.lemmas.Bool.{false≢true}
use mathlib.Core.List.{List, [], ◌∷◌, map}
use borrow.Author.Tests.{not-true, not-false}
use Rattle.octets.specs.Ascii.{ascii}
use Rattle.octets.specs.Pick.{pick, ◌and◌, ◌or◌}
use Rattle.octets.specs.laws.Pick.{pick_no, and_both, and_yes, or_no, or_neither, or_left, or_right}
use Rattle.octets.specs.Class.{is_space, upper, lower}
use Rattle.octets.specs.Words.{same, is_one_of, holds, none_holds, is_empty}
use Rattle.octets.specs.laws.Words.{same_self, same_true}
use Rattle.octets.specs.Lists.{every, distinct}
use Rattle.octets.specs.laws.Lists.{every_weaker}
use Rattle.octets.specs.Reading.{cons_read, read_or}
use Rattle.octets.specs.laws.Reading.{none-some, provided-some, and_then-some, cons_read-some}
use Rattle.octets.specs.Computing.{octets_compute}
use Rattle.calendar.specs.Calendar.{xcal, ValueType, BINARY, BOOLEAN, CAL-ADDRESS, DATE, DATE-TIME, DURATION, FLOAT, INTEGER, PERIOD, RECUR, TEXT, TIME, URI, UTC-OFFSET, UNKNOWN}
use Rattle.calendar.specs.Calendar.{Value, boolean, cal_address, text, uri, unknown, type_of, Parameter}
use Rattle.calendar.specs.Refusal.{NAME, FRAME, PARAMETER, fine}
use Rattle.calendar.specs.laws.Refusal.{refused_not}
use Rattle.schema.specs.Types.{type_name, same_type, is_type_of}
use Rattle.schema.specs.laws.Types.{same_type_self, same_type_true}
use Rattle.schema.specs.Parameters.{parameter_type, is_listed_parameter, parameter_words}
use Rattle.schema.specs.Properties.{permits_parameter}
use Rattle.schema.specs.Computing.{schema_compute}
use Rattle.schema.specs.laws.Rows.{parameter_types, parameter_type_lem}
use Rattle.utf8.specs.Utf8.{well_formed}
use Rattle.read_text_line.specs.Names.{is_carried_name}
use Rattle.numbers.specs.Boolean.{read_boolean}
use Rattle.texts.specs.Uri.{read_uri}
use Rattle.values.specs.ReadValue.{read_value}
use Rattle.values.specs.ReadBack.{is_value, is_typed}
use Rattle.values.specs.Valid.{is_amount, is_of_parameter, is_parameter_value, is_parameter}
use Rattle.values.specs.Characters.{free_in}
use Rattle.values.specs.laws.ReadBack.{made}
use Rattle.edition.specs.declared.Edition.{Edition}
use Rattle.edition.specs.declared.Edition.TheVariants.{Rfc5545, Rfc6868}
use Rattle.validity.specs.ValidCalendar.{is_kept_name, is_permitted, is_parameter_text, is_valid_parameter}
use Rattle.validity.proofs.laws.ValidCalendar.{nothing_free}
use Rattle.xml.specs.Reads.{is_name}
use Rattle.xml.specs.Nodes.{Nodes, no_nodes, element, literal, referred, characters_of, has_element}
use Rattle.xcal.specs.Layout.{has_capital}
use Rattle.xcal.proofs.laws.ElementNames.{kept_name, upper_apart, lower-upper}
use Rattle.xcal.specs.ParameterNodes.{read_word_in, read_param_node, read_param_nodes, values_good, are_plain, are_spelled, encodes, bad_name, parameter_verdict, parameters_verdict, read_parameter_nodes}
use Rattle.xcal.proofs.laws.ParametersFine.{name_in, is_encoded}
use Rattle.xcal.proofs.laws.SoundContent.{is_clean}
use Rattle.xcal.proofs.laws.Accepted.{both_fine, test_fine, past_fine}
use Rattle.xcal.proofs.laws.ValuesAccepted.{is_clean_content, read_typed, clean_leaf}
use Rattle.xcal.proofs.laws.GoodNodes.{is_good}

-- ---- one value

-- what an edition can spell
abbrev are_chars : Edition → List ℕ → Bool
are_chars Rfc5545 s = not (holds 34 s or holds 10 s)
are_chars Rfc6868 s = true

-- a choice that was read
chosen_first : {A : Type 0} (t : Bool) (o : Option A) (a : A) → pick t o None ≡ Some a → o ≡ Some a
unfolding pick
chosen_first true o a h = h
chosen_first false o a h = none-some h

-- ---- one parameter

good_amount : (l : Bool) (vs : List Value) → values_good l (Some vs) ≡ true → is_empty vs ≡ false → is_amount l vs ≡ true
good_amount l [] h e = absurd (false≢true (sym e))
good_amount l (v ∷ vs) h e = h

read_good : (l : Bool) (o : Option (List Value)) → values_good l o ≡ true → o ≡ Some (read_or [] o)
unfolding read_or
read_good l None h = absurd (false≢true h)
read_good l (Some vs) h = refl

small_value : lower (ascii "VALUE") ≡ ascii "value"
unfolding octets_compute
small_value = refl

-- a name that has come is another than one that has not
apart_in : (w m : List ℕ) (seen : List (List ℕ)) → is_one_of w seen ≡ true → is_one_of m seen ≡ false → same w m ≡ false
apart_in w m seen o f = go (same w m) refl
  where
    go : (t : Bool) → same w m ≡ t → t ≡ false
    go true e = absurd (false≢true (sym f ∙ ap (λ (x : List ℕ). is_one_of x seen) (sym (same_true w m e)) ∙ o))
    go false e = refl

spelled_literal : (ed : Edition) (p b : ℕ) (more : Nodes) → are_spelled ed (literal p b more) ≡ true → are_spelled ed more ≡ true
unfolding are_spelled are_plain
spelled_literal Rfc5545 p b more h = h
spelled_literal Rfc6868 p b more h = refl

spelled_element : (ed : Edition) (p : ℕ) (m : List ℕ) (x : ℕ) (kids more : Nodes) → are_spelled ed (element p m x kids more) ≡ true → (are_chars ed (characters_of kids) ≡ true) × (are_spelled ed more ≡ true)
unfolding are_spelled are_plain
spelled_element Rfc5545 p m x kids more h = and_both _ _ h
spelled_element Rfc6868 p m x kids more h = (refl, refl)

-- both formats can have its characters
abbrev is_plain : Edition → Value → Bool
is_plain ed v = is_parameter_text ed v and is_permitted v

free_plain : (ed : Edition) (v : Value) (s : List ℕ) → free_in v ≡ s ∷ [] → is_clean s ≡ true → are_chars ed s ≡ true → is_plain ed v ≡ true
unfolding is_clean none_holds every
free_plain Rfc5545 v s f c a =
    let d = and_both (not (holds 13 s)) (well_formed s) c in
    let b = or_neither (holds 34 s) (holds 10 s) (not-true _ a) in
    rw f (and_yes _ _ (and_yes _ _ (pick_no _ false true (not-true _ d.0)) (and_yes _ _ (pick_no _ false true b.1) (pick_no _ false true b.0))) (and_yes _ _ d.1 refl))
free_plain Rfc6868 v s f c a =
    let d = and_both (not (holds 13 s)) (well_formed s) c in
    rw f (and_yes _ _ (pick_no _ false true (not-true _ d.0)) (and_yes _ _ d.1 refl))

none_plain : (ed : Edition) (v : Value) → free_in v ≡ [] → is_plain ed v ≡ true
unfolding every
none_plain ed v f = and_yes _ _ (nothing_free ed v f) (rw f)

-- what is read has the type asked for
of_parameter : (t : ValueType) (s : List ℕ) (v : Value) → read_word_in None t s ≡ Some v → is_of_parameter t v ≡ true
unfolding pick
of_parameter t s v h = go (same_type t UNKNOWN) refl h
  where
    go : (b : Bool) → same_type t UNKNOWN ≡ b → pick b (Some (unknown s)) (read_value xcal t s) ≡ Some v → is_of_parameter t v ≡ true
    go true e k =
        let z : unknown s ≡ v = cc in
        rw (← z) (and_yes _ _ (rw (same_type_true t UNKNOWN e) (same_type_self UNKNOWN)) (and_yes _ _ refl (or_left _ _ (same_type_self UNKNOWN))))
    go false e k =
        let a = and_both (same_type (type_of v) t) _ (read_typed t s v k) in
        let b = and_both (is_typed v) (is_value v) a.1 in
        and_yes _ _ a.0 (and_yes _ _ b.0 (or_right _ _ b.1))

-- and, from clean characters that the edition can spell, both formats can have it
plain_kept : (ed : Edition) (t : ValueType) (s : List ℕ) (v : Value) → is_type_of t parameter_types ≡ true → is_clean s ≡ true → are_chars ed s ≡ true → read_word_in None t s ≡ Some v → is_plain ed v ≡ true
unfolding schema_compute read_value pick
plain_kept ed TEXT s v p c a h = made (λ v. is_plain ed v ≡ true) text (Some s) v h (λ x e. let z : s ≡ x = cc in rw (← z) (free_plain ed (text s) s refl c a))
plain_kept ed URI s v p c a h = made (λ v. is_plain ed v ≡ true) uri (read_uri s) v h (λ x e. none_plain ed (uri x) refl)
plain_kept ed CAL-ADDRESS s v p c a h = made (λ v. is_plain ed v ≡ true) cal_address (read_uri s) v h (λ x e. none_plain ed (cal_address x) refl)
plain_kept ed BOOLEAN s v p c a h = made (λ v. is_plain ed v ≡ true) boolean (read_boolean xcal s) v h (λ x e. none_plain ed (boolean x) refl)
plain_kept ed UNKNOWN s v p c a h = let z : unknown s ≡ v = cc in rw (← z) (free_plain ed (unknown s) s refl c a)
plain_kept ed BINARY s v p c a h = absurd (false≢true p)
plain_kept ed DATE s v p c a h = absurd (false≢true p)
plain_kept ed DATE-TIME s v p c a h = absurd (false≢true p)
plain_kept ed DURATION s v p c a h = absurd (false≢true p)
plain_kept ed FLOAT s v p c a h = absurd (false≢true p)
plain_kept ed INTEGER s v p c a h = absurd (false≢true p)
plain_kept ed PERIOD s v p c a h = absurd (false≢true p)
plain_kept ed RECUR s v p c a h = absurd (false≢true p)
plain_kept ed TIME s v p c a h = absurd (false≢true p)
plain_kept ed UTC-OFFSET s v p c a h = absurd (false≢true p)

module _ (ed : Edition) where
  -- what is known of a value of the parameter n
  record Sound (n : List ℕ) (v : Value) : Type 0 where
    chosen : is_parameter_value (parameter_words n) (parameter_type n) v ≡ true
    plain : is_plain ed v ≡ true

  word_sound : (n : List ℕ) (o : Option (List (List ℕ))) (s : List ℕ) (v : Value) → parameter_words n ≡ o → are_chars ed s ≡ true → is_clean s ≡ true →
      read_word_in o (parameter_type n) s ≡ Some v → (is_parameter_value o (parameter_type n) v ≡ true) × (is_plain ed v ≡ true)
  word_sound n None s v z a c h = (of_parameter (parameter_type n) s v h, plain_kept ed (parameter_type n) s v (parameter_type_lem n) c a h)
  word_sound n (Some words) s v z a c h =
      let p = provided-some (is_one_of s words) (text s) v h in
      rw (← p.1) (p.0, free_plain ed (text s) s refl c a)

  value_sound : (n : List ℕ) (kids : Nodes) (v : Value) → are_chars ed (characters_of kids) ≡ true → is_clean_content kids ≡ true → read_param_node n kids ≡ Some v → Sound n v
  unfolding read_param_node pick
  value_sound n kids v a c h = go (has_element kids) refl h
    where
      go : (t : Bool) → has_element kids ≡ t → pick t None (read_word_in (parameter_words n) (parameter_type n) (characters_of kids)) ≡ Some v → Sound n v
      go true e k = none-some k
      go false e k =
          let w = word_sound n (parameter_words n) (characters_of kids) v refl a (clean_leaf kids e c) k in
          record { chosen = w.0; plain = w.1 }

  -- ---- the values of a parameter

  record Sounds (n : List ℕ) (kids : Nodes) (vs : List Value) : Type 0 where
    chosen : every (is_parameter_value (parameter_words n) (parameter_type n)) vs ≡ true
    plain : every (is_plain ed) vs ≡ true
    some_value : has_element kids ≡ true → is_empty vs ≡ false

  values_sound : (n : List ℕ) (kids : Nodes) (vs : List Value) → are_spelled ed kids ≡ true → is_good kids ≡ true → read_param_nodes n kids ≡ Some vs → Sounds n kids vs
  unfolding is_good read_param_nodes has_element every
  values_sound n no_nodes vs s g h = let z : [] ≡ vs = cc in rw (← z) (record { chosen = refl; plain = refl; some_value = λ e. absurd (false≢true e) })
  values_sound n (literal p b more) vs s g h =
      let r = values_sound n more vs (spelled_literal ed p b more s) g (chosen_first (is_space b) (read_param_nodes n more) vs h) in
      record { chosen = r.chosen; plain = r.plain; some_value = r.some_value }
  values_sound n (referred p bs more) vs s g h = none-some h
  values_sound n (element p m x kids more) vs s g h =
      let y = spelled_element ed p m x kids more s in
      let a = and_both (is_name m) _ g in
      let b = and_both (is_clean_content kids) _ a.1 in
      let c = and_both (is_good kids) _ b.1 in
      let e = and_then-some (read_param_node n kids) (λ v. cons_read v (read_param_nodes n more)) vs (chosen_first (same m (lower (type_name (parameter_type n)))) _ vs h) in
      let f = cons_read-some e.0 (read_param_nodes n more) vs e.2 in
      let v = value_sound n kids e.0 y.0 b.0 e.1 in
      let r = values_sound n more f.0 y.1 c.1 f.1 in
      rw (← f.2) (record { chosen = and_yes _ _ v.chosen r.chosen; plain = and_yes _ _ v.plain r.plain; some_value = λ e. refl })

  -- what is known of the parameter that the element m with these kids states, of a property n whose values have type t
  record Says (n : List ℕ) (t : ValueType) (p : Parameter) : Type 0 where
    valid : is_valid_parameter ed p ≡ true
    permitted : permits_parameter n t p.name ≡ true
    encoded : is_encoded t p ≡ true

  parameter_says : (n : List ℕ) (t : ValueType) (seen : List (List ℕ)) (p : ℕ) (m : List ℕ) (x : ℕ) (kids : Nodes) → is_name m ≡ true → is_good kids ≡ true → parameter_verdict ed n t seen p m x kids ≡ fine →
      Says n t (record { name = upper m; values = read_or [] (read_param_nodes (upper m) kids) })
  unfolding parameter_verdict is_valid_parameter is_parameter
  parameter_says n t seen p m x kids w g h =
      let a = past_fine (bad_name m) _ NAME p h in
      let b = past_fine (eqb p x) _ FRAME p a.1 in
      let c = past_fine (is_one_of m seen or not (permits_parameter n t (upper m)) or not (values_good (is_listed_parameter (upper m)) (read_param_nodes (upper m) kids)) or not (encodes (upper m) t kids) or not (are_spelled ed kids)) _ PARAMETER p b.1 in
      let d = test_fine (has_element kids) fine FRAME x c.1 in
      let e = or_neither (is_one_of m seen) _ c.0 in
      let f = or_neither (not (permits_parameter n t (upper m))) _ e.1 in
      let i = or_neither (not (values_good (is_listed_parameter (upper m)) (read_param_nodes (upper m) kids))) _ f.1 in
      let o = or_neither (not (encodes (upper m) t kids)) _ i.1 in
      let j = or_neither (has_capital m) _ a.0 in
      let k = or_neither (not (is_carried_name m)) _ j.1 in
      let vs = read_or [] (read_param_nodes (upper m) kids) in
      let l : values_good (is_listed_parameter (upper m)) (read_param_nodes (upper m) kids) ≡ true = not-false _ i.0 in
      let z = read_good (is_listed_parameter (upper m)) (read_param_nodes (upper m) kids) l in
      let r = values_sound (upper m) kids vs (not-false _ o.1) g z in
      let q : is_kept_name (upper m) ≡ true = kept_name m w (not-false _ k.0) in
      record {
        valid =
            and_yes _ _ q
            (and_yes _ _ (and_yes _ _ (and_both _ _ q).0 (and_yes _ _ (rw (upper_apart m (ascii "VALUE") j.0 (rw small_value k.1))) (and_yes _ _ (good_amount (is_listed_parameter (upper m)) vs (rw z at l) (r.some_value d.0)) r.chosen)))
            (and_yes _ _ (every_weaker (is_plain ed) (is_parameter_text ed) (λ v e. (and_both _ _ e).0) vs r.plain) (every_weaker (is_plain ed) is_permitted (λ v e. (and_both _ _ e).1) vs r.plain)));
        permitted = not-false _ f.0;
        encoded = not-false _ o.0;
      }

  -- ---- parameters

  pub record Said (n : List ℕ) (t : ValueType) (ps : List Parameter) : Type 0 where
    pub valid : every (is_valid_parameter ed) ps ≡ true
    pub permitted : every (λ (p : Parameter). permits_parameter n t p.name) ps ≡ true
    pub encoded : every (is_encoded t) ps ≡ true
    pub once : distinct (map name_in ps) ≡ true

  small_name : (n : List ℕ) (t : ValueType) (seen : List (List ℕ)) (p : ℕ) (m : List ℕ) (x : ℕ) (kids : Nodes) → parameter_verdict ed n t seen p m x kids ≡ fine → has_capital m ≡ false
  unfolding parameter_verdict
  small_name n t seen p m x kids h = (or_neither (has_capital m) _ (past_fine (bad_name m) _ NAME p h).0).0

  -- no parameter has the name of one that has come
  unseen : (n : List ℕ) (t : ValueType) (w : List ℕ) (kids : Nodes) (seen : List (List ℕ)) → has_capital w ≡ false → is_one_of w seen ≡ true → parameters_verdict ed n t kids seen ≡ fine →
      is_one_of (upper w) (map name_in (read_parameter_nodes kids)) ≡ false
  unfolding parameters_verdict parameter_verdict read_parameter_nodes is_one_of
  unseen n t w no_nodes seen c o h = refl
  unseen n t w (literal p b more) seen c o h = unseen n t w more seen c o (test_fine (is_space b) _ FRAME p h).1
  unseen n t w (referred p bs more) seen c o h = refused_not FRAME p h
  unseen n t w (element p m x kids more) seen c o h =
      let a = both_fine (parameter_verdict ed n t seen p m x kids) _ h in
      let b = past_fine (bad_name m) _ NAME p a.0 in
      let d = past_fine (eqb p x) _ FRAME p b.1 in
      let e = past_fine (is_one_of m seen or not (permits_parameter n t (upper m)) or not (values_good (is_listed_parameter (upper m)) (read_param_nodes (upper m) kids)) or not (encodes (upper m) t kids) or not (are_spelled ed kids)) _ PARAMETER p d.1 in
      let f = or_neither (is_one_of m seen) _ e.0 in
      let j = or_neither (has_capital m) _ b.0 in
      or_no _ _ (upper_apart w (upper m) c (rw (lower-upper m j.0) (apart_in w m seen o f.0))) (unseen n t w more (m ∷ seen) c (or_right _ _ o) a.1)

  pub parameters_accepted : (n : List ℕ) (t : ValueType) (kids : Nodes) (seen : List (List ℕ)) → is_good kids ≡ true → parameters_verdict ed n t kids seen ≡ fine → Said n t (read_parameter_nodes kids)
  unfolding parameters_verdict read_parameter_nodes is_good every distinct pick is_one_of
  parameters_accepted n t no_nodes seen g h = record { valid = refl; permitted = refl; encoded = refl; once = refl }
  parameters_accepted n t (literal p b more) seen g h = parameters_accepted n t more seen g (test_fine (is_space b) _ FRAME p h).1
  parameters_accepted n t (referred p bs more) seen g h = refused_not FRAME p h
  parameters_accepted n t (element p m x kids more) seen g h =
      let a = both_fine (parameter_verdict ed n t seen p m x kids) _ h in
      let b = and_both (is_name m) _ g in
      let c = and_both (is_clean_content kids) _ b.1 in
      let d = and_both (is_good kids) _ c.1 in
      let s = parameter_says n t seen p m x kids b.0 d.0 a.0 in
      let r = parameters_accepted n t more (m ∷ seen) d.1 a.1 in
      record {
        valid = and_yes _ _ s.valid r.valid;
        permitted = and_yes _ _ s.permitted r.permitted;
        encoded = and_yes _ _ s.encoded r.encoded;
        once = rw (unseen n t m more (m ∷ seen) (small_name n t seen p m x kids a.0) (or_left _ _ (same_self m)) a.1) r.once;
      }
