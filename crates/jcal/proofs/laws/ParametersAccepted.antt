-- Parameters read from members whose strings are text, and that have no fault, are valid (RFC 7265, section 3.5).
--     good_kept              a name that is not bad, in capitals
--     parameters_accepted    the parameters of a property
use Rattle.std.specs.Prelude.{◌≡◌, Bool, false, ℕ, Option, None, Some}
use Rattle.std.proofs.Math.Path.{refl, ap}
use Rattle.std.proofs.Common.{sym, ◌∙◌}
use Rattle.std.proofs.Math.Bool.{true, not}
use Rattle.std.proofs.lemmas.Bool.{false≢true, not-true, not-false}
use mathlib.Core.List.{List, [], ◌∷◌, map}
use Rattle.octets.specs.Ascii.{ascii}
use Rattle.octets.specs.Pick.{pick, ◌and◌}
use Rattle.octets.specs.laws.Pick.{pick_no, and_both, and_yes, or_left, or_right, or_no, or_neither, pick_second}
use Rattle.octets.specs.Class.{upper, lower}
use Rattle.octets.specs.laws.Letters.{upper_twice, lower_any_case}
use Rattle.octets.specs.Words.{same, is_one_of, holds, none_holds}
use Rattle.octets.specs.laws.Words.{same_self, same_true}
use Rattle.octets.specs.Lists.{every, any_one, distinct}
use Rattle.octets.specs.laws.Lists.{every_both, every_always, every_weaker, every-and, every_map}
use Rattle.octets.specs.Reading.{provided, and_then, cons_read, is_read, read_or, read_each}
use Rattle.octets.specs.laws.Reading.{none-some, read_some, provided-some, and_then-some, cons_read-some, each_accepted_of}
use Rattle.octets.specs.Computing.{octets_compute}
use Rattle.calendar.specs.Calendar.{xcal, ValueType, BINARY, BOOLEAN, CAL-ADDRESS, DATE, DATE-TIME, DURATION, FLOAT, INTEGER, PERIOD, RECUR, TEXT, TIME, URI, UTC-OFFSET, UNKNOWN, Value, boolean, cal_address, text, uri, unknown, type_of, Parameter}
use Rattle.utf8.specs.Utf8.{well_formed}
use Rattle.schema.specs.Types.{same_type, is_type_of}
use Rattle.schema.specs.laws.Types.{same_type_self, same_type_true}
use Rattle.schema.specs.Properties.{permits_parameter}
use Rattle.schema.specs.Parameters.{parameter_type, is_listed_parameter, parameter_words}
use Rattle.schema.specs.Computing.{schema_compute}
use Rattle.schema.specs.laws.Rows.{parameter_types, parameter_type_lem}
use Rattle.edition.specs.declared.Edition.{Edition}
use Rattle.edition.specs.declared.Edition.TheVariants.{Rfc5545, Rfc6868}
use Rattle.texts.specs.Uri.{read_uri}
use Rattle.read_text_line.specs.ContentLine.{is_name}
use Rattle.read_text_line.specs.laws.Names.{name_upper, carried_name_upper}
use Rattle.values.specs.ReadValue.{read_value}
use Rattle.values.specs.ReadBack.{is_value, is_typed}
use Rattle.values.specs.laws.ReadBack.{made}
use Rattle.values.specs.Valid.{is_amount, is_of_parameter, is_parameter_value, is_parameter, are_parameters}
use Rattle.values.specs.Characters.{free_in}
use Rattle.validity.specs.ValidCalendar.{is_kept_name, is_permitted, is_parameter_text, is_valid_parameter}
use Rattle.validity.proofs.laws.ValidCalendar.{valid_parameter, nothing_free}
use Rattle.xcal.proofs.laws.SoundContent.{is_clean}
use Rattle.xcal.proofs.laws.ValuesAccepted.{read_typed}
use Rattle.json_text.specs.Tree.{Json, string, number, literal, array, object, Members, no_members, member, Member, member_list}
use Rattle.json_text.specs.Kinds.{as_string, as_array, as_object, or_alone}
use Rattle.json_text.specs.Written.{is_text}
use Rattle.jcal.specs.Parameters.{read_truth, read_word_in, read_characters, read_parameter, read_parameters, is_plain, are_spelled, parameters_good}
use Rattle.jcal.specs.Property.{is_bad_name, is_bad_parameter}
use Rattle.jcal.proofs.laws.Textual.{is_textual, members_textual}
use Rattle.jcal.proofs.laws.ValuesAccepted.{string_clean, array_textual}

-- ---- names

-- a name that is not bad has no capital
good_small : (m : List ℕ) → is_bad_name m ≡ false → lower m ≡ m
good_small m h =
    let a = or_neither (not (is_name m)) _ h in
    let b = or_neither (not (same m (lower m))) _ a.1 in
    sym (same_true m (lower m) (not-false _ b.0))

pub good_kept : (m : List ℕ) → is_bad_name m ≡ false → is_kept_name (upper m) ≡ true
good_kept m h =
    let a = or_neither (not (is_name m)) _ h in
    let b = or_neither (not (same m (lower m))) _ a.1 in
    and_yes _ _ (rw (upper_twice m) (same_self (upper m))) (and_yes _ _ (name_upper m (not-false _ a.0)) (carried_name_upper m ∙ not-false _ b.1))

-- names without capitals are apart in capitals too
pub small_apart : (m w : List ℕ) → is_bad_name m ≡ false → same m (lower w) ≡ false → same (upper m) w ≡ false
small_apart m w h k = go (same (upper m) w) refl
  where
    go : (t : Bool) → same (upper m) w ≡ t → t ≡ false
    go true e =
        let z : m ≡ lower w = sym (good_small m h) ∙ sym (lower_any_case m) ∙ ap lower (same_true (upper m) w e) in
        absurd (false≢true (sym k ∙ ap (λ (x : List ℕ). same x (lower w)) z ∙ same_self (lower w)))
    go false e = refl

-- ---- one value

-- what an edition can spell
abbrev are_chars : Edition → List ℕ → Bool
are_chars Rfc5545 s = is_plain s
are_chars Rfc6868 s = true

-- both formats can have its characters
abbrev is_carried : Edition → Value → Bool
is_carried ed v = is_parameter_text ed v and is_permitted v

free_carried : (ed : Edition) (v : Value) (s : List ℕ) → free_in v ≡ s ∷ [] → is_clean s ≡ true → are_chars ed s ≡ true → is_carried ed v ≡ true
unfolding is_clean none_holds every
free_carried Rfc5545 v s f c a =
    let d = and_both (not (holds 13 s)) (well_formed s) c in
    let b = or_neither (holds 34 s) (holds 10 s) (not-true _ a) in
    rw f (and_yes _ _ (and_yes _ _ (pick_no _ false true (not-true _ d.0)) (and_yes _ _ (pick_no _ false true b.1) (pick_no _ false true b.0))) (and_yes _ _ d.1 refl))
free_carried Rfc6868 v s f c a =
    let d = and_both (not (holds 13 s)) (well_formed s) c in
    rw f (and_yes _ _ (pick_no _ false true (not-true _ d.0)) (and_yes _ _ d.1 refl))

none_carried : (ed : Edition) (v : Value) → free_in v ≡ [] → is_carried ed v ≡ true
unfolding every
none_carried ed v f = and_yes _ _ (nothing_free ed v f) (rw f)

truth_is : (P : Value → Type 0) (s : List ℕ) (v : Value) → read_truth s ≡ Some v → ((b : Bool) → P (boolean b)) → P v
unfolding pick
truth_is P s v h f = go (same s (ascii "TRUE")) (same s (ascii "FALSE")) h
  where
    go : (a b : Bool) → pick a (Some (boolean true)) (pick b (Some (boolean false)) None) ≡ Some v → P v
    go true b k = let z : boolean true ≡ v = cc in rw (← z) (f true)
    go false true k = let z : boolean false ≡ v = cc in rw (← z) (f false)
    go false false k = none-some k

-- what is read has the type asked for
of_parameter : (t : ValueType) (s : List ℕ) (v : Value) → read_word_in None t s ≡ Some v → is_of_parameter t v ≡ true
unfolding pick
of_parameter t s v h = go (same_type t UNKNOWN) refl (same_type t BOOLEAN) refl h
  where
    go : (b : Bool) → same_type t UNKNOWN ≡ b → (c : Bool) → same_type t BOOLEAN ≡ c → pick b (Some (unknown s)) (pick c (read_truth s) (read_value xcal t s)) ≡ Some v → is_of_parameter t v ≡ true
    go true e c f k =
        let z : unknown s ≡ v = cc in
        rw (← z) (and_yes _ _ (rw (same_type_true t UNKNOWN e) (same_type_self UNKNOWN)) (and_yes _ _ refl (or_left _ _ (same_type_self UNKNOWN))))
    go false e true f k = truth_is (λ v. is_of_parameter t v ≡ true) s v k (λ b. and_yes _ _ (rw (same_type_true t BOOLEAN f) (same_type_self BOOLEAN)) (and_yes _ _ refl (or_right _ _ refl)))
    go false e false f k =
        let a = and_both (same_type (type_of v) t) _ (read_typed t s v k) in
        let b = and_both (is_typed v) (is_value v) a.1 in
        and_yes _ _ a.0 (and_yes _ _ b.0 (or_right _ _ b.1))

-- and, from clean characters that the edition can spell, both formats can have it
kept_carried : (ed : Edition) (t : ValueType) (s : List ℕ) (v : Value) → is_type_of t parameter_types ≡ true → is_clean s ≡ true → are_chars ed s ≡ true → read_word_in None t s ≡ Some v → is_carried ed v ≡ true
unfolding schema_compute read_value pick
kept_carried ed TEXT s v p c a h = made (λ v. is_carried ed v ≡ true) text (Some s) v h (λ x e. let z : s ≡ x = cc in rw (← z) (free_carried ed (text s) s refl c a))
kept_carried ed URI s v p c a h = made (λ v. is_carried ed v ≡ true) uri (read_uri s) v h (λ x e. none_carried ed (uri x) refl)
kept_carried ed CAL-ADDRESS s v p c a h = made (λ v. is_carried ed v ≡ true) cal_address (read_uri s) v h (λ x e. none_carried ed (cal_address x) refl)
kept_carried ed BOOLEAN s v p c a h = truth_is (λ v. is_carried ed v ≡ true) s v h (λ b. none_carried ed (boolean b) refl)
kept_carried ed UNKNOWN s v p c a h = let z : unknown s ≡ v = cc in rw (← z) (free_carried ed (unknown s) s refl c a)
kept_carried ed BINARY s v p c a h = absurd (false≢true p)
kept_carried ed DATE s v p c a h = absurd (false≢true p)
kept_carried ed DATE-TIME s v p c a h = absurd (false≢true p)
kept_carried ed DURATION s v p c a h = absurd (false≢true p)
kept_carried ed FLOAT s v p c a h = absurd (false≢true p)
kept_carried ed INTEGER s v p c a h = absurd (false≢true p)
kept_carried ed PERIOD s v p c a h = absurd (false≢true p)
kept_carried ed RECUR s v p c a h = absurd (false≢true p)
kept_carried ed TIME s v p c a h = absurd (false≢true p)
kept_carried ed UTC-OFFSET s v p c a h = absurd (false≢true p)

-- ---- textual members

abbrev pub member_textual : Member → Bool
member_textual m = is_text m.name and is_textual m.value

members_textual_lem : (ms : Members) → members_textual ms ≡ true → every member_textual (member_list ms) ≡ true
unfolding members_textual member_list every
members_textual_lem no_members h = refl
members_textual_lem (member n v ms) h =
    let a = and_both (is_text n) _ h in
    let b = and_both (is_textual v) _ a.1 in
    and_yes _ _ (and_yes _ _ a.0 b.0) (members_textual_lem ms b.1)

pub object_textual : (v : Json) (ms : List Member) → is_textual v ≡ true → as_object v ≡ Some ms → every member_textual ms ≡ true
unfolding is_textual
object_textual (string p x) ms h e = none-some e
object_textual (number p x) ms h e = none-some e
object_textual (literal p x) ms h e = none-some e
object_textual (array p q xs) ms h e = none-some e
object_textual (object p q xs) ms h e = let z : member_list xs ≡ ms = cc in rw (← z) (members_textual_lem xs h)

alone_textual : (v : Json) → is_textual v ≡ true → every is_textual (or_alone v) ≡ true
unfolding read_or every
alone_textual v h = go (as_array v) refl
  where
    go : (o : Option (List Json)) → as_array v ≡ o → every is_textual (read_or (v ∷ []) o) ≡ true
    go None e = and_yes _ _ h refl
    go (Some vs) e = array_textual v vs h e

module _ (ed : Edition) where
  -- ---- one parameter

  abbrev is_spelled : Json → Bool
  is_spelled v = are_chars ed (read_or [] (as_string v))

  word_good : (n : List ℕ) (o : Option (List (List ℕ))) (s : List ℕ) (v : Value) → are_chars ed s ≡ true → is_clean s ≡ true → read_word_in o (parameter_type n) s ≡ Some v →
      (is_parameter_value o (parameter_type n) v and is_carried ed v) ≡ true
  word_good n None s v a c h = and_yes _ _ (of_parameter (parameter_type n) s v h) (kept_carried ed (parameter_type n) s v (parameter_type_lem n) c a h)
  word_good n (Some words) s v a c h =
      let p = provided-some (is_one_of s words) (text s) v h in
      rw (← p.1) (and_yes _ _ p.0 (free_carried ed (text s) s refl c a))

  value_good : (n : List ℕ) (j : Json) (v : Value) → (is_textual j and is_spelled j) ≡ true → and_then (as_string j) (read_characters n) ≡ Some v → (is_parameter_value (parameter_words n) (parameter_type n) v and is_carried ed v) ≡ true
  unfolding read_or
  value_good n j v t h =
      let a = and_both (is_textual j) _ t in
      let e = and_then-some (as_string j) (read_characters n) v h in
      word_good n (parameter_words n) e.0 v (rw e.1 at a.1) (string_clean j e.0 a.0 e.1) e.2

  -- what is known of the parameter that a member states
  record Reads (m : Member) (p : Parameter) : Type 0 where
    named : p.name ≡ upper m.name
    valid : is_valid_parameter ed p ≡ true

  small_value : lower (ascii "VALUE") ≡ ascii "value"
  unfolding octets_compute
  small_value = refl

  parameter_reads : (m : Member) (p : Parameter) → is_bad_parameter m ≡ false → is_textual m.value ≡ true → every is_spelled (or_alone m.value) ≡ true → read_parameter m ≡ Some p → Reads m p
  unfolding read_parameter is_valid_parameter is_parameter
  parameter_reads m p b t s h =
      let n = upper m.name in
      let a = and_then-some (read_each (λ v. and_then (as_string v) (read_characters n)) (or_alone m.value)) (λ vs. provided (is_amount (is_listed_parameter n) vs) (record { name = n; values = vs })) p h in
      let vs = a.0 in
      let d = provided-some (is_amount (is_listed_parameter n) vs) (record { name = n; values = vs }) p a.2 in
      let w = or_neither (is_bad_name m.name) (same m.name (ascii "value")) b in
      let q = good_kept m.name w.0 in
      let g =
      each_accepted_of (λ v. and_then (as_string v) (read_characters n)) (λ v. is_parameter_value (parameter_words n) (parameter_type n) v and is_carried ed v) (λ v. is_textual v and is_spelled v) (value_good n)
      (or_alone m.value) vs (every-and is_textual is_spelled (or_alone m.value) (alone_textual m.value t) s) a.1 in
      rw (← d.1) (record {
        named = refl;
        valid =
            and_yes _ _ q
            (and_yes _ _ (and_yes _ _ (and_both _ _ q).0 (and_yes _ _ (rw (small_apart m.name (ascii "VALUE") w.0 (rw small_value w.1))) (and_yes _ _ d.0 (every_weaker _ _ (λ v e. (and_both _ _ e).0) vs g))))
            (and_yes _ _ (every_weaker _ (is_parameter_text ed) (λ v e. (and_both _ (is_permitted v) (and_both _ _ e).1).0) vs g) (every_weaker _ is_permitted (λ v e. (and_both (is_parameter_text ed v) _ (and_both _ _ e).1).1) vs g)));
      })

  -- ---- all parameters

  spelled_each : (ms : List Member) → are_spelled ed ms ≡ true → every (λ (m : Member). every is_spelled (or_alone m.value)) ms ≡ true
  unfolding are_spelled
  spelled_each ms h = by ed h
    where
      by : (x : Edition) → are_spelled x ms ≡ true → every (λ (m : Member). every (λ v. are_chars x (read_or [] (as_string v))) (or_alone m.value)) ms ≡ true
      by Rfc5545 h = h
      by Rfc6868 h = every_always _ (λ m. every_always _ (λ v. refl) (or_alone m.value)) ms

  all_good : (ms : List Member) → any_one is_bad_parameter ms ≡ false → every (λ m. not (is_bad_parameter m)) ms ≡ true
  unfolding any_one every
  all_good [] h = refl
  all_good (m ∷ ms) h = let a = or_neither (is_bad_parameter m) _ h in and_yes _ _ (rw a.0) (all_good ms a.1)

  -- a member with no fault of its own
  abbrev is_good : Member → Bool
  is_good m = not (is_bad_parameter m) and member_textual m and every is_spelled (or_alone m.value)

  good_reads : (m : Member) (p : Parameter) → is_good m ≡ true → read_parameter m ≡ Some p → Reads m p
  good_reads m p g h =
      let a = and_both (not (is_bad_parameter m)) _ g in
      let b = and_both (member_textual m) _ a.1 in
      parameter_reads m p (not-true _ a.0) (and_both (is_text m.name) _ b.0).1 b.1 h

  valid_each : (ms : List Member) (ps : List Parameter) → every is_good ms ≡ true → read_each read_parameter ms ≡ Some ps → every (is_valid_parameter ed) ps ≡ true
  valid_each ms ps g h = each_accepted_of read_parameter (is_valid_parameter ed) is_good (λ m p i e. (good_reads m p i e).valid) ms ps g h

  abbrev name_in : Member → List ℕ
  name_in m = m.name

  names_each : (ms : List Member) (ps : List Parameter) → every is_good ms ≡ true → read_each read_parameter ms ≡ Some ps → map (λ (p : Parameter). p.name) ps ≡ map (λ (m : Member). upper m.name) ms
  unfolding read_each
  names_each [] ps g h = let z : [] ≡ ps = cc in rw (← z)
  names_each (m ∷ ms) ps g h =
      let a = every_both is_good m ms g in
      let e = and_then-some (read_parameter m) (λ p. cons_read p (read_each read_parameter ms)) ps h in
      let f = cons_read-some e.0 (read_each read_parameter ms) ps e.2 in
      rw (← f.2, (good_reads m e.0 a.0 e.1).named, names_each ms f.0 a.1 f.1)

  -- a name that has not come has not come in capitals
  none_upper : (w : List ℕ) (ms : List Member) → is_bad_name w ≡ false → every is_good ms ≡ true → is_one_of w (map name_in ms) ≡ false → is_one_of (upper w) (map (λ (m : Member). upper m.name) ms) ≡ false
  unfolding is_one_of
  none_upper w [] b g h = refl
  none_upper w (m ∷ ms) b g h =
      let a = every_both is_good m ms g in
      let c = or_neither (same w m.name) _ h in
      let d = or_neither (is_bad_name m.name) _ (not-true _ (and_both (not (is_bad_parameter m)) _ a.0).0) in
      or_no _ _ (small_apart w (upper m.name) b (rw (lower_any_case m.name, good_small m.name d.0) c.0)) (none_upper w ms b a.1 c.1)

  once : (ms : List Member) → every is_good ms ≡ true → distinct (map name_in ms) ≡ true → distinct (map (λ (m : Member). upper m.name) ms) ≡ true
  unfolding distinct pick
  once [] g h = refl
  once (m ∷ ms) g h =
      let a = every_both is_good m ms g in
      let c = pick_second (is_one_of m.name (map name_in ms)) (distinct (map name_in ms)) h in
      let d = or_neither (is_bad_name m.name) _ (not-true _ (and_both (not (is_bad_parameter m)) _ a.0).0) in
      rw (none_upper m.name ms d.0 a.1 c.0) (once ms a.1 c.1)

  pub record Said (n : List ℕ) (t : ValueType) (ps : List Parameter) : Type 0 where
    pub valid : every (is_valid_parameter ed) ps ≡ true
    pub agree : are_parameters n t ps ≡ true

  pub parameters_accepted : (n : List ℕ) (t : ValueType) (ms : List Member) → every member_textual ms ≡ true → any_one is_bad_parameter ms ≡ false → parameters_good ed n t ms ≡ true → Said n t (read_or [] (read_parameters ms))
  unfolding parameters_good are_parameters read_or
  parameters_accepted n t ms c b h =
      let a1 = and_both (distinct (map name_in ms)) _ h in
      let a2 = and_both (is_read (read_parameters ms)) _ a1.1 in
      let a3 = and_both (every (λ (m : Member). permits_parameter n t (upper m.name)) ms) _ a2.1 in
      let a4 = and_both (are_spelled ed ms) _ a3.1 in
      let r = read_some (read_parameters ms) a2.0 in
      let g = every-and (λ m. not (is_bad_parameter m)) _ ms (all_good ms b) (every-and member_textual _ ms c (spelled_each ms a4.0)) in
      let v = valid_each ms r.0 g r.1 in
      let z = names_each ms r.0 g r.1 in
      rw r.1 (record {
        valid = v;
        agree =
            and_yes _ _ (every_weaker (is_valid_parameter ed) is_parameter (λ p h. (valid_parameter ed p h).typed) r.0 v)
            (and_yes _ _ (rw z (once ms g a1.0))
            (and_yes _ _ (sym (every_map (permits_parameter n t) (λ (p : Parameter). p.name) r.0) ∙ ap (every (permits_parameter n t)) z ∙ every_map (permits_parameter n t) (λ (m : Member). upper m.name) ms ∙ a3.0)
            (rw r.1 at a4.1)));
      })
