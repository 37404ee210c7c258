-- Laws of what specs/Properties.antt defines.
--     standing     the rules of whether a property may stand there
--     valuing, knowing, naming, shaping, faulting     the rules of the array of a property
--     entering     the rules of an element of an array of properties
--     Listing      the invariant of the walk over them;   listing: the rules
use Prim.{tt}
use Rattle.std.specs.Prelude.{◌≡◌, refl, Bool, true, false, not, ℕ, ◌≤◌, ◌<◌, ltb, length, Option, None, Some, Result, Ok, Err}
use Rattle.std.proofs.Math.Path.{sym, ap, subst}
use Rattle.std.proofs.Common.{◌∙◌, rules, lt-ltb, le-ltb}
use mathlib.Core.List.{List, [], ◌∷◌}
use Rattle.octets.specs.Pick.{pick, ◌and◌, ◌or◌}
use Rattle.octets.specs.Append.{◌⊕◌}
use Rattle.octets.specs.laws.Append.{append_empty, append_cons, append_none, append_regroup}
use Rattle.octets.specs.Class.{upper}
use Rattle.octets.specs.Lists.{any_one}
use Rattle.octets.specs.Reading.{and_then, is_read, read_or}
use Rattle.names.specs.Table.{place_of}
use Rattle.names.specs.laws.Table.{one_of_place}
use Rattle.calendar.specs.Calendar.{Property}
use Rattle.calendar.specs.Refusal.{NAME, ◌otherwise◌}
use Rattle.schema.specs.Components.{component_names, may_stand}
use Rattle.schema.specs.Properties.{property_names, is_known_property, is_listed_property}
use Rattle.schema.specs.Numbers.{type_at}
use Rattle.schema.specs.Coded.{row_at}
use Rattle.schema.specs.Columns.{stands_at}
use Rattle.schema.specs.laws.Columns.{stand_place, row_stands, number_place, listed_place}
use Rattle.schema.specs.Property as property
use Rattle.schema.specs.declared.Action.{Action}
use Rattle.schema.specs.declared.Context.{Context}
use Rattle.schema.specs.declared.table.Row.{Row}
use Rattle.edition.specs.declared.Edition.{Edition}
use Rattle.values.specs.Valid.{is_amount}
use Rattle.json_text.specs.Tree.{Json, Member, element_list, member_list}
use Rattle.json_text.specs.Kinds.{as_string, as_array, as_object}
use Rattle.jcal.specs.Parameters.{parameters_good}
use Rattle.jcal.specs.Values.{read_values}
use Rattle.jcal.specs.Property.{name_in, parameters_in, type_of, type_in, is_bad_property, is_bad_parameter, passes, property_fault, property_of}
use Rattle.jcal.specs.Components.{properties_verdict}
use Rattle.read_json.specs.TreeAt.{elements_at, members_at, string_at}
use Rattle.read_json.specs.Heads.{value_of_head, HeadAt, NextAt}
use Rattle.read_json.specs.Kinds.{is_there, is_string, is_array, is_object}
use Rattle.read_json.specs.declared.Head.{Head}
use Rattle.tallies.specs.Counting.{Counted, CountsOn}
use Rattle.tallies.specs.declared.Kept.{Kept}
use Rattle.read_jcal.specs.Arrays.{place_in, Inside, ThreeAt, ThreeIn, name_found, object_found, type_found}
use Rattle.read_jcal.specs.laws.Arrays.{as_string_lem, no_string, as_object_lem, no_object, value_array, value_other, value_place, none_found, list_found, list_here, head_inside, next_less, three_first, three_second, three_third, three_others, three_in}
use Rattle.read_jcal.specs.Types.{TypeAt}
use Rattle.read_jcal.specs.Counting.{ActionAt}
use Rattle.read_jcal.specs.laws.Faults.{fault_by}
use Rattle.read_jcal.specs.Properties.{known_fault, shape_fault, StandsAt, Holder, ValuesAt, KnownAt, NamedAt, ShapedAt, PropertyAt, stated_in, ArrayAt, EntryAt, ListedAt}
use Rattle.read_jcal.specs.declared.Three.{Three}
use Rattle.read_jcal.specs.declared.Stated.{Stated}
use Rattle.refusals.specs.Fault.{fault_at}
use Rattle.refusals.specs.declared.Refusal as coded
use Rattle.refusals.specs.declared.Refusal.TheVariants.{Frame, Name, Parameter, Value}
use Rattle.refusals.specs.declared.Fault.{Fault}

number_of : {row : Row} (w : List ℕ) → row ≡ row_at (place_of w property_names) → row.number ≡ place_of w property_names
number_of w e = ap (λ (r : Row). r.number) e ∙ number_place w

-- ---- whether it may stand there

module _ (k : ℕ) (row : Row) where
  stands_at_lem : (c w : List ℕ) → k ≡ place_of c component_names → row ≡ row_at (place_of w property_names) →
      (not (is_known_property w) or may_stand c w) ≡ (not (ltb row.number property.KNOWN) or stands_at k row)
  unfolding is_known_property
  stands_at_lem c w a o = rw (one_of_place w property_names, stand_place c w, ← a, ← (row_stands k (place_of w property_names)), ← o, ← (number_of w o))

  pub stands_unknown : property.KNOWN ≤ row.number → StandsAt k row true
  unfolding ◌or◌
  stands_unknown h = record { is = λ c w a o. sym (stands_at_lem c w a o ∙ rw (le-ltb row.number property.KNOWN h)) }

  pub stands_known : {b : Bool} → row.number < property.KNOWN → b ≡ stands_at k row → StandsAt k row b
  unfolding ◌or◌
  stands_known h e = record { is = λ c w a o. e ∙ sym (stands_at_lem c w a o ∙ rw (lt-ltb row.number property.KNOWN h)) }

pub ruleset standing = (stands_unknown, stands_known, rules)

-- ---- its values

module _ (x : Context) (vs : List Json) {v : Bool}
    (e : (c w : List ℕ) → x.component ≡ place_of c component_names → x.row ≡ row_at (place_of w property_names) → x.value_type ≤ 14 → v ≡ is_read (read_values c w (type_at x.value_type) vs)) where
  read_is : {u : Bool} → v ≡ u → (c w : List ℕ) → Holder x c w → is_read (read_values c w (type_at x.value_type) vs) ≡ u
  read_is y c w h = sym (e c w h.component h.row h.small) ∙ y

  pub values_good : {named : Option Action} → v ≡ true → ActionAt x.row.number vs named → ValuesAt x vs (Ok (record { number = x.row.number; action = named }))
  unfolding pick
  values_good y a = record {
    is = λ ed c w h. rw (read_is y c w h);
    numbers = λ c w h. (number_of w h.row, λ z. a.is c w (type_at x.value_type) (number_of w h.row) z (read_is y c w h));
  }

  pub values_bad : v ≡ false → ValuesAt x vs (Err Value)
  unfolding pick
  values_bad y = record { is = λ ed c w h. rw (read_is y c w h); numbers = λ c w h. tt }

pub ruleset valuing = (values_good, values_bad, rules)

-- ---- with its name, its parameters and its type

module _ (ed : Edition) (x : Context) (s : List ℕ) (inside from : ℕ) where
  abbrev ms : List Member
  ms = member_list (members_at s inside)

  abbrev vs : List Json
  vs = element_list (elements_at s from)

  module _ {b : Bool} (e : b ≡ is_amount x.row.listed vs) where
    amount_is : (c w : List ℕ) → Holder x c w → is_amount (is_listed_property w) vs ≡ b
    amount_is c w h = ap (λ (l : Bool). is_amount l vs) (sym (ap (λ (r : Row). r.listed) h.row ∙ listed_place w)) ∙ sym e

    pub known_amount : b ≡ false → KnownAt ed x s inside from (Err Frame)
    unfolding known_fault pick ◌and◌
    known_amount y = record { is = λ c w h. rw (amount_is c w h, y); numbers = λ c w h. tt }

    module _ (y : b ≡ true) {d : Bool} (f : StandsAt x.component x.row d) where
      shaped_is : (c w : List ℕ) → Holder x c w → (is_amount (is_listed_property w) vs and (not (is_known_property w) or may_stand c w)) ≡ d
      unfolding ◌and◌
      shaped_is c w h = rw (amount_is c w h, y, ← (f.is c w h.component h.row))

      pub known_off : d ≡ false → KnownAt ed x s inside from (Err Frame)
      unfolding known_fault pick
      known_off z = record { is = λ c w h. rw (shaped_is c w h, z); numbers = λ c w h. tt }

      module _ (z : d ≡ true) {g : Bool} (i : (w : List ℕ) → x.row ≡ row_at (place_of w property_names) → x.value_type ≤ 14 → g ≡ parameters_good ed w (type_at x.value_type) ms) where
        pub known_parameter : g ≡ false → KnownAt ed x s inside from (Err Parameter)
        unfolding known_fault pick
        known_parameter u = record { is = λ c w h. rw (shaped_is c w h, z, ← (i w h.row h.small), u); numbers = λ c w h. tt }

        pub known_values : {r : Result Stated coded.Refusal} → g ≡ true → ValuesAt x vs r → KnownAt ed x s inside from r
        unfolding known_fault pick
        known_values u a = record { is = λ c w h. rw (shaped_is c w h, z, ← (i w h.row h.small), u) (a.is ed c w h); numbers = a.numbers }

pub ruleset knowing = (known_amount, known_off, known_parameter, known_values, rules)

-- ---- with its name and its parameters

module _ (ed : Edition) (k : ℕ) (s : List ℕ) (p : Three) where
  pub named_bad : TypeAt s p.third None → NamedAt ed k s p (Err Frame)
  named_bad d = record { is = λ c a. rw d.is; numbers = λ c a. tt }

  pub named_known : {u : ℕ} → TypeAt s p.third (Some u) → {row : Row} {r : Result Stated coded.Refusal} → row ≡ row_at (place_of (upper (string_at s p.first.place)) property_names) →
      KnownAt ed (record { component = k; row = row; value_type = u }) s p.second.next p.next r → NamedAt ed k s p r
  unfolding read_or
  named_known f o a = record {
    is = λ c b. rw f.is (a.is c (upper (string_at s p.first.place)) (record { component = b; row = o; small = f.small }));
    numbers = λ c b. rw f.is (a.numbers c (upper (string_at s p.first.place)) (record { component = b; row = o; small = f.small }));
  }

pub ruleset naming = (named_bad, named_known, rules)

-- ---- by its first two elements

module _ (ed : Edition) (k : ℕ) (s : List ℕ) (p : Three) {b : Bool} (e : b ≡ is_string p.first.kind) where
  pub shaped_no_name : b ≡ false → ShapedAt ed k s p (Err Frame)
  shaped_no_name y = record { is = λ c a. rw (no_string s p.first (sym e ∙ y)); numbers = λ c a. tt }

  module _ (y : b ≡ true) {d : Bool} (f : d ≡ is_object p.second.kind) where
    pub shaped_no_object : d ≡ false → ShapedAt ed k s p (Err Frame)
    shaped_no_object z = record { is = λ c a. rw (as_string_lem s p.first (sym e ∙ y), no_object s p.second (sym f ∙ z)); numbers = λ c a. tt }

    pub shaped_named : {r : Result Stated coded.Refusal} → d ≡ true → NamedAt ed k s p r → ShapedAt ed k s p r
    unfolding read_or
    shaped_named z n = record {
      is = λ c a. rw (as_string_lem s p.first (sym e ∙ y), as_object_lem s p.second (sym f ∙ z)) (n.is c a);
      numbers = λ c a. rw (as_string_lem s p.first (sym e ∙ y)) (n.numbers c a);
    }

pub first_in : {s : List ℕ} {p : Three} → ThreeIn s p → {b : Bool} → b ≡ is_string p.first.kind → b ≡ true → p.first.place < length s
first_in i e y = i.first.string (sym e ∙ y)

pub third_in : {s : List ℕ} {p : Three} → ThreeIn s p → Inside s p.third
third_in i = i.third

pub ruleset shaping = (shaped_no_name, shaped_no_object, shaped_named, first_in, third_in, rules)

-- ---- the array

module _ (ed : Edition) (k : ℕ) {s : List ℕ} {inside : ℕ} {p : Three} (t : ThreeAt s inside p) where
  abbrev here : List Json
  here = element_list (elements_at s inside)

  name_is : name_in here ≡ name_found s p.first
  name_is = ap (λ (o : Option Json). and_then o as_string) (three_first t)

  parameters_are : parameters_in here ≡ object_found s p.second
  parameters_are = ap (λ (o : Option Json). and_then o as_object) (three_second t)

  type_is : type_in here ≡ type_found s p.third
  type_is = ap (λ (o : Option Json). and_then (and_then o as_string) type_of) (three_third t)

  fault_is : (c : List ℕ) →
      property_fault ed c here ≡ pick (passes is_bad_property (name_found s p.first) or any_one is_bad_parameter (read_or [] (object_found s p.second))) (Some NAME)
      (shape_fault ed c (object_found s p.second) (type_found s p.third) (element_list (elements_at s p.next)) (name_found s p.first))
  fault_is c = fault_by ed c here ∙ rw (name_is, parameters_are, type_is, three_others t)

  module _ {b : Bool} (e : b ≡ (passes is_bad_property (name_found s p.first) or any_one is_bad_parameter (read_or [] (object_found s p.second)))) where
    pub fault_name : b ≡ true → PropertyAt ed k (element_list (elements_at s inside)) (Err Name)
    unfolding pick
    fault_name y = record { is = λ c a. fault_is c ∙ rw (← e, y); numbers = λ c a. tt }

    pub fault_shape : {r : Result Stated coded.Refusal} → b ≡ false → ShapedAt ed k s p r → PropertyAt ed k (element_list (elements_at s inside)) r
    unfolding pick property_of
    fault_shape y n = record {
      is = λ c a. fault_is c ∙ rw (← e, y) (n.is c a);
      numbers = λ c a. rw (name_is, type_is, three_others t) (n.numbers c a);
    }

pub ruleset faulting = (fault_name, fault_shape, three_in, rules)

-- ---- an element of an array of properties

module _ (ed : Edition) (k place : ℕ) (vs : List Json) where
  pub entry_good : {e : Stated} → PropertyAt ed k vs (Ok e) → ArrayAt ed k place vs (Ok e)
  entry_good a = record { is = λ c b. rw (a.is c b); fits = λ c b. let n = a.numbers c b in record { number = n.0; acts = n.1 } }

  pub entry_faulty : {n : coded.Refusal} → PropertyAt ed k vs (Err n) → ArrayAt ed k place vs (Err (fault_at n place))
  entry_faulty a = record { is = λ c b. rw (a.is c b); fits = λ c b. tt }

module _ (ed : Edition) (k : ℕ) (s : List ℕ) (h : Head) {b : Bool} (e : b ≡ is_array h.kind) where
  pub entry_array : {r : Result Stated Fault} → b ≡ true → ArrayAt ed k h.place (element_list (elements_at s h.next)) r → EntryAt ed k (value_of_head s h) r
  unfolding read_or
  entry_array {r} y a = rw (value_array s h (sym e ∙ y)) (record { is = a.is; fits = a.fits })

  pub entry_other : {q : ℕ} → b ≡ false → q ≡ place_in h → EntryAt ed k (value_of_head s h) (Err (fault_at Frame q))
  entry_other y f = record { is = λ c a. rw (value_other s h (sym e ∙ y), value_place s h, ← f); fits = λ c a. tt }

pub ruleset entering = (entry_good, entry_faulty, entry_array, entry_other, rules)

-- ---- the properties of a component

-- what has been counted of them, and what is left
pub record Seen (c s : List ℕ) (from at : ℕ) (t : Kept) : Type 0 where
  pub before : List Property
  pub counted : Counted before t
  pub agrees : stated_in c (element_list (elements_at s from)) ≡ before ⊕ stated_in c (element_list (elements_at s at))

module _ (ed : Edition) where
  pub record Listing (k : ℕ) (s : List ℕ) (from at : ℕ) (t : Kept) : Type 0 where
    pub is : (c : List ℕ) → k ≡ place_of c component_names → properties_verdict ed c (element_list (elements_at s from)) ≡ properties_verdict ed c (element_list (elements_at s at))
    pub seen : (c : List ℕ) → k ≡ place_of c component_names → Seen c s from at t

module _ (ed : Edition) where
  pub list_start : (k : ℕ) (s : List ℕ) (from : ℕ) {t : Kept} → Counted [] t → Listing ed k s from from t
  list_start k s from d = record {
    is = λ c a. refl;
    seen = λ c a. record { before = []; counted = d; agrees = sym (append_empty (stated_in c (element_list (elements_at s from)))) };
  }

  module _ {k : ℕ} {s : List ℕ} {from at : ℕ} {t : Kept} {h : Head} (i : Listing ed k s from at t) (n : HeadAt s at h) {b : Bool} (e : b ≡ is_there h.kind) where
    verdict_on : {l : List Json} → element_list (elements_at s at) ≡ l → (c : List ℕ) → k ≡ place_of c component_names → properties_verdict ed c (element_list (elements_at s from)) ≡ properties_verdict ed c l
    verdict_on q c a = i.is c a ∙ ap (properties_verdict ed c) q

    stated_on : {l : List Json} → element_list (elements_at s at) ≡ l → (c : List ℕ) (a : k ≡ place_of c component_names) → stated_in c (element_list (elements_at s from)) ≡ (i.seen c a).before ⊕ stated_in c l
    stated_on q c a = (i.seen c a).agrees ∙ ap (λ (l : List Json). (i.seen c a).before ⊕ stated_in c l) q

    nothing : b ≡ false → element_list (elements_at s at) ≡ []
    unfolding element_list
    nothing y = ap element_list (none_found n (sym e ∙ y))

    pub list_none : b ≡ false → ListedAt ed k s from (Ok t)
    unfolding properties_verdict
    list_none y = record {
      is = verdict_on (nothing y);
      counted = λ c a. subst (λ (ps : List Property). Counted ps t) (sym (stated_on (nothing y) c a ∙ append_none (i.seen c a).before)) (i.seen c a).counted;
    }

    module _ (y : b ≡ true) where
      pub list_good : {p : Stated} → EntryAt ed k (value_of_head s h) (Ok p) → {next : ℕ} {u : Kept} → CountsOn p.number p.action t u → NextAt s h next → Listing ed k s from next u
      unfolding properties_verdict ◌otherwise◌
      list_good {p} d {next} {u} m f = record {
        is = λ c a. verdict_on (list_found n f (sym e ∙ y)) c a ∙ rw (d.is c a);
        seen = λ c a.
            let x : Property = property_of c (read_or [] (as_array (value_of_head s h))) in
            let later : List Property = stated_in c (element_list (elements_at s next)) in
            let w = i.seen c a in record {
              before = w.before ⊕ (x ∷ []);
              counted = m.is w.before x (d.fits c a) w.counted;
              agrees = stated_on (list_found n f (sym e ∙ y)) c a ∙ sym (append_regroup w.before (x ∷ []) later ∙ rw (append_cons x [] later, append_empty later));
            };
      }

      pub list_bad : {f : Fault} → EntryAt ed k (value_of_head s h) (Err f) → ListedAt ed k s from (Err f)
      unfolding properties_verdict ◌otherwise◌
      list_bad d = record { is = λ c a. verdict_on (list_here n (sym e ∙ y)) c a ∙ rw (d.is c a); counted = λ c a. tt }

pub ruleset listing = (list_start, list_none, list_good, list_bad, head_inside, next_less, rules)
