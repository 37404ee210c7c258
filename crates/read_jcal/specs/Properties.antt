-- The array of a property, by what its elements are; the properties of a component.
--     known_fault     its fault, where its name, its parameters and its type are known;   shape_fault: where they are not
--     Holder          a context is that of a component and a property of these names, and of a type
--     StandsAt        the contract of `stands`
--     ValuesAt, KnownAt, NamedAt, ShapedAt, PropertyAt    the contracts of `values_fault`, `known_fault`, `named_fault`, `shape_fault`, `property_fault`
--     ArrayAt, EntryAt    the contracts of `array_entry` and `entry_at`: an element of an array of properties
--     stated_in       the properties that elements state
--     ListedAt        the contract of `properties_verdict`: the verdict, and what is kept of them
use Prim.{Unit}
use Rattle.std.specs.Prelude.{◌≡◌, Bool, not, List, [], map, ℕ, ◌≤◌, Option, None, Some, Result, Ok, Err}
use Rattle.octets.specs.Pick.{pick, ◌and◌, ◌or◌}
use Rattle.octets.specs.Class.{upper}
use Rattle.octets.specs.Reading.{is_read, read_or}
use Rattle.names.specs.Table.{place_of}
use Rattle.calendar.specs.Calendar.{ValueType, TEXT, Value, Property}
use Rattle.calendar.specs.Refusal.{Refusal, FRAME, PARAMETER, VALUE}
use Rattle.schema.specs.Components.{component_names, may_stand}
use Rattle.schema.specs.Properties.{property_names, is_known_property, is_listed_property}
use Rattle.schema.specs.Numbers.{type_at}
use Rattle.schema.specs.Coded.{row_at}
use Rattle.schema.specs.Counts.{first_text}
use Rattle.schema.specs.Completing.{alarm_action}
use Rattle.schema.specs.Property as property
use Rattle.schema.specs.declared.Context.{Context}
use Rattle.schema.specs.declared.table.Row.{Row}
use Rattle.edition.specs.declared.Edition.{Edition}
use Rattle.values.specs.Valid.{is_amount}
use Rattle.json_text.specs.Tree.{Json, Member, element_list, member_list}
use Rattle.json_text.specs.Kinds.{as_array}
use Rattle.jcal.specs.Parameters.{parameters_good}
use Rattle.jcal.specs.Values.{read_values}
use Rattle.jcal.specs.Property.{property_fault, property_of}
use Rattle.jcal.specs.Components.{at, property_verdict, properties_verdict}
use Rattle.read_json.specs.TreeAt.{elements_at, members_at, string_at}
use Rattle.tallies.specs.Counting.{Counted, Numbered}
use Rattle.tallies.specs.declared.Kept.{Kept}
use Rattle.refusals.specs.declared.Refusal as coded
use Rattle.refusals.specs.declared.Fault.{Fault}
use Rattle.read_jcal.specs.Judging.{fault_as, verdict_as}
use Rattle.read_jcal.specs.Arrays.{name_found, object_found, type_found}
use Rattle.read_jcal.specs.declared.Three.{Three}
use Rattle.read_jcal.specs.declared.Stated.{Stated}

-- ---- its fault, by what its elements are

module _ (ed : Edition) (c : List ℕ) where
  -- VALUE
  abbrev pub values_fault : List ℕ → ValueType → List Json → Option Refusal
  values_fault w t vs = pick (is_read (read_values c w t vs)) None (Some VALUE)

  -- FRAME but for its first three elements, PARAMETER, VALUE
  unfoldable pub known_fault : List ℕ → ValueType → List Member → List Json → Option Refusal
  known_fault w t ms vs =
      pick (is_amount (is_listed_property w) vs and (not (is_known_property w) or may_stand c w))
      (pick (parameters_good ed w t ms) (values_fault w t vs) (Some PARAMETER))
      (Some FRAME)

  -- of a name, and of parameters, whether it has a type or not
  abbrev pub typed_fault : List ℕ → List Member → List Json → Option ValueType → Option Refusal
  typed_fault n ms vs None = Some FRAME
  typed_fault n ms vs (Some t) = known_fault (upper n) t ms vs

  abbrev pub object_fault : List ℕ → Option ValueType → List Json → Option (List Member) → Option Refusal
  object_fault n t vs None = Some FRAME
  object_fault n t vs (Some ms) = typed_fault n ms vs t

  abbrev pub shape_fault : Option (List Member) → Option ValueType → List Json → Option (List ℕ) → Option Refusal
  shape_fault ms t vs None = Some FRAME
  shape_fault ms t vs (Some n) = object_fault n t vs ms

-- ---- what is answered

-- the numbers of a property of a name with some values
abbrev pub NumbersOf : List ℕ → List Value → Result Stated coded.Refusal → Type 0
NumbersOf w vs (Ok x) = (x.number ≡ place_of w property_names) × (x.number ≡ property.ACTION → x.action ≡ alarm_action (first_text vs))
NumbersOf w vs (Err r) = Unit {0}

-- ---- whether it may stand there

pub record StandsAt (k : ℕ) (row : Row) (r : Bool) : Type 0 where
  pub is : (c w : List ℕ) → k ≡ place_of c component_names → row ≡ row_at (place_of w property_names) → r ≡ (not (is_known_property w) or may_stand c w)

-- ---- the array

pub record Holder (x : Context) (c w : List ℕ) : Type 0 where
  pub component : x.component ≡ place_of c component_names
  pub row : x.row ≡ row_at (place_of w property_names)
  pub small : x.value_type ≤ 14

pub record ValuesAt (x : Context) (vs : List Json) (r : Result Stated coded.Refusal) : Type 0 where
  pub is : (ed : Edition) (c w : List ℕ) → Holder x c w → values_fault ed c w (type_at x.value_type) vs ≡ fault_as r
  pub numbers : (c w : List ℕ) → Holder x c w → NumbersOf w (read_or [] (read_values c w (type_at x.value_type) vs)) r

module _ (ed : Edition) where
  pub record KnownAt (x : Context) (s : List ℕ) (inside from : ℕ) (r : Result Stated coded.Refusal) : Type 0 where
    pub is : (c w : List ℕ) → Holder x c w → known_fault ed c w (type_at x.value_type) (member_list (members_at s inside)) (element_list (elements_at s from)) ≡ fault_as r
    pub numbers : (c w : List ℕ) → Holder x c w → NumbersOf w (read_or [] (read_values c w (type_at x.value_type) (element_list (elements_at s from)))) r

  -- its first element is a string, its second an object
  pub record NamedAt (k : ℕ) (s : List ℕ) (p : Three) (r : Result Stated coded.Refusal) : Type 0 where
    pub is : (c : List ℕ) → k ≡ place_of c component_names →
        typed_fault ed c (string_at s p.first.place) (member_list (members_at s p.second.next)) (element_list (elements_at s p.next)) (type_found s p.third) ≡ fault_as r
    pub numbers : (c : List ℕ) → k ≡ place_of c component_names →
        NumbersOf (upper (string_at s p.first.place)) (read_or [] (read_values c (upper (string_at s p.first.place)) (read_or TEXT (type_found s p.third)) (element_list (elements_at s p.next)))) r

  pub record ShapedAt (k : ℕ) (s : List ℕ) (p : Three) (r : Result Stated coded.Refusal) : Type 0 where
    pub is : (c : List ℕ) → k ≡ place_of c component_names →
        shape_fault ed c (object_found s p.second) (type_found s p.third) (element_list (elements_at s p.next)) (name_found s p.first) ≡ fault_as r
    pub numbers : (c : List ℕ) → k ≡ place_of c component_names →
        NumbersOf (upper (read_or [] (name_found s p.first))) (read_or [] (read_values c (upper (read_or [] (name_found s p.first))) (read_or TEXT (type_found s p.third)) (element_list (elements_at s p.next)))) r

  pub record PropertyAt (k : ℕ) (vs : List Json) (r : Result Stated coded.Refusal) : Type 0 where
    pub is : (c : List ℕ) → k ≡ place_of c component_names → property_fault ed c vs ≡ fault_as r
    pub numbers : (c : List ℕ) → k ≡ place_of c component_names → NumbersOf (property_of c vs).name (property_of c vs).values r

-- ---- the properties of a component

abbrev pub stated_in : List ℕ → List Json → List Property
stated_in c vs = map (λ v. property_of c (read_or [] (as_array v))) vs

abbrev pub EntryFits : Property → Result Stated Fault → Type 0
EntryFits x (Ok e) = Numbered x e.number e.action
EntryFits x (Err f) = Unit {0}

abbrev pub KeptOf : List Property → Result Kept Fault → Type 0
KeptOf ps (Ok t) = Counted ps t
KeptOf ps (Err f) = Unit {0}

module _ (ed : Edition) where
  -- an array at a place, of these elements
  pub record ArrayAt (k place : ℕ) (vs : List Json) (r : Result Stated Fault) : Type 0 where
    pub is : (c : List ℕ) → k ≡ place_of c component_names → at place (property_fault ed c vs) ≡ verdict_as r
    pub fits : (c : List ℕ) → k ≡ place_of c component_names → EntryFits (property_of c vs) r

  pub record EntryAt (k : ℕ) (v : Json) (r : Result Stated Fault) : Type 0 where
    pub is : (c : List ℕ) → k ≡ place_of c component_names → property_verdict ed c v (as_array v) ≡ verdict_as r
    pub fits : (c : List ℕ) → k ≡ place_of c component_names → EntryFits (property_of c (read_or [] (as_array v))) r

  pub record ListedAt (k : ℕ) (s : List ℕ) (from : ℕ) (r : Result Kept Fault) : Type 0 where
    pub is : (c : List ℕ) → k ≡ place_of c component_names → properties_verdict ed c (element_list (elements_at s from)) ≡ verdict_as r
    pub counted : (c : List ℕ) → k ≡ place_of c component_names → KeptOf (stated_in c (element_list (elements_at s from))) r
