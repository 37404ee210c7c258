-- Laws of what specs/Columns.antt defines, and of row_at (specs/Coded.antt), so that callers need not open them.
--     row_number, row_default, row_listed_lem, row_types, row_parameters, row_stands  what the row of a number says is what the definitions say of the number's name
--     default_at, listed_at, types_at     the same of the table's row
--     number_place, default_place, listed_place, permits_type_place, permits_place, stand_place, begin_place, alarm_place     the same of a name and its number
--     inner_at, flag_at   the entries of the code's tables
--     begin_in_unknown ..   unrecognised ones
use Rattle.std.specs.Prelude.{◌≡◌, Bool, not, List, [], ◌∷◌, map, ℕ, ◌+◌, ◌*◌, ◌≤◌, ◌<◌, min, eqb, ltb, length, get_or}
use Rattle.std.proofs.Math.Path.{refl}
use Rattle.std.proofs.Common.{sym, ap, ◌∙◌, arith, lt-ltb, le-ltb, ltb-true, ltb-false}
use Rattle.std.proofs.Math.Bool.{true, false}
use Rattle.std.proofs.lemmas.Bool.{false≢true, not-true}
use Rattle.std.proofs.Math.Decide.{dec_le}
use Rattle.std.proofs.Math.ListN.{get_or-map, get_or-eq_default}
use Rattle.bits.specs.Masks.{has}
use Rattle.bits.specs.laws.Masks.{has_none}
use Rattle.octets.specs.Ascii.{ascii}
use Rattle.octets.specs.Pick.{pick, ◌and◌, ◌or◌}
use Rattle.octets.specs.laws.Pick.{and_both}
use Rattle.octets.specs.Append.{◌⊕◌}
use Rattle.octets.specs.Words.{is_one_of}
use Rattle.octets.specs.laws.Words.{same_swap, same_apart}
use Rattle.octets.specs.laws.Tables.{row_any_passes}
use Rattle.octets.specs.Lists.{every}
use Rattle.octets.specs.laws.Lists.{word_passes}
use Rattle.octets.specs.Computing.{octets_compute}
use Rattle.names.specs.Table.{place_of}
use Rattle.names.specs.laws.Table.{one_of_place, place_within}
use Rattle.names.specs.laws.Places.{placed, same_place}
use Rattle.calendar.specs.Calendar.{ValueType, UNKNOWN}
use Rattle.schema.specs.Types.{value_types, type_place, same_type, is_type_of}
use Rattle.schema.specs.laws.Types.{type_passes}
use Rattle.schema.specs.Parameters.{parameter_names, is_known_parameter}
use Rattle.schema.specs.Components.{ComponentRow, audioprop, dispprop, emailprop, component_table, component_names, component_row, unknown_component, subcomponents_of, is_known_component, may_contain, is_alarm, may_stand}
use Rattle.schema.specs.Properties.{PropertyRow, default_type, permitted_types, is_listed_property, property_table, property_names, property_row, unrecognised_property, is_known_property, permits_parameter}
use Rattle.schema.specs.laws.Rows.{stand_known, subcomponents_known}
use Rattle.schema.specs.laws.Unknown.{unknown_stands, outside_row}
use Rattle.schema.specs.laws.Sets.{calendar_place}
use Rattle.schema.specs.Numbers.{component_at, property_at, component_name, property_name}
use Rattle.schema.specs.laws.Numbers.{property_place, component_place}
use Rattle.schema.specs.laws.Places.{known_component, component_at_lem, property_at_lem, no_property}
use Rattle.schema.specs.laws.Cells.{digit, digit_is, grid, cell_at, column_at, at_passes, row_at_passes}
use Rattle.schema.specs.Computing.{schema_compute}
use Rattle.schema.specs.Coded.{type_mask, parameter_mask, columns, coded, row_at}
use Rattle.schema.specs.Columns.{permits_type, permits_at, stands_at, may_begin}

alarm_known : is_one_of (ascii "VALARM") component_names ≡ true
unfolding octets_compute
alarm_known = refl

alarm_at : place_of (ascii "VALARM") component_names ≡ 8
unfolding octets_compute place_of
alarm_at = refl

-- ---- the row of a number

pub row_number : (p : ℕ) → p ≤ 46 → (row_at p).number ≡ p
unfolding row_at
row_number p h = omega arith

pub number_place : (w : List ℕ) → (row_at (place_of w property_names)).number ≡ place_of w property_names
number_place w = row_number (place_of w property_names) (place_within w property_names)

-- the row of the name of a number
pub row_named : (p : ℕ) → property_row (property_name p) ≡ property_at p
row_named p = property_place (property_name p) ∙ go (dec_le 46 p)
  where
    go : Dec (46 ≤ p) → property_at (place_of (property_name p) property_names) ≡ property_at p
    go (yes k) = rw (get_or-eq_default property_names [] k, no_property, get_or-eq_default property_table unrecognised_property k)
    go (no k) = ap property_at (property_at_lem p (omega (arith, k)))

pub default_at : (p : ℕ) → (row_at p).default ≡ type_place (property_at p).default
unfolding row_at
default_at p = refl

pub row_default : (p : ℕ) → (row_at p).default ≡ type_place (default_type (property_name p))
row_default p = default_at p ∙ ap (λ (r : PropertyRow). type_place r.default) (sym (row_named p))

pub default_place : (w : List ℕ) → (row_at (place_of w property_names)).default ≡ type_place (default_type w)
default_place w = default_at (place_of w property_names) ∙ ap (λ (r : PropertyRow). type_place r.default) (sym (property_place w))

pub listed_at : (p : ℕ) → (row_at p).listed ≡ (property_at p).listed
unfolding row_at
listed_at p = refl

pub row_listed_lem : (p : ℕ) → (row_at p).listed ≡ is_listed_property (property_name p)
row_listed_lem p = listed_at p ∙ ap (λ (r : PropertyRow). r.listed) (sym (row_named p))

pub listed_place : (w : List ℕ) → (row_at (place_of w property_names)).listed ≡ is_listed_property w
listed_place w = listed_at (place_of w property_names) ∙ ap (λ (r : PropertyRow). r.listed) (sym (property_place w))

-- ---- types

unfoldable pub even : Bool → Bool → Bool
even true b = b
even false b = not b

pub even_is : (a b : Bool) → even a b ≡ true → a ≡ b
unfolding even
even_is true b h = sym h
even_is false true h = absurd (false≢true h)
even_is false false h = refl

-- the mask of a row has the types of the row
types_masked : PropertyRow → Bool
types_masked r = every (λ t. even (has (type_mask (r.default ∷ r.others)) (type_place t)) (is_type_of t (r.default ∷ r.others))) (UNKNOWN ∷ value_types)

all_types : every types_masked (unrecognised_property ∷ property_table) ≡ true
unfolding schema_compute types_masked even
all_types = refl

pub types_at : (p : ℕ) (t : ValueType) → permits_type (row_at p) (type_place t) ≡ is_type_of t ((property_at p).default ∷ (property_at p).others)
unfolding permits_type row_at types_masked ◌and◌ every
types_at p t =
    let a = and_both _ _ all_types in
    even_is _ _ (type_passes (λ u. even (has (type_mask ((property_at p).default ∷ (property_at p).others)) (type_place u)) (is_type_of u ((property_at p).default ∷ (property_at p).others)))
    (at_passes types_masked unrecognised_property property_table p a.1 a.0) t)

pub row_types : (p : ℕ) (t : ValueType) → permits_type (row_at p) (type_place t) ≡ is_type_of t (permitted_types (property_name p))
row_types p t = types_at p t ∙ ap (λ (r : PropertyRow). is_type_of t (r.default ∷ r.others)) (sym (row_named p))

pub permits_type_place : (w : List ℕ) (t : ValueType) → is_type_of t (permitted_types w) ≡ permits_type (row_at (place_of w property_names)) (type_place t)
permits_type_place w t = ap (λ (r : PropertyRow). is_type_of t (r.default ∷ r.others)) (property_place w) ∙ sym (types_at (place_of w property_names) t)

-- ---- parameters

related_known : is_one_of (ascii "RELATED") parameter_names ≡ true
unfolding octets_compute
related_known = refl

related_place : place_of (ascii "RELATED") parameter_names ≡ 13
unfolding octets_compute place_of
related_place = refl

-- the mask of a row has the parameters of the row
parameters_masked : PropertyRow → Bool
parameters_masked r = every (λ q. even (has (parameter_mask r.parameters) (place_of q parameter_names)) (is_one_of q r.parameters)) parameter_names

all_parameters : every parameters_masked (unrecognised_property ∷ property_table) ≡ true
unfolding schema_compute parameters_masked even
all_parameters = refl

pub parameters_at : (p : ℕ) (q : List ℕ) → is_one_of q parameter_names ≡ true → has (row_at p).parameters (place_of q parameter_names) ≡ is_one_of q (property_at p).parameters
unfolding row_at parameters_masked ◌and◌ every
parameters_at p q h =
    let a = and_both _ _ all_parameters in
    even_is _ _ (word_passes (λ v. even (has (parameter_mask (property_at p).parameters) (place_of v parameter_names)) (is_one_of v (property_at p).parameters)) parameter_names q
    (at_passes parameters_masked unrecognised_property property_table p a.1 a.0) h)

pub permits_place : (w v : List ℕ) (t : ValueType) → permits_parameter w t v ≡ permits_at (row_at (place_of w property_names)) (type_place t) (place_of v parameter_names)
unfolding permits_parameter permits_at is_known_parameter is_known_property same_type pick ◌and◌
permits_place w v t =
    rw (property_place w, same_place v (ascii "RELATED") parameter_names related_known, related_place, one_of_place w property_names, number_place w)
    (go (is_one_of v parameter_names) (ltb (place_of w property_names) 46) refl (pick (eqb (place_of v parameter_names) 13) (eqb (type_place t) 5) true)
    ∙ ap (λ (b : Bool). pick b (pick (ltb (place_of w property_names) 46)
    (has (row_at (place_of w property_names)).parameters (place_of v parameter_names) and pick (eqb (place_of v parameter_names) 13) (eqb (type_place t) 5) true) true) true)
    (one_of_place v parameter_names))
  where
    go : (b a : Bool) → is_one_of v parameter_names ≡ b → (x : Bool) →
        pick (b and a) (is_one_of v (property_at (place_of w property_names)).parameters and x) true
        ≡ pick b (pick a (has (row_at (place_of w property_names)).parameters (place_of v parameter_names) and x) true) true
    go true a e x = rw (parameters_at (place_of w property_names) v e)
    go false a e x = refl

pub row_parameters : (p : ℕ) (t : ValueType) (v : List ℕ) → p ≤ 46 → permits_at (row_at p) (type_place t) (place_of v parameter_names) ≡ permits_parameter (property_name p) t v
row_parameters p t v h = sym (permits_place (property_name p) v t ∙ ap (λ (n : ℕ). permits_at (row_at n) (type_place t) (place_of v parameter_names)) (go (dec_le 46 p)))
  where
    go : Dec (46 ≤ p) → place_of (property_name p) property_names ≡ p
    go (yes k) = let e : p ≡ 46 = omega (arith, k, h) in rw (get_or-eq_default property_names [] k, no_property) (sym e)
    go (no k) = property_at_lem p (omega (arith, k))

-- ---- properties in a component

pub stand_unknown : (c w : List ℕ) → is_known_property w ≡ false → may_stand c w ≡ false
stand_unknown c w u = go (may_stand c w) refl
  where
    go : (b : Bool) → may_stand c w ≡ b → b ≡ false
    go true e = absurd (false≢true (sym u ∙ stand_known c w e))
    go false e = refl

none_unknown : is_known_property [] ≡ false
unfolding octets_compute is_known_property
none_unknown = refl

pub stand_outside : (c w : List ℕ) → is_one_of c component_names ≡ false → may_stand c w ≡ may_stand [] w
unfolding octets_compute may_stand component_row
stand_outside c w u = go (is_alarm c) (same_swap (ascii "VALARM") c (same_apart (λ v. is_one_of v component_names) (ascii "VALARM") c alarm_known u)) (component_row c) (outside_row c u)
  where
    go : (b : Bool) → b ≡ false → (r : ComponentRow) → r ≡ unknown_component →
        is_one_of w (map (λ o. o.property) (pick b (audioprop ⊕ dispprop ⊕ emailprop) r.occurrences)) ≡ is_one_of w (map (λ o. o.property) unknown_component.occurrences)
    go true e r f = absurd (false≢true (sym e))
    go false e r f = ap (λ (x : ComponentRow). is_one_of w (map (λ o. o.property) x.occurrences)) f

all_known : every (λ w. is_known_property w) property_names ≡ true
unfolding octets_compute is_known_property
all_known = refl

known_below : (p : ℕ) (b : Bool) → ltb p 46 ≡ b → b ≡ is_known_property (property_name p)
known_below p true e = sym (row_at_passes (λ w. is_known_property w) [] property_names p all_known (ltb-true p 46 e))
known_below p false e = rw (get_or-eq_default property_names [] (ltb-false p 46 e)) (sym none_unknown)

pub stand_past_component : (k p : ℕ) → 9 ≤ k → ltb p 46 ≡ may_stand (component_name k) (property_name p)
stand_past_component k p h = rw (get_or-eq_default component_names [] h, unknown_stands (property_name p)) (known_below p (ltb p 46) refl)

pub stand_past_property : (c : List ℕ) (p : ℕ) → 46 ≤ p → false ≡ may_stand c (property_name p)
stand_past_property c p h = rw (get_or-eq_default property_names [] h) (sym (stand_unknown c [] none_unknown))

pub stand_place : (c w : List ℕ) → may_stand c w ≡ may_stand (component_name (place_of c component_names)) (property_name (place_of w property_names))
unfolding pick is_known_property
stand_place c w = rw (placed c component_names, placed w property_names) (one (is_one_of c component_names) refl ∙ two (is_one_of w property_names) refl (pick (is_one_of c component_names) c []))
  where
    one : (b : Bool) → is_one_of c component_names ≡ b → may_stand c w ≡ may_stand (pick b c []) w
    one true e = refl
    one false e = stand_outside c w e

    two : (b : Bool) → is_one_of w property_names ≡ b → (d : List ℕ) → may_stand d w ≡ may_stand d (pick b w [])
    two true e d = refl
    two false e d = stand_unknown d w e ∙ sym (stand_unknown d [] none_unknown)

-- the mask of a row has the components of its signs
stands_masked : PropertyRow → Bool
stands_masked r = every (λ c. even (has (coded r).components (place_of c component_names)) (may_stand c r.name)) component_names

all_standing : every stands_masked property_table ≡ true
unfolding schema_compute columns stands_masked even
all_standing = refl

nowhere : (coded unrecognised_property).components ≡ 0
unfolding columns pick
nowhere = refl

below_min : (p : ℕ) (b : Bool) → ltb p 46 ≡ b → ltb (min p 46) 46 ≡ b
below_min p true e = lt-ltb (min p 46) 46 (omega (arith, ltb-true p 46 e))
below_min p false e = le-ltb (min p 46) 46 (omega (arith, ltb-false p 46 e))

pub row_stands : (k p : ℕ) → stands_at k (row_at p) ≡ may_stand (component_name k) (property_name p)
unfolding stands_at row_at stands_masked ◌and◌ every pick
row_stands k p = go (dec_le 9 k) (dec_le 46 p)
  where
    go : Dec (9 ≤ k) → Dec (46 ≤ p) → pick (ltb k 9) (has (coded (property_at p)).components k) (ltb (min p 46) 46) ≡ may_stand (component_name k) (property_name p)
    go (yes h) l = rw (le-ltb k 9 h) (below_min p (ltb p 46) refl ∙ stand_past_component k p h)
    go (no h) (yes l) =
        rw (lt-ltb k 9 (omega (arith, h)))
        (ap (λ (r : PropertyRow). has (coded r).components k) (get_or-eq_default property_table unrecognised_property l) ∙ ap (λ (m : ℕ). has m k) nowhere ∙ has_none k ∙ stand_past_property (component_name k) p l)
    go (no h) (no l) =
        let b : k < 9 = omega (arith, h) in
        let c : p < 46 = omega (arith, l) in
        rw (lt-ltb k 9 b)
        (ap (has (coded (property_at p)).components) (sym (component_at_lem k b))
        ∙ even_is _ _ (word_passes (λ c. even (has (coded (property_at p)).components (place_of c component_names)) (may_stand c (property_at p).name)) component_names (component_name k)
        (row_at_passes stands_masked unrecognised_property property_table p all_standing c) (known_component k b))
        ∙ ap (may_stand (component_name k)) (sym (get_or-map (λ r. r.name) property_table p unrecognised_property)))

-- ---- components in a component

unlisted : (c : ℕ) → is_one_of [] (component_at c).subcomponents ≡ false
unfolding octets_compute
unlisted c = not-true _ (at_passes (λ r. not (is_one_of [] r.subcomponents)) unknown_component component_table c refl refl)

pub begin_unknown : (c k : ℕ) → 9 ≤ k → (eqb c 0 or not (ltb c 9)) ≡ may_begin c k
begin_unknown c k h = rw (get_or-eq_default component_names [] h, unlisted c, le-ltb k 9 h) (go (eqb c 0 or not (ltb c 9)))
  where
    go : (b : Bool) → b ≡ (false or (b and true))
    go true = unfold ◌and◌ ◌or◌ in refl
    go false = unfold ◌and◌ ◌or◌ in refl

pub begin_known : (c k : ℕ) → k < 9 → is_one_of (component_name k) (component_at c).subcomponents ≡ may_begin c k
begin_known c k h = rw (lt-ltb k 9 h) (go (eqb c 0 or not (ltb c 9)) (is_one_of (component_name k) (component_at c).subcomponents))
  where
    go : (b a : Bool) → a ≡ (a or (b and false))
    go true true = unfold ◌and◌ ◌or◌ in refl
    go true false = unfold ◌and◌ ◌or◌ in refl
    go false true = unfold ◌and◌ ◌or◌ in refl
    go false false = unfold ◌and◌ ◌or◌ in refl

-- an unrecognised one in a known one, and in an unrecognised one; a known one in an unrecognised one
pub begin_in_known : (c k : ℕ) → c < 9 → 9 ≤ k → eqb c 0 ≡ may_begin c k
begin_in_known c k l h = go (eqb c 0) ∙ begin_unknown c k h
  where
    go : (b : Bool) → b ≡ (b or not (ltb c 9))
    go true = unfold ◌or◌ in refl
    go false = rw (lt-ltb c 9 l) (unfold ◌or◌ in refl)

pub begin_in_unknown : (c k : ℕ) → 9 ≤ c → 9 ≤ k → true ≡ may_begin c k
begin_in_unknown c k l h = go (eqb c 0) ∙ begin_unknown c k h
  where
    go : (b : Bool) → true ≡ (b or not (ltb c 9))
    go true = unfold ◌or◌ in refl
    go false = rw (le-ltb c 9 l) (unfold ◌or◌ in refl)

pub known_in_unknown : (c k : ℕ) → 9 ≤ c → k < 9 → is_one_of (component_name k) unknown_component.subcomponents ≡ may_begin c k
known_in_unknown c k l h =
    ap (λ (r : ComponentRow). is_one_of (component_name k) r.subcomponents) (sym (get_or-eq_default component_table unknown_component l)) ∙ begin_known c k h

none_stands : (c : List ℕ) → false ≡ is_one_of [] (subcomponents_of c)
unfolding octets_compute component_row
none_stands c = sym (not-true _ (row_any_passes (λ r. r.name) c (λ r. not (is_one_of [] r.subcomponents)) unknown_component component_table refl refl))

-- which of the schema's components
sub_place : (c w : List ℕ) → is_one_of w (subcomponents_of c) ≡ is_one_of (component_name (place_of w component_names)) (component_at (place_of c component_names)).subcomponents
unfolding pick
sub_place c w = rw (← (component_place c), placed w component_names) (go (is_one_of w component_names) refl (is_one_of w (subcomponents_of c)) refl)
  where
    go : (b : Bool) → is_one_of w component_names ≡ b → (a : Bool) → is_one_of w (subcomponents_of c) ≡ a → a ≡ is_one_of (pick b w []) (subcomponents_of c)
    go true e a f = sym f
    go false e true f = absurd (false≢true (sym e ∙ subcomponents_known c w f))
    go false e false f = none_stands c

pub known_place : (c : List ℕ) → is_known_component c ≡ ltb (place_of c component_names) 9
unfolding is_known_component
known_place c = one_of_place c component_names

pub begin_place : (c w : List ℕ) → may_contain c w ≡ may_begin (place_of c component_names) (place_of w component_names)
unfolding may_contain
begin_place c w = rw (sub_place c w, known_place c, known_place w, calendar_place c)

pub alarm_place : (c : List ℕ) → is_alarm c ≡ eqb (place_of c component_names) 8
alarm_place c = same_place c (ascii "VALARM") component_names alarm_known ∙ rw alarm_at

-- ---- the tables of the code, entry by entry

pub inner_at : (c k : ℕ) → c < 9 → k < 9 → eqb (get_or (grid (λ c k. digit (may_begin c k)) 9 81) (c * 9 + k) 0) 49 ≡ may_begin c k
inner_at c k h l = ap (λ (n : ℕ). eqb n 49) (cell_at (λ c k. digit (may_begin c k)) 9 81 c k (omega arith) (omega arith) (omega arith)) ∙ digit_is (may_begin c k)

-- a field of the rows that is a test
module _ {A : Type 0} where
  pub flag_at : (f : A → Bool) (d : A) (rows : List A) (n : ℕ) → n < length rows → eqb (get_or (map (λ r. digit (f r)) rows) n 0) 49 ≡ f (get_or rows n d)
  flag_at f d rows n h = ap (λ (x : ℕ). eqb x 49) (column_at (λ r. digit (f r)) d rows n h) ∙ digit_is (f (get_or rows n d))
