-- The JSON value of a calendar, as a tree without places (0 for each).
--     value_tree, parameter_member, property_tree, components_tree  of each part
--     calendar_tree                                               of a calendar
--     calendar_written                                            written, it is the canonical jCal
use Rattle.std.specs.Prelude.{◌≡◌, refl, List, [], ◌∷◌, map, ℕ, Option, None, Some}
use Rattle.std.proofs.Common.{ap}
use Rattle.octets.specs.Class.{lower}
use Rattle.calendar.specs.Calendar.{xcal, RuleItem, moment, number, word, weekday, RulePart, Value, binary, boolean, cal_address, date, date_time, duration, float, integer, period_explicit, period_start, recur, text, time, uri, utc_offset, unknown, geo, request_status, Parameter, Property, Components, no_more, component}
use Rattle.schema.specs.Types.{type_name}
use Rattle.times.specs.DateTime.{write_date_time}
use Rattle.times.specs.Duration.{write_duration}
use Rattle.numbers.specs.Float.{write_float}
use Rattle.recur.specs.Item.{write_item}
use Rattle.values.specs.WriteValue.{value_characters, type_of_all}
use Rattle.json_text.specs.Tree.{Json, string, literal, array, object, Elements, no_elements, element, Members, no_members, member, Member, element_list, member_list}
use Rattle.json_text.specs.Tree as tree
use Rattle.json_text.specs.Write.{array_of, member_of, object_of}
use Rattle.json_text.specs.Written.{written, written_elements, written_members}
use Rattle.jcal.specs.WriteJcal.{one_or_array, item_json, part_json, value_json, parameter_value, parameter_json, property_json, components_json, write_jcal}

-- ---- lists

unfoldable pub to_elements : List Json → Elements
to_elements [] = no_elements
to_elements (v ∷ vs) = element v (to_elements vs)

unfoldable pub to_members : List Member → Members
to_members [] = no_members
to_members (m ∷ ms) = member m.name m.value (to_members ms)

pub element_list_lem : (vs : List Json) → element_list (to_elements vs) ≡ vs
unfolding element_list to_elements
element_list_lem [] = refl
element_list_lem (v ∷ vs) = ap (λ (l : List Json). v ∷ l) (element_list_lem vs)

pub member_list_lem : (ms : List Member) → member_list (to_members ms) ≡ ms
unfolding member_list to_members
member_list_lem [] = refl
member_list_lem (m ∷ ms) = ap (λ (l : List Member). m ∷ l) (member_list_lem ms)

-- ---- values

abbrev pub str : List ℕ → Json
str s = string 0 s

abbrev pub num : List ℕ → Json
num s = tree.number 0 s

abbrev pub arr : List Json → Json
arr vs = array 0 0 (to_elements vs)

abbrev pub obj : List Member → Json
obj ms = object 0 0 (to_members ms)

abbrev pub one_or_arr : List Json → Json
one_or_arr [] = arr []
one_or_arr (v ∷ []) = v
one_or_arr (v ∷ w ∷ vs) = arr (v ∷ w ∷ vs)

abbrev pub item_tree : RuleItem → Json
item_tree (moment m) = str (write_item xcal (moment m))
item_tree (number w) = num (write_item xcal (number w))
item_tree (word w) = str (write_item xcal (word w))
item_tree (weekday o d) = str (write_item xcal (weekday o d))

abbrev pub part_member : RulePart → Member
part_member p = record { name = lower p.part; value = one_or_arr (map item_tree p.items) }

abbrev pub data_tree : Option (List ℕ) → List Json
data_tree None = []
data_tree (Some s) = str s ∷ []

unfoldable pub value_tree : Value → Json
value_tree (binary s) = str (value_characters (binary s))
value_tree (boolean b) = literal 0 (value_characters (boolean b))
value_tree (cal_address s) = str (value_characters (cal_address s))
value_tree (date s) = str (value_characters (date s))
value_tree (date_time s) = str (value_characters (date_time s))
value_tree (duration s) = str (value_characters (duration s))
value_tree (float d) = num (value_characters (float d))
value_tree (integer w) = num (value_characters (integer w))
value_tree (period_explicit s e) = arr (str (write_date_time xcal s) ∷ str (write_date_time xcal e) ∷ [])
value_tree (period_start s d) = arr (str (write_date_time xcal s) ∷ str (write_duration xcal d) ∷ [])
value_tree (recur ps) = obj (map part_member ps)
value_tree (text s) = str (value_characters (text s))
value_tree (time s) = str (value_characters (time s))
value_tree (uri s) = str (value_characters (uri s))
value_tree (utc_offset s) = str (value_characters (utc_offset s))
value_tree (unknown s) = str (value_characters (unknown s))
value_tree (geo la lo) = arr (num (write_float la) ∷ num (write_float lo) ∷ [])
value_tree (request_status c d x) = arr (str c ∷ str d ∷ data_tree x)

-- ---- parameters, properties, components

abbrev pub parameter_member : Parameter → Member
parameter_member p = record { name = lower p.name; value = one_or_arr (map (λ v. str (parameter_value v)) p.values) }

-- the elements of a property's array
abbrev pub property_elements : Property → List Json
property_elements p = str (lower p.name) ∷ obj (map parameter_member p.parameters) ∷ str (lower (type_name (type_of_all p.values))) ∷ map value_tree p.values

abbrev pub property_tree : Property → Json
property_tree p = arr (property_elements p)

unfoldable pub components_tree : Components → Elements
components_tree no_more = no_elements
components_tree (component n ps inner next) =
    element (array 0 0 (element (str (lower n)) (element (arr (map property_tree ps)) (element (array 0 0 (components_tree inner)) no_elements)))) (components_tree next)

-- one alone, or an array
abbrev pub alone : Elements → Json
alone no_elements = array 0 0 no_elements
alone (element v no_elements) = v
alone (element v (element w vs)) = array 0 0 (element v (element w vs))

abbrev pub calendar_tree : Components → Json
calendar_tree c = alone (components_tree c)

-- ---- written

elements_written : {A : Type 0} (f : A → Json) (g : A → List ℕ) → ((a : A) → written (f a) ≡ g a) → (l : List A) → written_elements (to_elements (map f l)) ≡ map g l
unfolding written_elements to_elements
elements_written f g h [] = refl
elements_written f g h (a ∷ l) = rw (h a, elements_written f g h l)

members_written : {A : Type 0} (f : A → Member) (g : A → List ℕ) → ((a : A) → member_of (f a).name (written (f a).value) ≡ g a) → (l : List A) → written_members (to_members (map f l)) ≡ map g l
unfolding written_members to_members
members_written f g h [] = refl
members_written f g h (a ∷ l) = rw (h a, members_written f g h l)

one_written : {A : Type 0} (f : A → Json) (g : A → List ℕ) → ((a : A) → written (f a) ≡ g a) → (l : List A) → written (one_or_arr (map f l)) ≡ one_or_array (map g l)
unfolding written written_elements to_elements
one_written f g h [] = refl
one_written f g h (a ∷ []) = h a
one_written f g h (a ∷ b ∷ l) = ap array_of (rw (h a, h b, elements_written f g h l))

item_written : (i : RuleItem) → written (item_tree i) ≡ item_json i
unfolding written
item_written (moment m) = refl
item_written (number w) = refl
item_written (word w) = refl
item_written (weekday o d) = refl

part_written : (p : RulePart) → member_of (part_member p).name (written (part_member p).value) ≡ part_json p
part_written p = ap (member_of (lower p.part)) (one_written item_tree item_json item_written p.items)

value_written : (v : Value) → written (value_tree v) ≡ value_json v
unfolding written written_elements to_elements value_tree value_json
value_written (binary s) = refl
value_written (boolean b) = refl
value_written (cal_address s) = refl
value_written (date s) = refl
value_written (date_time s) = refl
value_written (duration s) = refl
value_written (float d) = refl
value_written (integer w) = refl
value_written (period_explicit s e) = refl
value_written (period_start s d) = refl
value_written (recur ps) = ap object_of (members_written part_member part_json part_written ps)
value_written (text s) = refl
value_written (time s) = refl
value_written (uri s) = refl
value_written (utc_offset s) = refl
value_written (unknown s) = refl
value_written (geo la lo) = refl
value_written (request_status c d None) = refl
value_written (request_status c d (Some x)) = refl

parameter_written : (p : Parameter) → member_of (parameter_member p).name (written (parameter_member p).value) ≡ parameter_json p
unfolding parameter_json written
parameter_written p = ap (member_of (lower p.name)) (one_written (λ v. str (parameter_value v)) _ (λ v. refl) p.values)

property_written : (p : Property) → written (property_tree p) ≡ property_json p
unfolding written written_elements to_elements property_json
property_written p = ap array_of (rw (members_written parameter_member parameter_json parameter_written p.parameters, elements_written value_tree value_json value_written p.values))

components_written : (c : Components) → written_elements (components_tree c) ≡ components_json c
unfolding written written_elements components_tree components_json
components_written no_more = refl
components_written (component n ps inner next) = rw (elements_written property_tree property_json property_written ps, components_written inner, components_written next)

alone-written : (vs : Elements) → written (alone vs) ≡ one_or_array (written_elements vs)
unfolding written written_elements
alone-written no_elements = refl
alone-written (element v no_elements) = refl
alone-written (element v (element w vs)) = refl

pub calendar_written : (c : Components) → written (calendar_tree c) ≡ write_jcal c
unfolding write_jcal
calendar_written c = rw (alone-written (components_tree c), components_written c)
