-- The array of a property in jCal (RFC 7265, section 3.4): its name, its parameters, the type of its value, and one value or more.
--     property_fault ed k vs   the lowest refusal among NAME, FRAME, PARAMETER and VALUE that the array of these elements has in a component k, read in an edition
--     property_of k vs         the property that it states
use Rattle.std.specs.Prelude.{Bool, false, not, List, [], ℕ, drop, Option, None, Some}
use Rattle.octets.specs.Ascii.{ascii}
use Rattle.octets.specs.Pick.{pick, ◌and◌, ◌or◌}
use Rattle.octets.specs.Class.{upper, lower}
use Rattle.octets.specs.Words.{same}
use Rattle.octets.specs.Lists.{any_one}
use Rattle.octets.specs.Reading.{and_then, is_read, read_or}
use Rattle.calendar.specs.Calendar.{ValueType, TEXT, UNKNOWN, Property}
use Rattle.calendar.specs.Refusal.{Refusal, NAME, FRAME, PARAMETER, VALUE}
use Rattle.schema.specs.Types.{type_named}
use Rattle.schema.specs.Components.{may_stand}
use Rattle.schema.specs.Properties.{is_known_property, is_listed_property}
use Rattle.edition.specs.declared.Edition.{Edition}
use Rattle.read_text_line.specs.ContentLine.{is_name}
use Rattle.read_text_line.specs.Names.{is_carried_name}
use Rattle.values.specs.Valid.{is_amount}
use Rattle.json_text.specs.Tree.{Json, Member}
use Rattle.json_text.specs.Kinds.{as_string, as_object, nth}
use Rattle.jcal.specs.Parameters.{read_parameters, parameters_good}
use Rattle.jcal.specs.Values.{read_values}

-- ---- its elements

abbrev pub name_in : List Json → Option (List ℕ)
name_in vs = and_then (nth 0 vs) as_string

abbrev pub parameters_in : List Json → Option (List Member)
parameters_in vs = and_then (nth 1 vs) as_object

-- a type identifier of RFC 7265: one of the fourteen of RFC 5545 in small letters, or `unknown` (section 5)
abbrev pub type_of : List ℕ → Option ValueType
type_of n = pick (same n (ascii "unknown")) (Some UNKNOWN) (pick (same n (lower n)) (type_named (upper n)) None)

abbrev pub type_in : List Json → Option ValueType
type_in vs = and_then (and_then (nth 2 vs) as_string) type_of

abbrev pub values_in : List Json → List Json
values_in vs = drop 3 vs

abbrev pub property_name : List Json → List ℕ
property_name vs = upper (read_or [] (name_in vs))

abbrev pub member_list : List Json → List Member
member_list vs = read_or [] (parameters_in vs)

abbrev pub value_type_of : List Json → ValueType
value_type_of vs = read_or TEXT (type_in vs)

-- ---- 5: names that can't be carried

-- no name, with capitals, or beginning with a digit, a hyphen or xml
abbrev pub is_bad_name : List ℕ → Bool
is_bad_name m = not (is_name m) or not (same m (lower m)) or not (is_carried_name m)

abbrev pub is_bad_property : List ℕ → Bool
is_bad_property m = is_bad_name m or same m (ascii "begin") or same m (ascii "end")

abbrev pub is_bad_parameter : Member → Bool
is_bad_parameter m = is_bad_name m.name or same m.name (ascii "value")

-- there is one, and it passes a test
abbrev pub passes : {A : Type 0} → (A → Bool) → Option A → Bool
passes f None = false
passes f (Some a) = f a

unfoldable pub names_bad : List Json → Bool
names_bad vs = passes is_bad_property (name_in vs) or any_one is_bad_parameter (member_list vs)

-- ---- 6: elements that are missing, surplus or wrong; a known property stands where the schema lists it

unfoldable pub is_shaped : List ℕ → List Json → Bool
is_shaped k vs =
    is_read (name_in vs) and is_read (parameters_in vs) and is_read (type_in vs)
    and is_amount (is_listed_property (property_name vs)) (values_in vs)
    and (not (is_known_property (property_name vs)) or may_stand k (property_name vs))

-- ---- the verdict

unfoldable pub property_fault : Edition → List ℕ → List Json → Option Refusal
property_fault ed k vs =
    pick (names_bad vs) (Some NAME)
    (pick (not (is_shaped k vs)) (Some FRAME)
    (pick (not (parameters_good ed (property_name vs) (value_type_of vs) (member_list vs))) (Some PARAMETER)
    (pick (is_read (read_values k (property_name vs) (value_type_of vs) (values_in vs))) None (Some VALUE))))

-- what is not read counts as nothing here: such an array is refused
unfoldable pub property_of : List ℕ → List Json → Property
property_of k vs = record {
  name = property_name vs;
  parameters = read_or [] (read_parameters (member_list vs));
  values = read_or [] (read_values k (property_name vs) (value_type_of vs) (values_in vs));
}
