-- The arrays of components in jCal (RFC 7265, sections 3.2 and 3.3): a component's name, its properties, its subcomponents.
--     component_fault may left vs          NAME or FRAME, where the array of these elements has it: a component's name passes the test `may`, and so many levels are left
--     components_verdict ed vs may left m  the verdict, in an edition, on components whose names pass a test, in a calendar with METHOD or, where m is false, without
--     read_components vs                   the components that they state;   read_calendars: without what stands too deep
--     calendars_in v                       the calendars of a text: of one outer array, known by beginning with an array, its elements; else the text's value alone
use Rattle.std.specs.Prelude.{Bool, not, List, [], ◌∷◌, map, ℕ, zero, suc, ◌-◌, eqb, ltb, length, Option, None, Some}
use Rattle.octets.specs.Pick.{pick, ◌and◌}
use Rattle.octets.specs.Class.{upper}
use Rattle.octets.specs.Words.{is_empty}
use Rattle.octets.specs.Reading.{and_then, is_read, read_or}
use Rattle.calendar.specs.Calendar.{Property, Components, no_more, component}
use Rattle.calendar.specs.Levels.{levels, shallow}
use Rattle.calendar.specs.Refusal.{Refusal, NAME, FRAME, COUNT, Verdict, fine, refuse, ◌otherwise◌}
use Rattle.schema.specs.Components.{may_contain}
use Rattle.schema.specs.Counts.{method_for, complete}
use Rattle.edition.specs.declared.Edition.{Edition}
use Rattle.json_text.specs.Tree.{Json, string, number, literal, array, object, Elements, no_elements, element, place_of, element_list}
use Rattle.json_text.specs.Kinds.{as_array, first_in, nth}
use Rattle.jcal.specs.Property.{name_in, is_bad_name, passes, property_fault, property_of}

-- a refusal at a place
abbrev pub at : ℕ → Option Refusal → Verdict
at p None = fine
at p (Some r) = refuse r p

-- ---- the properties of a component k

abbrev pub property_verdict : Edition → List ℕ → Json → Option (List Json) → Verdict
property_verdict ed k v None = refuse FRAME (place_of v)
property_verdict ed k v (Some vs) = at (place_of v) (property_fault ed k vs)

unfoldable pub properties_verdict : Edition → List ℕ → List Json → Verdict
properties_verdict ed k [] = fine
properties_verdict ed k (v ∷ vs) = property_verdict ed k v (as_array v) otherwise properties_verdict ed k vs

-- ---- the elements of a component

abbrev pub component_name : List Json → List ℕ
component_name vs = upper (read_or [] (name_in vs))

abbrev pub property_arrays : List Json → Option (List Json)
property_arrays vs = and_then (nth 1 vs) as_array

abbrev pub component_arrays : List Json → Option (List Json)
component_arrays vs = and_then (nth 2 vs) as_array

abbrev pub read_properties : List Json → List Property
read_properties vs = map (λ v. property_of (component_name vs) (read_or [] (as_array v))) (read_or [] (property_arrays vs))

-- three elements: a name, an array of properties, an array of components
abbrev pub is_component : List Json → Bool
is_component vs = is_read (name_in vs) and is_read (property_arrays vs) and is_read (component_arrays vs) and eqb (length vs) 3

unfoldable pub component_fault : (List ℕ → Bool) → ℕ → List Json → Option Refusal
component_fault may left vs =
    pick (passes is_bad_name (name_in vs)) (Some NAME)
    (pick (is_component vs and may (component_name vs) and ltb 0 left) None (Some FRAME))

-- whether METHOD stands in the calendar of what is inside
abbrev pub method_inside : List Json → Bool → Bool
method_inside vs m = method_for (component_name vs) (read_properties vs) m

abbrev pub is_complete : List Json → Bool → Bool
is_complete vs m =
    complete (component_name vs) (read_properties vs) (record { inner = not (is_empty (read_or [] (component_arrays vs))); method = m })

-- ---- the verdict on components

unfoldable mutual
  pub components_verdict : Edition → Elements → (List ℕ → Bool) → ℕ → Bool → Verdict
  components_verdict ed no_elements may left m = fine
  components_verdict ed (element v vs) may left m = component_verdict ed v may left m otherwise components_verdict ed vs may left m

  pub component_verdict : Edition → Json → (List ℕ → Bool) → ℕ → Bool → Verdict
  component_verdict ed (string p s) may left m = refuse FRAME p
  component_verdict ed (number p s) may left m = refuse FRAME p
  component_verdict ed (literal p s) may left m = refuse FRAME p
  component_verdict ed (object p e ms) may left m = refuse FRAME p
  component_verdict ed (array p e vs) may left m =
      at p (component_fault may left (element_list vs))
      otherwise properties_verdict ed (component_name (element_list vs)) (read_or [] (property_arrays (element_list vs)))
      otherwise inner_verdict ed vs 2 (may_contain (component_name (element_list vs))) (left - 1) (method_inside (element_list vs) m)
      otherwise pick (is_complete (element_list vs) m) fine (refuse COUNT e)

  -- element k of an array, the array of subcomponents
  pub inner_verdict : Edition → Elements → ℕ → (List ℕ → Bool) → ℕ → Bool → Verdict
  inner_verdict ed no_elements k may left m = fine
  inner_verdict ed (element v vs) zero may left m = array_verdict ed v may left m
  inner_verdict ed (element v vs) (suc k) may left m = inner_verdict ed vs k may left m

  pub array_verdict : Edition → Json → (List ℕ → Bool) → ℕ → Bool → Verdict
  array_verdict ed (string p s) may left m = fine
  array_verdict ed (number p s) may left m = fine
  array_verdict ed (literal p s) may left m = fine
  array_verdict ed (object p e ms) may left m = fine
  array_verdict ed (array p e vs) may left m = components_verdict ed vs may left m

-- ---- what they state

unfoldable mutual
  pub read_components : Elements → Components
  read_components no_elements = no_more
  read_components (element v vs) =
      component (component_name (read_or [] (as_array v))) (read_properties (read_or [] (as_array v))) (read_inside v) (read_components vs)

  -- in the array of a component
  pub read_inside : Json → Components
  read_inside (string p s) = no_more
  read_inside (number p s) = no_more
  read_inside (literal p s) = no_more
  read_inside (object p e ms) = no_more
  read_inside (array p e vs) = read_inner vs 2

  pub read_inner : Elements → ℕ → Components
  read_inner no_elements k = no_more
  read_inner (element v vs) zero = read_array v
  read_inner (element v vs) (suc k) = read_inner vs k

  pub read_array : Json → Components
  read_array (string p s) = no_more
  read_array (number p s) = no_more
  read_array (literal p s) = no_more
  read_array (object p e ms) = no_more
  read_array (array p e vs) = read_components vs

-- what stands too deep counts as nothing
abbrev pub read_calendars : Elements → Components
read_calendars vs = shallow levels (read_components vs)

-- ---- 3.2: one calendar, or a stream of them

abbrev pub stream_in : Json → Elements
stream_in (string p s) = no_elements
stream_in (number p s) = no_elements
stream_in (literal p s) = no_elements
stream_in (object p e ms) = no_elements
stream_in (array p e vs) = vs

abbrev pub is_stream : Json → Bool
is_stream v = is_read (and_then (first_in (element_list (stream_in v))) as_array)

unfoldable pub calendars_in : Json → Elements
calendars_in v = pick (is_stream v) (stream_in v) (element v no_elements)
