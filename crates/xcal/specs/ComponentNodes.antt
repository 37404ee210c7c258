-- The elements of components, up to the root (RFC 6321, sections 3.2 and 3.3): what they state, and where they are refused.
--     components_verdict, component_verdict  the verdict on the children of `components`, and of a component
--     root_verdict                           the verdict on the root element
--     read_components, read_calendars        the components that elements state, and the calendars of the root's children
use Rattle.std.specs.Prelude.{Bool, true, false, not, List, ℕ, ◌-◌, ltb}
use Rattle.octets.specs.Ascii.{ascii}
use Rattle.octets.specs.Pick.{pick, ◌and◌, ◌or◌}
use Rattle.octets.specs.Class.{upper, is_space}
use Rattle.octets.specs.Words.{same, is_empty}
use Rattle.calendar.specs.Calendar.{Components, no_more, component}
use Rattle.calendar.specs.Levels.{levels, shallow}
use Rattle.calendar.specs.Refusal.{NAME, FRAME, COUNT, Verdict, fine, refuse, ◌otherwise◌}
use Rattle.schema.specs.Components.{subcomponents_of, may_contain}
use Rattle.schema.specs.Counts.{Around, method_for, complete}
use Rattle.edition.specs.declared.Edition.{Edition}
use Rattle.read_text_line.specs.Names.{is_carried_name}
use Rattle.xml.specs.Nodes.{Nodes, no_nodes, element, literal, referred, has_element}
use Rattle.xcal.specs.Layout.{has_capital, unexpected}
use Rattle.xcal.specs.PropertyNodes.{properties_verdict, read_properties}

-- the children of the first child of a name
unfoldable pub inside_of : List ℕ → Nodes → Nodes
inside_of n no_nodes = no_nodes
inside_of n (literal p b more) = inside_of n more
inside_of n (referred p bs more) = inside_of n more
inside_of n (element p m x kids more) = pick (same m n) kids (inside_of n more)

-- the counts of a component with these children are as they must be; m says whether the calendar round it has METHOD
abbrev pub is_complete : List ℕ → Bool → Nodes → Bool
is_complete k m kids =
    complete k (read_properties (inside_of (ascii "properties") kids)) (record { inner = has_element (inside_of (ascii "components") kids); method = m })

-- what has come of a component's two children, and whether METHOD has come of the calendar that its subcomponents stand in
pub record Come : Type 0 where
  pub properties : Bool
  pub components : Bool
  pub method : Bool

abbrev pub nothing_come : Bool → Come
nothing_come m = record { properties = false; components = false; method = m }

-- at a component's end tag: `properties` must have come, and in VCALENDAR `components`; then the counts
unfoldable pub end_of_component : List ℕ → Bool → Come → ℕ → Verdict
end_of_component k counts c e =
    pick (not c.properties or (same k (ascii "VCALENDAR") and not c.components)) (refuse FRAME e)
    (pick counts fine (refuse COUNT e))

-- at the end tag of `components`: it may be empty in VCALENDAR; in VTIMEZONE the count refuses that
unfoldable pub end_of_components : List ℕ → Bool → ℕ → Verdict
end_of_components k any e = pick (any or same k (ascii "VCALENDAR") or same k (ascii "VTIMEZONE")) fine (refuse FRAME e)

-- names that no component's element has: with capitals, beginning with xml
abbrev pub bad_component : List ℕ → Bool
bad_component m = has_capital m or not (is_carried_name m)

-- an element that is no component here
abbrev pub no_component : ℕ → List ℕ → Verdict
no_component p m = pick (bad_component m) (refuse NAME p) (refuse FRAME p)

unfoldable mutual
  -- the children of a component k, with so many levels left in it: counts says whether its properties and subcomponents are as often as they must; e is its end tag
  pub component_verdict : Edition → Nodes → List ℕ → ℕ → Bool → Come → ℕ → Verdict
  component_verdict ed no_nodes k left counts c e = end_of_component k counts c e
  component_verdict ed (literal p b more) k left counts c e = pick (is_space b) (component_verdict ed more k left counts c e) (refuse FRAME p)
  component_verdict ed (referred p bs more) k left counts c e = refuse FRAME p
  component_verdict ed (element p m x kids more) k left counts c e =
      pick (same m (ascii "properties") and not c.properties and not c.components)
      (properties_verdict ed k kids otherwise
      component_verdict ed more k left counts (record { properties = true; components = false; method = method_for k (read_properties kids) c.method }) e)
      (pick (same m (ascii "components") and not c.components and not (is_empty (subcomponents_of k)))
      (components_verdict ed kids k left c.method false x otherwise
      component_verdict ed more k left counts (record { properties = c.properties; components = true; method = c.method }) e)
      (unexpected p m))

  -- the children of `components` in a component k; method says whether the calendar has METHOD; any, whether one has come; e is the end tag of `components`
  pub components_verdict : Edition → Nodes → List ℕ → ℕ → Bool → Bool → ℕ → Verdict
  components_verdict ed no_nodes k left method any e = end_of_components k any e
  components_verdict ed (literal p b more) k left method any e = pick (is_space b) (components_verdict ed more k left method any e) (refuse FRAME p)
  components_verdict ed (referred p bs more) k left method any e = refuse FRAME p
  components_verdict ed (element p m x kids more) k left method any e =
      pick (not (bad_component m) and may_contain k (upper m) and ltb 0 left)
      (component_verdict ed kids (upper m) (left - 1) (is_complete (upper m) method kids) (nothing_come method) x otherwise
      components_verdict ed more k left method true e)
      (no_component p m)

-- ---- the root

-- the children of `icalendar`: one or more `vcalendar`
unfoldable pub stream_verdict : Edition → Nodes → Bool → ℕ → Verdict
stream_verdict ed no_nodes any e = pick any fine (refuse FRAME e)
stream_verdict ed (literal p b more) any e = pick (is_space b) (stream_verdict ed more any e) (refuse FRAME p)
stream_verdict ed (referred p bs more) any e = refuse FRAME p
stream_verdict ed (element p m x kids more) any e =
    pick (same m (ascii "vcalendar"))
    (component_verdict ed kids (ascii "VCALENDAR") (levels - 1) (is_complete (ascii "VCALENDAR") false kids) (nothing_come false) x otherwise
    stream_verdict ed more true e)
    (no_component p m)

unfoldable pub root_verdict : Edition → Nodes → Verdict
root_verdict ed no_nodes = fine
root_verdict ed (literal p b more) = fine
root_verdict ed (referred p bs more) = fine
root_verdict ed (element p m x kids more) = pick (same m (ascii "icalendar")) (stream_verdict ed kids false x) (unexpected p m)

-- ---- what they state

unfoldable mutual
  pub read_components : Nodes → Components
  read_components no_nodes = no_more
  read_components (literal p b more) = read_components more
  read_components (referred p bs more) = read_components more
  read_components (element p m x kids more) =
      component (upper m) (read_properties (inside_of (ascii "properties") kids)) (read_inner kids) (read_components more)

  -- what stands in the `components` of a component
  pub read_inner : Nodes → Components
  read_inner no_nodes = no_more
  read_inner (literal p b more) = read_inner more
  read_inner (referred p bs more) = read_inner more
  read_inner (element p m x kids more) = pick (same m (ascii "components")) (read_components kids) (read_inner more)

-- what stands too deep counts as nothing
abbrev pub read_calendars : Nodes → Components
read_calendars ns = shallow levels (read_components ns)

unfoldable pub read_root : Nodes → Components
read_root no_nodes = no_more
read_root (literal p b more) = no_more
read_root (referred p bs more) = no_more
read_root (element p m x kids more) = read_calendars kids
