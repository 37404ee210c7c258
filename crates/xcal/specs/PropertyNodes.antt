-- The element of a property (RFC 6321, section 3.4): what it states, and where it is refused.
--     property_verdict    the verdict on a property's element
--     properties_verdict  the verdict on the children of `properties`
--     property_in         the property that an element states;   read_properties: the properties of the children
use Rattle.std.specs.Prelude.{Bool, true, false, not, List, [], ◌∷◌, ℕ, Option, None, Some}
use Rattle.octets.specs.Ascii.{ascii}
use Rattle.octets.specs.Pick.{pick, ◌and◌, ◌or◌}
use Rattle.octets.specs.Class.{upper, is_space}
use Rattle.octets.specs.Words.{same}
use Rattle.calendar.specs.Calendar.{ValueType, BINARY, Property}
use Rattle.calendar.specs.Refusal.{NAME, FRAME, PARAMETER, Verdict, fine, refuse, ◌otherwise◌}
use Rattle.schema.specs.Types.{same_type}
use Rattle.schema.specs.Components.{may_stand}
use Rattle.schema.specs.Properties.{is_known_property}
use Rattle.edition.specs.declared.Edition.{Edition}
use Rattle.read_text_line.specs.Names.{is_carried_name}
use Rattle.xml.specs.Nodes.{Nodes, no_nodes, element, literal, referred}
use Rattle.xcal.specs.Layout.{has_capital, Slot, sequence, slot_of}
use Rattle.xcal.specs.ValueNodes.{may, value_slots, type_of_nodes, value_verdict, read_value_nodes}
use Rattle.xcal.specs.ParameterNodes.{has_encoding, parameters_verdict, read_parameter_nodes}

-- names that no property element has: with capitals, beginning with xml, `begin`, `end`
abbrev pub bad_name : List ℕ → Bool
bad_name m = has_capital m or not (is_carried_name m) or same m (ascii "begin") or same m (ascii "end")

-- the children of a property: `parameters`, if it has any, and then its value
abbrev pub property_slots : List ℕ → List Slot
property_slots n = may (ascii "parameters") ∷ value_slots n

-- the children of the `parameters` that stands in its place, before any part of the value
abbrev pub still_before : Option (ℕ × Bool) → Bool
still_before None = true
still_before (Some x) = false

unfoldable pub parameters_in : List ℕ → Nodes → Nodes
parameters_in n no_nodes = no_nodes
parameters_in n (literal p b more) = parameters_in n more
parameters_in n (referred p bs more) = parameters_in n more
parameters_in n (element p m x kids more) =
    pick (same m (ascii "parameters")) kids (pick (still_before (slot_of m (value_slots n) 0)) (parameters_in n more) no_nodes)

-- a child of the property n in a component k
abbrev pub child_verdict : Edition → List ℕ → List ℕ → ValueType → ℕ → List ℕ → ℕ → Nodes → Verdict
child_verdict ed k n t p m x kids = pick (same m (ascii "parameters")) (parameters_verdict ed n t kids []) (value_verdict k n t p m x kids)

-- refusal 7 at the property's own tag: a value of type BINARY with no ENCODING
abbrev pub lacks_encoding : List ℕ → Nodes → Bool
lacks_encoding n kids = same_type (type_of_nodes n kids) BINARY and not (has_encoding (parameters_in n kids))

-- the element m, at the tags p and x, in a component k
unfoldable pub property_verdict : Edition → List ℕ → ℕ → List ℕ → ℕ → Nodes → Verdict
property_verdict ed k p m x kids =
    pick (bad_name m) (refuse NAME p)
    (pick (is_known_property (upper m) and not (may_stand k (upper m))) (refuse FRAME p)
    (pick (lacks_encoding (upper m) kids) (refuse PARAMETER p)
    (sequence (property_slots (upper m)) (child_verdict ed k (upper m) (type_of_nodes (upper m) kids)) kids 0 [] x)))

unfoldable pub properties_verdict : Edition → List ℕ → Nodes → Verdict
properties_verdict ed k no_nodes = fine
properties_verdict ed k (literal p b more) = pick (is_space b) (properties_verdict ed k more) (refuse FRAME p)
properties_verdict ed k (referred p bs more) = refuse FRAME p
properties_verdict ed k (element p m x kids more) = property_verdict ed k p m x kids otherwise properties_verdict ed k more

-- ---- what they state

-- the property that the element m with these children states
abbrev pub property_in : List ℕ → Nodes → Property
property_in m kids = record { name = upper m; parameters = read_parameter_nodes (parameters_in (upper m) kids); values = read_value_nodes (upper m) kids }

unfoldable pub read_properties : Nodes → List Property
read_properties no_nodes = []
read_properties (literal p b more) = read_properties more
read_properties (referred p bs more) = read_properties more
read_properties (element p m x kids more) = property_in m kids ∷ read_properties more
