-- What is written of the entries of a component, one by one.
--     own_json k es    the arrays of the properties of a component k, of which es are the entries behind its BEGIN;   inner_json l es: those of its subcomponents, l levels deep
--     name_json, head_json  what stands in a component's array before its properties, and before its subcomponents
use Rattle.std.specs.Prelude.{List, map, ℕ}
use Rattle.octets.specs.Ascii.{ascii}
use Rattle.octets.specs.Append.{◌⊕◌}
use Rattle.octets.specs.Class.{lower}
use Rattle.octets.specs.Words.{joined_by}
use Rattle.calendar.specs.Levels.{shallow}
use Rattle.text.specs.Tree.{Entry, own_of, inner_of}
use Rattle.json_text.specs.Bytes.{value_separator}
use Rattle.json_text.specs.Write.{quoted}
use Rattle.jcal.specs.WriteJcal.{property_json, components_json}

abbrev pub own_json : List ℕ → List Entry → List (List ℕ)
own_json k es = map property_json (own_of k es 0)

abbrev pub inner_json : ℕ → List Entry → List (List ℕ)
inner_json l es = components_json (shallow l (inner_of es 0))

-- n is the name as it stands
abbrev pub name_json : List ℕ → List ℕ
name_json n = ascii "[" ⊕ quoted (lower n) ⊕ ascii ",["

abbrev pub head_json : List ℕ → List Entry → List ℕ
head_json n es = name_json n ⊕ joined_by value_separator (own_json n es) ⊕ ascii "],["
