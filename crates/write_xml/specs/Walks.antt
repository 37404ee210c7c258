-- What is written of the entries of a component, one by one.
--     own_xml k es     the XML of the properties of a component k, of which es are the entries behind its BEGIN;   inner_xml l es: that of its subcomponents, l levels deep
use Rattle.std.specs.Prelude.{List, ℕ}
use Rattle.calendar.specs.Levels.{shallow}
use Rattle.text.specs.Tree.{Entry, own_of, inner_of}
use Rattle.xcal.specs.WriteXml.{properties_xml, components_xml}

abbrev pub own_xml : List ℕ → List Entry → List ℕ
own_xml k es = properties_xml (own_of k es 0)

abbrev pub inner_xml : ℕ → List Entry → List ℕ
inner_xml l es = components_xml (shallow l (inner_of es 0))
