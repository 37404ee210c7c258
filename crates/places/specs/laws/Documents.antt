-- A document is refused at a place within it, or at its end: properties, components and the root, then the whole.
--     properties_within    the children of `properties`
--     component_within, components_within    the children of a component, and of `components`
--     root_within          the root
--     document_place       a refusal's place is at most the document's length
use Rattle.std.specs.Prelude.{◌≡◌, Bool, false, ℕ, ◌-◌, ◌≤◌, Option, None, Some}
use Rattle.std.proofs.Math.Path.{refl}
use Rattle.std.proofs.Math.Bool.{true}
use mathlib.Core.List.{List, []}
use native.Mathlib.Omega.{arith}
use Rattle.std.proofs.Math.ListN.{length}
use Rattle.octets.specs.Class.{upper}
use Rattle.calendar.specs.Calendar.{ValueType}
use Rattle.calendar.specs.Refusal.{CHARACTER, Refusal, refuse, characters}
use Rattle.utf8.specs.Utf8.{first_bad}
use Rattle.utf8.specs.laws.Utf8.{bad_inside}
use Rattle.xml.specs.Nodes.{Nodes, no_nodes, element, literal, referred, document_nodes}
use Rattle.xcal.specs.ValueNodes.{type_of_nodes}
use Rattle.xcal.specs.PropertyNodes.{property_slots, child_verdict, property_verdict, properties_verdict}
use Rattle.xcal.specs.ComponentNodes.{Come, is_complete, nothing_come, end_of_component, end_of_components, component_verdict, components_verdict, stream_verdict, root_verdict}
use Rattle.xcal.specs.ReadDocument.{document_verdict}
use Rattle.edition.specs.declared.Edition.{Edition}
use Rattle.places.specs.laws.Bounds.{Within, within_fine, within_refuse, bounding, Inside}
use Rattle.places.specs.laws.Marks.{document_inside, xml_within}
use Rattle.places.specs.laws.Values.{Judges, sequence_within, value_within, parameters_within}

-- ---- the document

pub characters_within : (s : List ℕ) (o : Option ℕ) → first_bad s ≡ o → Within (length s) (characters o)
characters_within s None e = within_fine (length s)
characters_within s (Some p) e = within_refuse (length s) CHARACTER p (omega (arith, bad_inside s p e))

module _ (ed : Edition) where
  module _ (n : ℕ) where
    -- ---- properties

    child_within : (k m : List ℕ) (t : ValueType) → Judges n (child_verdict ed k m t)
    child_within k m t p q x kids h l i = search (bounding, parameters_within ed, value_within ed)

    property_within : (k : List ℕ) → Judges n (property_verdict ed k)
    unfolding property_verdict
    property_within k p m x kids h l i =
        let t : ValueType = type_of_nodes (upper m) kids in
        let a = sequence_within ed n (property_slots (upper m)) (child_verdict ed k (upper m) t) (child_within k (upper m) t) kids 0 [] x i l in
        search bounding

    pub properties_within : (k : List ℕ) (ns : Nodes) → Inside n ns → Within n (properties_verdict ed k ns)
    unfolding properties_verdict
    properties_within k no_nodes i = within_fine n
    properties_within k (literal p b more) i = let ih = properties_within k more i.1 in search bounding
    properties_within k (referred p bs more) i = search bounding
    properties_within k (element p m x kids more) i = let ih = properties_within k more i.3 in search (bounding, property_within)

    -- ---- components

    mutual
      unfolding component_verdict end_of_component end_of_components

      pub component_within : (ns : Nodes) (k : List ℕ) (l : ℕ) (counts : Bool) (c : Come) (e : ℕ) → Inside n ns → e ≤ n → Within n (component_verdict ed ns k l counts c e)
      component_within no_nodes k l counts c e i h = search bounding
      component_within (literal p b more) k l counts c e i h = let ih = component_within more k l counts c e i.1 h in search bounding
      component_within (referred p bs more) k l counts c e i h = search bounding
      component_within (element p m x kids more) k l counts c e i h =
          let inner = components_within kids k l c.method false x i.2 i.1 in
          let ih : (d : Come) → Within n (component_verdict ed more k l counts d e) = λ d. component_within more k l counts d e i.3 h in
          search (bounding, properties_within)

      pub components_within : (ns : Nodes) (k : List ℕ) (l : ℕ) (method any : Bool) (e : ℕ) → Inside n ns → e ≤ n → Within n (components_verdict ed ns k l method any e)
      components_within no_nodes k l method any e i h = search bounding
      components_within (literal p b more) k l method any e i h = let ih = components_within more k l method any e i.1 h in search bounding
      components_within (referred p bs more) k l method any e i h = search bounding
      components_within (element p m x kids more) k l method any e i h =
          let inner = component_within kids (upper m) (l - 1) (is_complete (upper m) method kids) (nothing_come method) x i.2 i.1 in
          let ih = components_within more k l method true e i.3 h in
          search bounding

    -- ---- the root

    stream_within : (ns : Nodes) (any : Bool) (e : ℕ) → Inside n ns → e ≤ n → Within n (stream_verdict ed ns any e)
    unfolding stream_verdict
    stream_within no_nodes any e i h = search bounding
    stream_within (literal p b more) any e i h = let ih = stream_within more any e i.1 h in search bounding
    stream_within (referred p bs more) any e i h = search bounding
    stream_within (element p m x kids more) any e i h = let ih = stream_within more true e i.3 h in search (bounding, component_within)

    pub root_within : (ns : Nodes) → Inside n ns → Within n (root_verdict ed ns)
    unfolding root_verdict
    root_within no_nodes i = within_fine n
    root_within (literal p b more) i = within_fine n
    root_within (referred p bs more) i = within_fine n
    root_within (element p m x kids more) i = search (bounding, stream_within)

  document_within : (s : List ℕ) → Within (length s) (document_verdict ed s)
  unfolding document_verdict
  document_within s =
      let c = characters_within s (first_bad s) refl in
      let r = root_within (length s) (document_nodes s) (document_inside s) in
      let z : 0 ≤ length s = omega arith in
      search (bounding, xml_within)

  pub document_place : (s : List ℕ) {r : Refusal} {p : ℕ} → document_verdict ed s ≡ refuse r p → p ≤ length s
  document_place s {r} {p} e = (document_within s).place r p e
