-- Laws of what specs/Roots.antt defines.
--     Streaming     the invariant of the walk over calendars;   streaming: the rules
--     roots         the rules of the root
use Rattle.std.specs.Prelude.{◌≡◌, refl, Bool, true, false, List, ℕ, take, ⊤, Result, Ok, Err}
use Rattle.std.proofs.Common.{ap, ◌∙◌, length-take-le, rules}
use Rattle.octets.specs.Ascii.{ascii}
use Rattle.octets.specs.Pick.{pick}
use Rattle.octets.specs.Class.{is_space}
use Rattle.octets.specs.Words.{same}
use Rattle.octets.specs.Computing.{octets_compute}
use Rattle.source.specs.Source.{rest}
use Rattle.names.specs.Table.{place_of}
use Rattle.calendar.specs.Refusal.{◌otherwise◌}
use Rattle.schema.specs.Components.{component_names}
use Rattle.xml.specs.Nodes.{Nodes}
use Rattle.xcal.specs.Layout.{unexpected}
use Rattle.xcal.specs.ComponentNodes.{no_component, stream_verdict, root_verdict}
use Rattle.xml.specs.NodesAt.{nodes_at}
use Rattle.read_xml_nodes.specs.NodeFound.{NodeAt}
use Rattle.read_xml_nodes.specs.laws.NodeFound.{node_none, node_element, node_literal, node_referred, element_less, literal_less}
use Rattle.read_xml_nodes.specs.Elements.{name_at}
use Rattle.refusals.specs.Fault.{fault_at, judged_as}
use Rattle.refusals.specs.declared.Refusal.TheVariants.{Frame}
use Rattle.refusals.specs.declared.Fault.{Fault}
use Rattle.read_xml_nodes.specs.declared.Element.{Element as ElementAt}
use Rattle.read_xml_nodes.specs.declared.Node.{Node}
use Rattle.read_xml_nodes.specs.declared.NodeKind.TheVariants.{Absent, Element, Literal, Referred}
use Rattle.edition.specs.declared.Edition.{Edition}
use Rattle.read_xml.specs.laws.Turning.{name_inside}
use Rattle.read_xml.specs.Subcomponents.{ComponentAt}
use Rattle.read_xml.specs.Roots.{StreamAt, RootAt}

calendar_zero : 0 ≡ place_of (ascii "VCALENDAR") component_names
unfolding octets_compute place_of
calendar_zero = refl

module _ (ed : Edition) where
  -- ---- the children of `icalendar`

  pub record Streaming (s : List ℕ) (from e at : ℕ) (any : Bool) : Type 0 where
    pub is : stream_verdict ed (nodes_at s from) false e ≡ stream_verdict ed (nodes_at s at) any e

module _ (ed : Edition) where
  pub stream_start : (s : List ℕ) (from e : ℕ) → Streaming ed s from e from false
  stream_start s from e = record { is = refl }

  module _ {s : List ℕ} {from e at : ℕ} {any : Bool} {r : Node} (i : Streaming ed s from e at any) (n : NodeAt s at r) where
    in_nodes : {x : Nodes} → nodes_at s at ≡ x → stream_verdict ed (nodes_at s from) false e ≡ stream_verdict ed x any e
    in_nodes h = i.is ∙ ap (λ (y : Nodes). (stream_verdict ed) y any e) h

    pub stream_some : r.kind ≡ Absent → any ≡ true → StreamAt ed s from e (Ok tt)
    unfolding stream_verdict pick
    stream_some q h = record { is = in_nodes (node_none n q) ∙ rw h }

    pub stream_empty : {v : Fault} → r.kind ≡ Absent → any ≡ false → v ≡ fault_at Frame e → StreamAt ed s from e (Err v)
    unfolding stream_verdict pick
    stream_empty q h y = rw y (record { is = in_nodes (node_none n q) ∙ rw h })

    pub stream_referred : {v : Fault} → r.kind ≡ Referred → v ≡ fault_at Frame at → StreamAt ed s from e (Err v)
    unfolding stream_verdict
    stream_referred q y = rw y (record { is = in_nodes (node_referred n q) })

    module _ (q : r.kind ≡ Literal) {b : Bool} (f : b ≡ is_space r.unit) where
      pub stream_space : b ≡ true → Streaming ed s from e r.next any
      unfolding stream_verdict pick
      stream_space h = record { is = in_nodes (node_literal n q) ∙ rw (← f, h) }

      pub stream_text : {v : Fault} → b ≡ false → v ≡ fault_at Frame at → StreamAt ed s from e (Err v)
      unfolding stream_verdict pick
      stream_text h y = rw y (record { is = in_nodes (node_literal n q) ∙ rw (← f, h) })

    module _ (q : r.kind ≡ Element) {b : Bool} (f : b ≡ same (rest 0 (take r.name_end s) r.name) (ascii "vcalendar")) where
      pub stream_other : {j : Result ⊤ Fault} → b ≡ false → no_component at (rest 0 (take r.name_end s) r.name) ≡ judged_as j → StreamAt ed s from e j
      unfolding stream_verdict pick
      stream_other h u = record { is = in_nodes (node_element n q) ∙ rw (← f, h) u }

      module _ (h : b ≡ true) (j : Result ⊤ Fault) (d : ComponentAt ed 0 8 false s r.inside r.end j) where
        pub stream_good : {u : ⊤} → j ≡ Ok u → Streaming ed s from e r.next true
        unfolding stream_verdict pick ◌otherwise◌
        stream_good g = record { is = in_nodes (node_element n q) ∙ rw (← f, h, d.is (ascii "VCALENDAR") calendar_zero, g) }

        pub stream_bad : {v : Fault} → j ≡ Err v → StreamAt ed s from e (Err v)
        unfolding stream_verdict pick ◌otherwise◌
        stream_bad g = record { is = in_nodes (node_element n q) ∙ rw (← f, h, d.is (ascii "VCALENDAR") calendar_zero, g) }

  -- ---- the root

  module _ (s : List ℕ) (root : ElementAt) {b : Bool} (f : b ≡ same (name_at s root) (ascii "icalendar")) {j : Result ⊤ Fault} where
    pub root_stream : b ≡ true → StreamAt ed s root.inside root.end j → RootAt ed s root j
    unfolding root_verdict pick
    root_stream h d = record { is = λ more. rw (← f, h) d.is }

    pub root_other : b ≡ false → unexpected root.place (name_at s root) ≡ judged_as j → RootAt ed s root j
    unfolding root_verdict pick
    root_other h u = record { is = λ more. rw (← f, h) u }

pub ruleset streaming = (stream_start, stream_some, stream_empty, stream_referred, stream_space, stream_text, stream_other, stream_good, stream_bad, name_inside, length-take-le, element_less, literal_less, rules)

pub ruleset roots = (root_stream, root_other, length-take-le, rules)
