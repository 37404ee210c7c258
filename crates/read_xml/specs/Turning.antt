-- A walk over the children of a property, a node a turn.
--     Holder       a context is that of a component and a property of these names, and of a type
--     ChildAt      the contract of `child`: the slot after a child, or its refusal
--     Turns        the contract of `turn`: where the next turn begins, or the refusal
use Rattle.std.specs.Prelude.{◌≡◌, List, ℕ, ◌≤◌, Option, Result}
use Rattle.names.specs.Table.{place_of}
use Rattle.calendar.specs.Refusal.{Verdict}
use Rattle.schema.specs.Components.{component_names}
use Rattle.schema.specs.Properties.{property_names}
use Rattle.schema.specs.Numbers.{type_at}
use Rattle.schema.specs.Coded.{row_at}
use Rattle.xml.specs.Nodes.{Nodes}
use Rattle.xcal.specs.Layout.{slot_of, after_slot, admitted}
use Rattle.xcal.specs.PropertyNodes.{child_verdict}
use Rattle.read_xml_value.specs.Sequencing.{walked}
use Rattle.xml.specs.NodesAt.{nodes_at}
use Rattle.refusals.specs.declared.Fault.{Fault}
use Rattle.read_xml_value.specs.Turning.{child_of, turn_of, Onward}
use Rattle.read_xml_value.specs.declared.Turn.{Turn}
use Rattle.schema.specs.declared.Context.{Context}
use Rattle.edition.specs.declared.Edition.{Edition}
use Rattle.read_xml.specs.Children.{slots_at, flags_at}

pub record Holder (context : Context) (c w : List ℕ) : Type 0 where
  pub component : context.component ≡ place_of c component_names
  pub row : context.row ≡ row_at (place_of w property_names)
  pub small : context.value_type ≤ 14

module _ (ed : Edition) where
  -- ---- a child

  pub record ChildAt (context : Context) (next place : ℕ) (n : List ℕ) (end : ℕ) (kids : Nodes) (r : Result ℕ Fault) : Type 0 where
    pub is : (c w : List ℕ) → Holder context c w → (after : ℕ → Verdict) →
        admitted (after_slot (slot_of n (slots_at context.row.number) 0) next) place n (child_verdict ed c w (type_at context.value_type) place n end kids) after ≡ child_of r after

  -- ---- a turn

  -- the verdict from a turn on
  abbrev pub left_at : Context → List ℕ → List ℕ → List ℕ → ℕ → Turn → Verdict
  left_at context c w s e t = walked (slots_at context.row.number) (child_verdict ed c w (type_at context.value_type)) (nodes_at s t.at) t.slot (flags_at context.row.number t.first t.second) e

  pub record Turns (context : Context) (s : List ℕ) (e : ℕ) (t : Turn) (r : Result (Option Turn) Fault) : Type 0 where
    pub is : (c w : List ℕ) → Holder context c w → left_at context c w s e t ≡ turn_of (left_at context c w s e) r
    pub onward : Onward s t.at r
