-- A walk over the children of PERIOD or RECUR, a node a turn.
--     child_of     the verdict on a child and what comes after it, by the slot after it, or by its refusal
--     ChildAt      the contract of `child`
--     turn_of      the verdict, by where the next turn begins, or by the refusal;   Onward: the next turn begins later, within the bytes
--     Turns        the contract of `turn`
use Prim.{Unit}
use Rattle.std.specs.Prelude.{◌≡◌, Bool, List, ℕ, ◌≤◌, ◌<◌, length, Option, None, Some, Result, Ok, Err}
use Rattle.calendar.specs.Refusal.{Verdict, fine}
use Rattle.refusals.specs.Fault.{judged_as}
use Rattle.refusals.specs.declared.Fault.{Fault}
use Rattle.xml.specs.Nodes.{Nodes}
use Rattle.xcal.specs.Layout.{slot_of, after_slot, admitted}
use Rattle.read_xml_value.specs.Sequencing.{walked}
use Rattle.xml.specs.NodesAt.{nodes_at}
use Rattle.read_xml_value.specs.Parts.{slots_of}
use Rattle.read_xml_value.specs.PartContents.{inside_of, flags_of}
use Rattle.read_xml_value.specs.declared.Turn.{Turn}

-- ---- a child

abbrev pub child_of : Result ℕ Fault → (ℕ → Verdict) → Verdict
child_of (Ok k) after = after k
child_of (Err f) after = judged_as (Err f)

pub record ChildAt (rule : Bool) (n : List ℕ) (next p : ℕ) (kids : Nodes) (r : Result ℕ Fault) : Type 0 where
  pub is : (x : ℕ) (after : ℕ → Verdict) → admitted (after_slot (slot_of n (slots_of rule) 0) next) p n (inside_of rule p n x kids) after ≡ child_of r after

-- ---- a turn

abbrev pub turn_of : (Turn → Verdict) → Result (Option Turn) Fault → Verdict
turn_of v (Ok None) = fine
turn_of v (Ok (Some t)) = v t
turn_of v (Err f) = judged_as (Err f)

abbrev pub Onward : List ℕ → ℕ → Result (Option Turn) Fault → Type 0
Onward s c (Ok None) = Unit {0}
Onward s c (Ok (Some t)) = (c < t.at) × (t.at ≤ length s)
Onward s c (Err f) = Unit {0}

-- the verdict from a turn on
abbrev pub left_at : Bool → List ℕ → ℕ → Turn → Verdict
left_at rule s e t = walked (slots_of rule) (inside_of rule) (nodes_at s t.at) t.slot (flags_of rule t.first t.second) e

pub record Turns (rule : Bool) (s : List ℕ) (e : ℕ) (t : Turn) (r : Result (Option Turn) Fault) : Type 0 where
  pub is : left_at rule s e t ≡ turn_of (left_at rule s e) r
  pub onward : Onward s t.at r
