-- Laws of what specs/Turning.antt defines.
--     Walking      the invariant of the walk
--     turning      the rules of the code
use Prim.{tt}
use Rattle.std.specs.Prelude.{◌≡◌, Bool, List, [], ℕ, ◌-◌, ◌≤◌, ◌<◌, eqb, length, take, ⊤, Option, None, Some, Result, Ok, Err}
use Rattle.std.proofs.Math.Path.{refl, sym}
use Rattle.std.proofs.Common.{subst, ◌∙◌, arith, rules}
use Rattle.std.proofs.Math.Bool.{true, false}
use Rattle.octets.specs.Pick.{pick, ◌or◌}
use Rattle.octets.specs.Class.{is_space}
use Rattle.source.specs.Source.{rest}
use Rattle.names.specs.Table.{place_of}
use Rattle.calendar.specs.Refusal.{FRAME, Verdict, fine, refuse, ◌otherwise◌}
use Rattle.xml.specs.Nodes.{Nodes}
use Rattle.xcal.specs.Layout.{slot_of, after_slot, admitted, unexpected, sequence}
use Rattle.read_xml_value.specs.Sequencing.{is_short, walked, marked}
use Rattle.read_xml_value.specs.laws.Sequencing.{walked_none, walked_space, walked_text, walked-referred, walked_element, sequence-walked}
use Rattle.xml.specs.NodesAt.{nodes_at}
use Rattle.read_xml_nodes.specs.NodeFound.{NodeAt}
use Rattle.read_xml_nodes.specs.laws.NodeFound.{node_none, node_element, node_literal, node_referred, element_onward, literal_onward}
use Rattle.refusals.specs.Fault.{fault_at, judged_as}
use Rattle.refusals.specs.declared.Refusal.TheVariants.{Frame}
use Rattle.refusals.specs.declared.Fault.{Fault}
use Rattle.read_xml_value.specs.Parts.{names_of, slots_of, after_at}
use Rattle.read_xml_value.specs.laws.Parts.{after_is, after_known}
use Rattle.read_xml_value.specs.PartContents.{inside_of, inside_at, flags_of}
use Rattle.read_xml_value.specs.laws.PartContents.{inside_is, flags_start, flags_more}
use Rattle.read_xml_value.specs.Turning.{child_of, ChildAt, Onward, left_at, Turns}
use Rattle.read_xml_nodes.specs.declared.Node.{Node}
use Rattle.read_xml_nodes.specs.declared.NodeKind.TheVariants.{Absent, Element, Literal, Referred}
use Rattle.read_xml_value.specs.declared.Turn.{Turn}

-- ---- a child

module _ (rule : Bool) (n : List ℕ) (next p : ℕ) (kids : Nodes) {i : ℕ} {a : Option ℕ} (e : a ≡ after_at rule i next) where
  place_after : i ≡ place_of n (names_of rule) → after_slot (slot_of n (slots_of rule) 0) next ≡ a
  place_after h = after_is rule n next ∙ rw (← h, ← e)

  module _ {k : ℕ} (t : a ≡ Some k) (j : Result ⊤ Fault) (q : judged_as j ≡ inside_at rule i p kids) where
    child_goes : (v : Verdict) → v ≡ judged_as j → i ≡ place_of n (names_of rule) → (x : ℕ) (after : ℕ → Verdict) →
        admitted (after_slot (slot_of n (slots_of rule) 0) next) p n (inside_of rule p n x kids) after ≡ (v otherwise after k)
    child_goes v y h x after =
        let known : i < _ = after_known rule i next k (sym e ∙ t) in
        rw (place_after h, t, inside_is rule n p x kids (rw (← h) known), ← h, ← q, y)

    pub child_good : {u : ⊤} → j ≡ Ok u → i ≡ place_of n (names_of rule) → ChildAt rule n next p kids (Ok k)
    unfolding ◌otherwise◌
    child_good f h = record { is = λ x after. child_goes _ refl h x after ∙ rw f }

    pub child_bad : {f : Fault} → j ≡ Err f → i ≡ place_of n (names_of rule) → ChildAt rule n next p kids (Err f)
    unfolding ◌otherwise◌
    child_bad f h = record { is = λ x after. child_goes _ refl h x after ∙ rw f }

  pub child_nowhere : {f : Fault} → a ≡ None → unexpected p n ≡ judged_as (Err f) → i ≡ place_of n (names_of rule) → ChildAt rule n next p kids (Err f)
  child_nowhere t q h = record { is = λ x after. rw (place_after h, t) q }

-- ---- a turn

module _ (rule : Bool) {s : List ℕ} (e : ℕ) {t : Turn} {r : Node} (m : NodeAt s t.at r) where
  module _ (h : r.kind ≡ Absent) (j : Result ⊤ Fault) (q : judged_as j ≡ pick (is_short (flags_of rule t.first t.second)) (refuse FRAME e) fine) where
    none_as : (y : Turn) → y ≡ t → (v : Verdict) → v ≡ judged_as j → left_at rule s e y ≡ v
    none_as y i v k = rw (i, k) (walked_none (slots_of rule) (inside_of rule) t.slot (flags_of rule t.first t.second) e (node_none m h) ∙ sym q)

    pub turn_done : {u : ⊤} → j ≡ Ok u → Turns rule s e t (Ok None)
    turn_done z = record { is = none_as t refl _ refl ∙ rw z; onward = tt }

    pub turn_short : {f : Fault} → j ≡ Err f → Turns rule s e t (Err f)
    turn_short z = record { is = none_as t refl _ refl ∙ rw z; onward = tt }

  pub turn_referred : {f : Fault} → r.kind ≡ Referred → f ≡ fault_at Frame t.at → Turns rule s e t (Err f)
  turn_referred h q = rw q (record { is = walked-referred (slots_of rule) (inside_of rule) t.slot (flags_of rule t.first t.second) e (node_referred m h); onward = tt })

  module _ (h : r.kind ≡ Literal) {b : Bool} (z : b ≡ is_space r.unit) where
    pub turn_space : b ≡ true → Turns rule s e t (Ok (Some (record { at = r.next; slot = t.slot; first = t.first; second = t.second })))
    turn_space k = record {
      is = walked_space (slots_of rule) (inside_of rule) t.slot (flags_of rule t.first t.second) e (node_literal m h) (sym z ∙ k);
      onward = (literal_onward m h, m.next_within);
    }

    pub turn_text : {f : Fault} → b ≡ false → f ≡ fault_at Frame t.at → Turns rule s e t (Err f)
    turn_text k q = rw q (record { is = walked_text (slots_of rule) (inside_of rule) t.slot (flags_of rule t.first t.second) e (node_literal m h) (sym z ∙ k); onward = tt })

  module _ (h : r.kind ≡ Element) {i : ℕ} (at : i ≡ place_of (rest 0 (take r.name_end s) r.name) (names_of rule))
      {q : Result ℕ Fault} (d : i ≡ place_of (rest 0 (take r.name_end s) r.name) (names_of rule) → ChildAt rule (rest 0 (take r.name_end s) r.name) t.slot t.at (nodes_at s r.inside) q) where
    at_child : (y : Turn) → y ≡ t → left_at rule s e y ≡
        child_of q (λ k. walked (slots_of rule) (inside_of rule) (nodes_at s r.next) k (marked (slots_of rule) (rest 0 (take r.name_end s) r.name) (flags_of rule t.first t.second)) e)
    at_child y j = rw j (walked_element (slots_of rule) (inside_of rule) t.slot (flags_of rule t.first t.second) e (node_element m h) ∙ (d at).is r.end _)

    pub turn_good : {k : ℕ} {f g : Bool} → q ≡ Ok k → f ≡ (eqb i 0 or t.first) → g ≡ (eqb i 1 or eqb i 2 or t.second) →
        Turns rule s e t (Ok (Some (record { at = r.next; slot = k; first = f; second = g })))
    turn_good {k} z a b = record {
      is = at_child t refl ∙ rw (z, flags_more rule (rest 0 (take r.name_end s) r.name) t.first t.second, ← at, ← a, ← b);
      onward = ((element_onward m h).0, m.next_within);
    }

    pub turn_stops : {f : Fault} → q ≡ Err f → Turns rule s e t (Err f)
    turn_stops z = record { is = at_child t refl ∙ rw z; onward = tt }

-- ---- the walk

pub record Walking (rule : Bool) (s : List ℕ) (from e : ℕ) (t : Turn) : Type 0 where
  pub is : sequence (slots_of rule) (inside_of rule) (nodes_at s from) 0 [] e ≡ left_at rule s e t

pub walking_start : (rule : Bool) (s : List ℕ) (from e : ℕ) → Walking rule s from e (record { at = from; slot = 0; first = false; second = false })
walking_start rule s from e = record { is = sequence-walked (slots_of rule) (inside_of rule) (nodes_at s from) 0 [] e ∙ rw (flags_start rule) }

module _ {rule : Bool} {s : List ℕ} {from e : ℕ} {t : Turn} (m : Walking rule s from e t) {r : Result (Option Turn) Fault} (d : Turns rule s e t r) where
  pub walking_on : {n : Turn} → r ≡ Ok (Some n) → Walking rule s from e n
  walking_on z = record { is = m.is ∙ d.is ∙ rw z }

  pub walking_ends : r ≡ Ok None → judged_as (Ok tt) ≡ sequence (slots_of rule) (inside_of rule) (nodes_at s from) 0 [] e
  walking_ends z = sym (m.is ∙ d.is ∙ rw z)

  pub walking_stops : {f : Fault} → r ≡ Err f → judged_as (Err f) ≡ sequence (slots_of rule) (inside_of rule) (nodes_at s from) 0 [] e
  walking_stops z = sym (m.is ∙ d.is ∙ rw z)

  pub walking_less : {n : Turn} → r ≡ Ok (Some n) → length s - n.at < length s - t.at
  walking_less {n} z = let o : (t.at < n.at) × (n.at ≤ length s) = subst (Onward s t.at) z d.onward in omega (arith, o.0, o.1)

pub ruleset turning = (child_good, child_bad, child_nowhere, turn_done, turn_short, turn_referred, turn_space, turn_text, turn_good, turn_stops, rules)

pub ruleset walking = (walking_start, walking_on, walking_ends, walking_stops, walking_less, rules)
