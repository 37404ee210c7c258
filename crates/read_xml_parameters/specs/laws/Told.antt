-- Laws of what specs/Told.antt defines.
--     judged_..    for code
--     against_..    for code
--     verdict_is         it is the verdict of xcal, where the names before its place are those seen
--     Told               the invariant of the walk over them;   told_..: its laws
use Rattle.std.specs.Prelude.{◌≡◌, ⊤, Bool, List, [], ◌∷◌, ℕ, ◌+◌, ◌≤◌, ltb, Result, Ok, Err}
use Rattle.std.proofs.Math.Path.{refl, sym, ap}
use Rattle.std.proofs.Common.{◌∙◌, arith, rules}
use Rattle.std.proofs.Math.Bool.{true, false}
use borrow.Author.Tests.{eq-eqb, ne_eqb, lt-ltb, le-ltb, ltb-true}
use Rattle.octets.specs.Pick.{pick, ◌and◌, ◌or◌}
use Rattle.octets.specs.laws.Pick.{or-false}
use Rattle.octets.specs.Class.{upper, is_space}
use Rattle.octets.specs.Words.{same, is_one_of}
use Rattle.octets.specs.laws.Words.{same_either}
use Rattle.octets.specs.Lists.{distinct}
use Rattle.calendar.specs.Refusal.{◌otherwise◌}
use Rattle.source.specs.Source.{rest}
use Rattle.source.specs.laws.Facts.{rest_plain}
use Rattle.names.specs.Table.{place_of}
use Rattle.schema.specs.Properties.{property_names}
use Rattle.schema.specs.Parameters.{parameter_names}
use Rattle.schema.specs.Numbers.{type_at}
use Rattle.schema.specs.Coded.{row_at}
use Rattle.schema.specs.declared.table.Row.{Row}
use Rattle.xml.specs.Nodes.{Nodes}
use Rattle.xcal.specs.ParameterNodes.{parameter_verdict, parameters_verdict}
use Rattle.xml.specs.NodesAt.{nodes_at}
use Rattle.read_xml_nodes.specs.NodeFound.{NodeAt}
use Rattle.read_xml_nodes.specs.laws.NodeFound.{node_none, node_literal, node_referred, element_onward, literal_onward, element_less, literal_less}
use Rattle.refusals.specs.Fault.{fault_at, judged_as}
use Rattle.refusals.specs.declared.Refusal.TheVariants.{Name, Frame, Parameter}
use Rattle.refusals.specs.declared.Fault.{Fault}
use Rattle.read_xml_nodes.specs.laws.Judging.{after_ok, after_err}
use Rattle.read_xml_nodes.specs.declared.Node.{Node}
use Rattle.read_xml_nodes.specs.declared.NodeKind.TheVariants.{Absent, Element, Literal, Referred}
use Rattle.edition.specs.declared.Edition.{Edition}
use Rattle.read_xml_parameters.specs.Children.{name_of}
use Rattle.read_xml_parameters.specs.laws.Children.{node_named}
use Rattle.read_xml_parameters.specs.Seen.{is_before}
use Rattle.read_xml_parameters.specs.Fresh.{first_names}
use Rattle.read_xml_parameters.specs.laws.Fresh.{Fresh, fresh_start, fresh_skip, fresh_next, fresh_here}
use Rattle.read_xml_parameters.specs.Sound.{sound_by}
use Rattle.read_xml_parameters.specs.laws.Sound.{sound_is}
use Rattle.read_xml_parameters.specs.Told.{against_by, judged_by, verdict_at}

module _ (bad against some : Bool) (at x : ℕ) {a : Bool} (e : a ≡ bad) where
  pub judged_name : {v : Fault} → a ≡ true → v ≡ fault_at Name at → judged_by bad against some at x ≡ judged_as (Err v)
  unfolding judged_by pick
  judged_name h y = rw (← e, h, y)

  pub judged_empty : {v : Fault} → a ≡ false → at ≡ x → v ≡ fault_at Frame at → judged_by bad against some at x ≡ judged_as (Err v)
  unfolding judged_by pick
  judged_empty h k y = rw (← e, h, eq-eqb at x k, y)

  module _ {b : Bool} (h : a ≡ false) (k : at ≡ x → ⊥) (f : b ≡ against) where
    pub judged_against : {v : Fault} → b ≡ true → v ≡ fault_at Parameter at → judged_by bad against some at x ≡ judged_as (Err v)
    unfolding judged_by pick
    judged_against l y = rw (← e, h, ne_eqb at x k, ← f, l, y)

    module _ {c : Bool} (l : b ≡ false) (g : c ≡ some) where
      pub judged_fine : c ≡ true → judged_by bad against some at x ≡ judged_as (Ok tt)
      unfolding judged_by pick
      judged_fine z = rw (← e, h, ne_eqb at x k, ← f, l, ← g, z)

      pub judged_none : {v : Fault} → c ≡ false → v ≡ fault_at Frame x → judged_by bad against some at x ≡ judged_as (Err v)
      unfolding judged_by pick
      judged_none z y = rw (← e, h, ne_eqb at x k, ← f, l, ← g, z, y)

module _ (ed : Edition) where
  -- ---- all of them

  -- i elements stand before the place at
  pub record Told (row : Row) (t : ℕ) (s : List ℕ) (from at i : ℕ) : Type 0 where
    pub seen : List (List ℕ)
    pub fresh : Fresh s from at i seen
    pub known : (m : List ℕ) (k : ℕ) → at ≤ k → is_before m k (nodes_at s from) ≡ (is_one_of m seen or is_before m k (nodes_at s at))
    pub is : (w : List ℕ) → row ≡ row_at (place_of w property_names) → t ≤ 14 → parameters_verdict ed w (type_at t) (nodes_at s from) [] ≡ parameters_verdict ed w (type_at t) (nodes_at s at) seen

  -- the contract of `parameters_verdict`
  abbrev pub Judges : Row → ℕ → List ℕ → ℕ → Result ⊤ Fault → Type 0
  Judges row t s from j = (w : List ℕ) → row ≡ row_at (place_of w property_names) → t ≤ 14 → judged_as j ≡ parameters_verdict ed w (type_at t) (nodes_at s from) []

module _ (ed : Edition) where
  -- ---- one parameter

  module _ (row : Row) (t : ℕ) (m : List ℕ) (kids : Nodes) {a again : Bool} (e : a ≡ again) where
    pub against_again : a ≡ true → true ≡ against_by ed again row t m kids
    unfolding against_by ◌or◌
    against_again h = rw (← e, h)

    module _ {q : ℕ} {b : Bool} (h : a ≡ false) (f : q ≡ place_of (upper (rest 0 m 0)) parameter_names) (g : b ≡ sound_by ed row t q kids) where
      named : b ≡ sound_by ed row t (place_of (upper m) parameter_names) kids
      named = g ∙ rw (f, rest_plain m)

      pub against_not : b ≡ true → false ≡ against_by ed again row t m kids
      unfolding against_by ◌or◌
      against_not k = rw (← e, h, ← named, k)

      pub against_sound : b ≡ false → true ≡ against_by ed again row t m kids
      unfolding against_by ◌or◌
      against_sound k = rw (← e, h, ← named, k)

  pub verdict_is : (w : List ℕ) (row : Row) (t : ℕ) (s : List ℕ) (from at : ℕ) (m : List ℕ) (x : ℕ) (kids : Nodes) (seen : List (List ℕ)) → row ≡ row_at (place_of w property_names) → t ≤ 14 →
      is_before m at (nodes_at s from) ≡ is_one_of m seen → parameter_verdict ed w (type_at t) seen at m x kids ≡ verdict_at ed row t s from at m x kids
  unfolding parameter_verdict judged_by against_by
  verdict_is w row t s from at m x kids seen h k e = rw (e, sound_is ed w (upper m) row t kids h k)

  pub told_start : (row : Row) (t : ℕ) (s : List ℕ) (from : ℕ) → Told ed row t s from from 0
  unfolding is_one_of ◌or◌
  told_start row t s from = record { seen = []; fresh = fresh_start s from; known = λ m k h. refl; is = λ w h k. refl }

  module _ {row : Row} {t : ℕ} {s : List ℕ} {from at c : ℕ} {n : Node} (i : Told ed row t s from at c) (a : NodeAt s at n) where
    pub told_none : n.kind ≡ Absent → Judges ed row t s from (Ok tt)
    unfolding parameters_verdict
    told_none q = λ w h k. sym (i.is w h k ∙ ap (λ (z : Nodes). (parameters_verdict ed) w (type_at t) z i.seen) (node_none a q))

    pub told_referred : {v : Fault} → n.kind ≡ Referred → v ≡ fault_at Frame at → Judges ed row t s from (Err v)
    unfolding parameters_verdict
    told_referred q y = λ w h k. rw y (sym (i.is w h k ∙ ap (λ (z : Nodes). (parameters_verdict ed) w (type_at t) z i.seen) (node_referred a q)))

    module _ {b : Bool} (q : n.kind ≡ Literal) (e : b ≡ is_space n.unit) where
      pub told_space : b ≡ true → Told ed row t s from n.next c
      unfolding parameters_verdict is_before pick
      told_space z = record {
        seen = i.seen;
        fresh = fresh_skip i.fresh at n.unit n.next (node_literal a q);
        known = λ m k h. i.known m k (omega (arith, literal_onward a q, h)) ∙ ap (λ (x : Nodes). is_one_of m i.seen or is_before m k x) (node_literal a q);
        is = λ w h k. i.is w h k ∙ ap (λ (x : Nodes). (parameters_verdict ed) w (type_at t) x i.seen) (node_literal a q) ∙ rw (← e, z);
      }

      pub told_character : {v : Fault} → b ≡ false → v ≡ fault_at Frame at → Judges ed row t s from (Err v)
      unfolding parameters_verdict pick
      told_character z y = λ w h k. rw y (sym (i.is w h k ∙ ap (λ (x : Nodes). (parameters_verdict ed) w (type_at t) x i.seen) (node_literal a q) ∙ rw (← e, z)))

    module _ (q : n.kind ≡ Element) where
      abbrev name : List ℕ
      name = name_of s n.name n.name_end

      -- the names before this element are those seen
      here : is_before name at (nodes_at s from) ≡ is_one_of name i.seen
      unfolding is_before ◌and◌ ◌or◌
      here = i.known name at (omega arith) ∙ ap (λ (x : Nodes). is_one_of name i.seen or is_before name at x) (node_named a q) ∙ rw (le-ltb at at (omega arith)) (or-false (is_one_of name i.seen))

      -- no element before this one has its name, where it is among the first whose names are distinct
      pub told_fresh : (k : ℕ) → distinct (first_names (nodes_at s from) k) ≡ true → ltb c k ≡ true → is_before (name_of s n.name n.name_end) at (nodes_at s from) ≡ false
      told_fresh k h l = here ∙ fresh_here i.fresh n.next (node_named a q) k h (ltb-true c k l)

      next : (w : List ℕ) → row ≡ row_at (place_of w property_names) → t ≤ 14 →
          parameters_verdict ed w (type_at t) (nodes_at s from) [] ≡ (parameter_verdict ed w (type_at t) i.seen at name n.end (nodes_at s n.inside) otherwise parameters_verdict ed w (type_at t) (nodes_at s n.next) (name ∷ i.seen))
      unfolding parameters_verdict
      next w h k = i.is w h k ∙ ap (λ (x : Nodes). (parameters_verdict ed) w (type_at t) x i.seen) (node_named a q)

      own : (w : List ℕ) → row ≡ row_at (place_of w property_names) → t ≤ 14 →
          parameter_verdict ed w (type_at t) i.seen at name n.end (nodes_at s n.inside) ≡ verdict_at ed row t s from at name n.end (nodes_at s n.inside)
      own w h k = verdict_is w row t s from at name n.end (nodes_at s n.inside) i.seen h k here

      module _ (j : Result ⊤ Fault) (e : verdict_at ed row t s from at (name_of s n.name n.name_end) n.end (nodes_at s n.inside) ≡ judged_as j) where
        pub told_refused : {v : Fault} → j ≡ Err v → Judges ed row t s from (Err v)
        told_refused z = λ w h k. sym (next w h k ∙ after_err _ (own w h k ∙ e) z)

        pub told_next : {u : ⊤} → j ≡ Ok u → Told ed row t s from n.next (c + 1)
        unfolding is_before is_one_of ◌and◌ ◌or◌
        told_next z = record {
          seen = name ∷ i.seen;
          fresh = fresh_next i.fresh n.next (node_named a q);
          known = λ m k h.
              i.known m k (omega (arith, element_onward a q, h))
              ∙ ap (λ (x : Nodes). is_one_of m i.seen or is_before m k x) (node_named a q)
              ∙ rw (lt-ltb at k (omega (arith, element_onward a q, h)), same_either name m) (turned (is_one_of m i.seen) (same m name) (is_before m k (nodes_at s n.next)));
          is = λ w h k. next w h k ∙ after_ok _ (own w h k ∙ e) z;
        }
          where
            turned : (x y z : Bool) → (x or (y or z)) ≡ ((y or x) or z)
            turned true true z = refl
            turned true false z = refl
            turned false true z = refl
            turned false false z = refl

pub ruleset judgements = (judged_name, judged_empty, judged_against, judged_fine, judged_none, rules)

pub ruleset telling = (told_start, told_none, told_referred, told_space, told_character, told_refused, told_next, element_less, literal_less, rules)
