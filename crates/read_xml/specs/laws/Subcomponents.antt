-- Laws of what specs/Subcomponents.antt defines.
--     wholes   the rules of a component
--     subs     the rules of a node of `components`
--     Among    the invariant of the walk over `components`;   among: the rules
use Prim.{tt}
use Rattle.std.specs.Prelude.{◌≡◌, Bool, true, false, not, List, [], ℕ, ◌+◌, ◌*◌, ◌-◌, ◌≤◌, ◌<◌, ltb, length, ⊤, Option, None, Some, Result, Ok, Err}
use Rattle.std.proofs.Math.Path.{refl, sym, ap}
use Rattle.std.proofs.Common.{subst, ◌∙◌, arith, length-take-le, rules}
use borrow.Author.Tests.{lt-ltb, le-ltb}
use Rattle.octets.specs.Ascii.{ascii}
use Rattle.octets.specs.Pick.{pick, ◌and◌, ◌or◌}
use Rattle.octets.specs.Class.{upper, is_space}
use Rattle.names.specs.Table.{place_of}
use Rattle.calendar.specs.Refusal.{◌otherwise◌}
use Rattle.schema.specs.Components.{component_names, may_contain}
use Rattle.schema.specs.Completing.{method_at}
use Rattle.schema.specs.laws.Completing.{method_tallies}
use Rattle.schema.specs.Columns.{may_begin}
use Rattle.schema.specs.laws.Columns.{begin_place}
use Rattle.xml.specs.Nodes.{Nodes, has_element}
use Rattle.read_text_line.specs.Names.{is_carried_name}
use Rattle.xcal.specs.Layout.{has_capital}
use Rattle.xcal.specs.PropertyNodes.{read_properties}
use Rattle.xcal.specs.ComponentNodes.{inside_of, is_complete, bad_component, no_component, components_verdict}
use Rattle.xml.specs.NodesAt.{nodes_at}
use Rattle.read_xml_nodes.specs.NodeFound.{NodeAt}
use Rattle.read_xml_nodes.specs.laws.NodeFound.{node_none, node_element, node_literal, node_referred, element_less, inside_less, literal_less}
use Rattle.refusals.specs.Fault.{fault_at, judged_as}
use Rattle.refusals.specs.declared.Refusal.TheVariants.{Name, Frame}
use Rattle.refusals.specs.declared.Fault.{Fault}
use Rattle.read_xml_nodes.specs.declared.Node.{Node}
use Rattle.read_xml_nodes.specs.declared.NodeKind.TheVariants.{Absent, Element, Literal, Referred}
use Rattle.edition.specs.declared.Edition.{Edition}
use Rattle.read_xml.specs.laws.Turning.{name_inside}
use Rattle.read_xml.specs.Children.{name_of}
use Rattle.tallies.specs.Counting.{Counted}
use Rattle.read_xml.specs.Components.{method_inside, EndsAt, OpenedFits, HeadAt, BehindAt}
use Rattle.read_xml.specs.laws.Components.{complete_is}
use Rattle.read_xml.specs.Subcomponents.{NumberedAt, ComponentAt, method_kept, SubAt, CompsAt}
use Rattle.tallies.specs.declared.Kept.{Kept}
use Rattle.read_xml.specs.declared.Opened.{Opened}
use Rattle.read_xml.specs.declared.Sub.{Sub}
use Rattle.read_xml.specs.declared.Sub.TheVariants.{Done, Past, Begins}

-- ---- the number of a component

module _ (m : List ℕ) {b : Bool} (e : b ≡ has_capital m) where
  pub bad_capital : b ≡ true → b ≡ bad_component m
  unfolding ◌or◌
  bad_capital h = h ∙ rw (← e, h)

  module _ (h : b ≡ false) {d : Bool} (f : d ≡ is_carried_name m) where
    pub bad_carried : not d ≡ bad_component m
    unfolding ◌or◌
    bad_carried = rw (← e, h, ← f)

-- the refusal of an element that is no component
module _ (p : ℕ) (m : List ℕ) {b : Bool} (e : b ≡ bad_component m) {v : Fault} where
  pub none_named : b ≡ true → v ≡ fault_at Name p → no_component p m ≡ judged_as (Err v)
  unfolding pick
  none_named h y = rw (← e, h, y)

  pub none_placed : b ≡ false → v ≡ fault_at Frame p → no_component p m ≡ judged_as (Err v)
  unfolding pick
  none_placed h y = rw (← e, h, y)

module _ (k l : ℕ) (m : List ℕ) {b : Bool} (e : b ≡ bad_component m) where
  pub number_bad : b ≡ true → NumberedAt k l m None
  unfolding ◌and◌
  number_bad h = record { is = λ c o. rw (← e, h); number = tt }

  module _ (h : b ≡ false) {n : ℕ} (f : n ≡ place_of (upper m) component_names) {d : Bool} (g : d ≡ may_begin k n) where
    numbers : (c : List ℕ) → k ≡ place_of c component_names → (not (bad_component m) and may_contain c (upper m) and ltb 0 l) ≡ (d and ltb 0 l)
    unfolding ◌and◌
    numbers c o = rw (← e, h, begin_place c (upper m), ← o, ← f, ← g)

    pub number_not : d ≡ false → NumberedAt k l m None
    unfolding ◌and◌
    number_not z = record { is = λ c o. numbers c o ∙ rw z; number = tt }

    pub number_may : d ≡ true → 0 < l → NumberedAt k l m (Some n)
    unfolding ◌and◌
    number_may z y = record { is = λ c o. numbers c o ∙ rw (z, lt-ltb 0 l y); number = (f, y) }

    pub number_deep : d ≡ true → l ≤ 0 → NumberedAt k l m None
    unfolding ◌and◌
    number_deep z y = record { is = λ c o. numbers c o ∙ rw (z, le-ltb 0 l y); number = tt }

-- ---- a component

-- the METHOD that is handed down is that of the calendar
handed : (c : List ℕ) {k : ℕ} → k ≡ place_of c component_names → (method had : Bool) (kids : Nodes) (t : Kept) → (had ≡ true → Counted (read_properties (inside_of (ascii "properties") kids)) t) →
    method_inside c method had kids ≡ method_kept k t had method
unfolding pick
handed c o method true kids t i = sym (rw ((i refl).tallied, o) (method_tallies c (read_properties (inside_of (ascii "properties") kids)) method))
handed c o method false kids t i = refl

pub method-had : (k : ℕ) (t : Kept) (method : Bool) {had r : Bool} → had ≡ true → r ≡ method_at k t.counts method → r ≡ method_kept k t had method
unfolding pick
method-had k t method h e = rw h e

pub method_bare : (k : ℕ) (t : Kept) {had method : Bool} → had ≡ false → method ≡ method_kept k t had method
unfolding pick
method_bare k t h = rw h

-- ---- a node of `components`

or-false : (a : Bool) → (a or false) ≡ a
unfolding ◌or◌
or-false true = refl
or-false false = refl

or-true : (a b : Bool) → (a or true) ≡ (true or b)
unfolding ◌or◌
or-true true b = refl
or-true false b = refl

-- the measure of a component, by the levels that are left, and that of its subcomponents
pub fall_in : (l : ℕ) {t : ℕ} → t ≡ 2 * l + 1 → 2 * l < t
fall_in l e = omega arith

module _ (ed : Edition) where
  -- ---- the walk

  pub record Among (k l : ℕ) (method : Bool) (s : List ℕ) (from e at : ℕ) (any : Bool) : Type 0 where
    pub is : (c : List ℕ) → k ≡ place_of c component_names → components_verdict ed (nodes_at s from) c l method false e ≡ components_verdict ed (nodes_at s at) c l method any e
    pub low : length s - at ≤ length s - from
    pub held : has_element (nodes_at s from) ≡ (any or has_element (nodes_at s at))

module _ (k l : ℕ) {s : List ℕ} (e : ℕ) {at : ℕ} (any : Bool) {r : Node} (n : NodeAt s at r) where
  with_nodes : (ed : Edition) (c : List ℕ) (m : Bool) {x : Nodes} → nodes_at s at ≡ x → components_verdict ed (nodes_at s at) c l m any e ≡ components_verdict ed x c l m any e
  with_nodes ed c m h = ap (λ (y : Nodes). components_verdict ed y c l m any e) h

  module _ (q : r.kind ≡ Absent) (j : Result ⊤ Fault) (d : EndsAt k any e j) where
    pub sub_end : {u : ⊤} → j ≡ Ok u → SubAt k l s e at any (Ok Done)
    unfolding components_verdict has_element
    sub_end h = record { inner = []; is = λ ed c o m. with_nodes ed c m (node_none n q) ∙ d.is c o ∙ rw h; fits = ap has_element (node_none n q) }

    pub sub_short : {v : Fault} → j ≡ Err v → SubAt k l s e at any (Err v)
    unfolding components_verdict
    sub_short h = record { inner = []; is = λ ed c o m. with_nodes ed c m (node_none n q) ∙ d.is c o ∙ rw h; fits = tt }

  pub sub_referred : {v : Fault} → r.kind ≡ Referred → v ≡ fault_at Frame at → SubAt k l s e at any (Err v)
  unfolding components_verdict
  sub_referred q y = rw y (record { inner = []; is = λ ed c o m. with_nodes ed c m (node_referred n q); fits = tt })

  module _ (q : r.kind ≡ Literal) {b : Bool} (f : b ≡ is_space r.unit) where
    pub sub_space : b ≡ true → SubAt k l s e at any (Ok (Past r.next))
    unfolding components_verdict has_element pick
    sub_space h = record { inner = []; is = λ ed c o m. with_nodes ed c m (node_literal n q) ∙ rw (← f, h); fits = (literal_less n q, ap has_element (node_literal n q)) }

    pub sub_text : {v : Fault} → b ≡ false → v ≡ fault_at Frame at → SubAt k l s e at any (Err v)
    unfolding components_verdict pick
    sub_text h y = rw y (record { inner = []; is = λ ed c o m. with_nodes ed c m (node_literal n q) ∙ rw (← f, h); fits = tt })

  module _ (q : r.kind ≡ Element) {t : Option ℕ} (d : NumberedAt k l (name_of s r) t) where
    pub sub_other : {v : Fault} → t ≡ None → no_component at (name_of s r) ≡ judged_as (Err v) → SubAt k l s e at any (Err v)
    unfolding components_verdict pick
    sub_other z u = record { inner = []; is = λ ed c o m. with_nodes ed c m (node_element n q) ∙ rw (d.is c o, z) u; fits = tt }

    pub sub_begins : {i : ℕ} → t ≡ Some i → SubAt k l s e at any (Ok (Begins i r.inside r.end r.next))
    unfolding components_verdict has_element pick
    sub_begins {i} z =
        let f : NumberedAt k l (name_of s r) (Some i) = subst (NumberedAt k l (name_of s r)) z d in record {
          inner = upper (name_of s r);
          is = λ ed c o m. with_nodes ed c m (node_element n q) ∙ rw (d.is c o, z);
          fits = (f.number.0, inside_less n q, element_less n q, ap has_element (node_element n q), f.number.1);
        }

module _ (ed : Edition) where
  module _ {k : ℕ} {method : Bool} {s : List ℕ} {from e : ℕ} {r : Result (Option Opened) Fault} (l : ℕ) (h : HeadAt ed k method s from e r) where
    pub whole_ends : r ≡ Ok None → ComponentAt ed k l method s from e (Ok tt)
    whole_ends z = record { is = λ c o. h.is c o l ∙ rw z }

    pub whole_stops : {v : Fault} → r ≡ Err v → ComponentAt ed k l method s from e (Err v)
    whole_stops z = record { is = λ c o. h.is c o l ∙ rw z }

    module _ {b : Opened} (z : r ≡ Ok (Some b)) where
      opened : OpenedFits s from (Ok (Some b))
      opened = subst (OpenedFits s from) z h.fits

      module _ {m : Bool} (u : m ≡ method_kept k b.kept b.had method) {x : Result Bool Fault} (d : CompsAt ed k l m s b.inside b.end x) where
        given : (c : List ℕ) → k ≡ place_of c component_names → method_inside c method b.had (nodes_at s from) ≡ m
        given c o = handed c o method b.had (nodes_at s from) b.kept opened.2 ∙ sym u

        pub whole_fails : {v : Fault} → x ≡ Err v → ComponentAt ed k l method s from e (Err v)
        unfolding ◌otherwise◌
        whole_fails g = record { is = λ c o. h.is c o l ∙ rw (z, given c o, d.is c o, g) }

        pub whole_behind : {inner : Bool} {v : Result ⊤ Fault} → x ≡ Ok inner → BehindAt k b.kept b.had inner method s b.next e v → ComponentAt ed k l method s from e v
        unfolding ◌otherwise◌
        whole_behind {inner} g w =
            let f : CompsAt ed k l m s b.inside b.end (Ok inner) = subst (CompsAt ed k l m s b.inside b.end) g d in record {
              is = λ c o. h.is c o l ∙ rw (z, given c o, f.is c o)
                  (w.is ed c o l (is_complete c method (nodes_at s from)) (λ y. complete_is c o method (nodes_at s from) (opened.2 y) (f.held ∙ sym (ap has_element opened.1))) m);
            }

  pub among_start : (k l : ℕ) (method : Bool) (s : List ℕ) (from e : ℕ) → Among ed k l method s from e from false
  unfolding ◌or◌
  among_start k l method s from e = record { is = λ c o. refl; low = omega arith; held = refl }

  module _ {k l : ℕ} {method : Bool} {s : List ℕ} {from e at : ℕ} {any : Bool} (m : Among ed k l method s from e at any) {t : Result Sub Fault} (u : SubAt k l s e at any t) where
    sub_is : {v : Result Sub Fault} → t ≡ v → SubAt k l s e at any v
    sub_is y = subst (SubAt k l s e at any) y u

    pub among_fine : t ≡ Ok Done → CompsAt ed k l method s from e (Ok any)
    among_fine y = record { is = λ c o. m.is c o ∙ (sub_is y).is ed c o method; held = sym (m.held ∙ ap (λ (b : Bool). any or b) (sub_is y).fits ∙ or-false any) }

    pub among_refused : {v : Fault} → t ≡ Err v → CompsAt ed k l method s from e (Err v)
    among_refused y = record { is = λ c o. m.is c o ∙ (sub_is y).is ed c o method; held = tt }

    module _ {d : ℕ} (y : t ≡ Ok (Past d)) where
      pub among_past : Among ed k l method s from e d any
      among_past = record { is = λ c o. m.is c o ∙ (sub_is y).is ed c o method; low = omega (arith, m.low, (sub_is y).fits.0); held = m.held ∙ ap (λ (b : Bool). any or b) (sub_is y).fits.1 }

      pub past_less : length s - d < length s - at
      past_less = (sub_is y).fits.0

    module _ {n q z d : ℕ} (y : t ≡ Ok (Begins n q z d)) where
      pub begun_left : 1 ≤ l
      begun_left = (sub_is y).fits.4

      pub begun_less : length s - d < length s - at
      begun_less = (sub_is y).fits.2

      module _ {v : Result ⊤ Fault} (w : ComponentAt ed n (l - 1) method s q z v) where
        pub among_bad : {f : Fault} → v ≡ Err f → CompsAt ed k l method s from e (Err f)
        unfolding ◌otherwise◌
        among_bad g = record { is = λ c o. m.is c o ∙ (sub_is y).is ed c o method ∙ rw (w.is (sub_is y).inner (sub_is y).fits.0, g); held = tt }

        pub among_good : {x : ⊤} → v ≡ Ok x → Among ed k l method s from e d true
        unfolding ◌otherwise◌
        among_good g = record {
          is = λ c o. m.is c o ∙ (sub_is y).is ed c o method ∙ rw (w.is (sub_is y).inner (sub_is y).fits.0, g);
          low = omega (arith, m.low, (sub_is y).fits.2);
          held = m.held ∙ ap (λ (b : Bool). any or b) (sub_is y).fits.3 ∙ or-true any (has_element (nodes_at s d));
        }

pub ruleset naming = (bad_capital, bad_carried, length-take-le, rules)

pub ruleset refusing = (none_named, none_placed, rules)

pub ruleset numbering = (number_bad, number_may, number_not, number_deep, length-take-le, rules)

pub ruleset handing = (method-had, method_bare, rules)

pub ruleset wholes = (whole_ends, whole_stops, whole_fails, whole_behind, rules)

pub ruleset subs = (sub_end, sub_short, sub_referred, sub_space, sub_text, sub_other, sub_begins, name_inside, rules)

pub ruleset among = (among_start, among_fine, among_refused, among_past, past_less, begun_less, begun_left, among_bad, among_good, rules)
