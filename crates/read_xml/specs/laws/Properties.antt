-- Laws of what specs/Properties.antt defines.
--     Seeking      the invariant of the walk to the `parameters` of a property;   seeking: the rules
--     naming       the rules of the tests of a property's name and place
--     Listing    the invariant of the walk over properties;   listing: the rules
use Rattle.std.specs.Prelude.{◌≡◌, refl, Bool, true, false, not, ℕ, suc, ◌≤◌, ◌<◌, eqb, ltb, length, take, ⊤, Option, None, Some, Result, Ok, Err, is_some}
use Rattle.std.proofs.Math.Path.{sym, ap}
use Rattle.std.proofs.Common.{◌∙◌, arith, length-take-le, rules}
use mathlib.Core.List.{List, [], ◌∷◌}
use borrow.Author.Tests.{eq-eqb, ne_eqb, lt-ltb, le-ltb}
use Rattle.std.proofs.Math.Logic.{◌⊎◌, inl, inr}
use Rattle.octets.specs.Ascii.{ascii}
use Rattle.octets.specs.Pick.{pick, ◌and◌, ◌or◌}
use Rattle.octets.specs.Append.{◌⊕◌}
use Rattle.octets.specs.laws.Append.{append_empty, append_cons, append_none, append_regroup}
use Rattle.octets.specs.Class.{upper, is_space}
use Rattle.octets.specs.Words.{same, is_one_of}
use Rattle.source.specs.Source.{rest}
use Rattle.names.specs.Table.{place_of}
use Rattle.names.specs.laws.Table.{one_of_place}
use Rattle.calendar.specs.Calendar.{BINARY, Property}
use Rattle.calendar.specs.Refusal.{◌otherwise◌}
use Rattle.schema.specs.Types.{same_type}
use Rattle.schema.specs.Components.{component_names, may_stand}
use Rattle.schema.specs.Properties.{property_names, is_known_property}
use Rattle.schema.specs.Numbers.{property_at, type_at}
use Rattle.schema.specs.Coded.{row_at}
use Rattle.schema.specs.Columns.{stands_at}
use Rattle.schema.specs.laws.Columns.{stand_place, row_stands}
use Rattle.schema.specs.laws.Places.{type_back}
use Rattle.schema.specs.Property as property
use Rattle.schema.specs.declared.Action.{Action}
use Rattle.schema.specs.declared.table.Row.{Row}
use Rattle.read_text_line.specs.Names.{is_carried_name}
use Rattle.xml.specs.Nodes.{Nodes, no_nodes}
use Rattle.xcal.specs.Layout.{Slot, slot_of, sequence, has_capital}
use Rattle.xcal.specs.ValueNodes.{value_slots, type_of_nodes}
use Rattle.xcal.specs.ParameterNodes.{has_encoding}
use Rattle.xcal.specs.PropertyNodes.{bad_name, property_slots, still_before, parameters_in, child_verdict, property_verdict, properties_verdict, property_in, read_properties}
use Rattle.xml.specs.NodesAt.{nodes_at}
use Rattle.xml.specs.laws.NodesAt.{nodes_none}
use Rattle.read_xml_nodes.specs.NodeFound.{NodeAt}
use Rattle.read_xml_nodes.specs.laws.NodeFound.{node_none, node_element, node_literal, node_referred, element_less, literal_less, character_less}
use Rattle.refusals.specs.Fault.{fault_at, judged_as}
use Rattle.refusals.specs.declared.Refusal.TheVariants.{Name, Frame, Parameter}
use Rattle.refusals.specs.declared.Fault.{Fault}
use Rattle.read_xml_nodes.specs.declared.Node.{Node}
use Rattle.read_xml_nodes.specs.declared.NodeKind.TheVariants.{Absent, Element, Literal, Referred}
use Rattle.read_xml_value.specs.laws.ElementTypes.{number_of}
use Rattle.edition.specs.declared.Edition.{Edition}
use Rattle.read_xml.specs.Children.{name_of, child_words, slot_at}
use Rattle.read_xml.specs.laws.Children.{slots_place, slotted, is_slot, slot_at_lem, parameters_at}
use Rattle.read_xml.specs.Turning.{Holder}
use Rattle.read_xml.specs.laws.Turning.{name_inside, content_inside}
use Rattle.tallies.specs.Counting.{Counted, CountsOn}
use Rattle.read_xml.specs.Counting.{WordAt}
use Rattle.read_xml.specs.Properties.{LacksAt, OffAt, PropertyAt, ListedAt}
use Rattle.tallies.specs.declared.Kept.{Kept}

-- ---- the `parameters` of a property

-- whether a slot is found does not depend on the number of the first
still_shift : (m : List ℕ) (ss : List Slot) (i j : ℕ) → still_before (slot_of m ss i) ≡ still_before (slot_of m ss j)
unfolding pick
still_shift m [] i j = refl
still_shift m (x ∷ ss) i j = go (is_one_of m x.names) (still_shift m ss (suc i) (suc j))
  where
    go : (b : Bool) → still_before (slot_of m ss (suc i)) ≡ still_before (slot_of m ss (suc j)) →
        still_before (pick b (Some (i, x.several)) (slot_of m ss (suc i))) ≡ still_before (pick b (Some (j, x.several)) (slot_of m ss (suc j)))
    go true ih = refl
    go false ih = ih

still_slotted : (l : Bool) (o : Option ℕ) → still_before (slotted l o) ≡ not (is_some o)
still_slotted l None = refl
still_slotted l (Some k) = refl

module _ (w m : List ℕ) {p : ℕ} {slot : Option ℕ} (o : p ≡ place_of w property_names) (e : slot ≡ slot_at p (place_of m (child_words p))) where
  is_parameters : same m (ascii "parameters") ≡ is_slot 0 slot
  is_parameters = parameters_at p m ∙ rw (← e)

  value_slot : is_slot 0 slot ≡ false → slot_of m (property_slots w) 0 ≡ slot_of m (value_slots w) 1
  unfolding pick is_one_of ◌or◌
  value_slot h = rw (is_parameters, h)

  before_slot : is_slot 0 slot ≡ false → still_before (slot_of m (value_slots w) 0) ≡ not (is_some slot)
  before_slot h =
      still_shift m (value_slots w) 0 1
      ∙ ap still_before (sym (value_slot h) ∙ ap (λ (ss : List Slot). slot_of m ss 0) (slots_place w o) ∙ slot_at_lem p m ∙ ap (slotted (property_at p).listed) (sym e))
      ∙ still_slotted (property_at p).listed slot

pub record Seeking (p : ℕ) (s : List ℕ) (from at : ℕ) : Type 0 where
  pub is : (w : List ℕ) → p ≡ place_of w property_names → parameters_in w (nodes_at s from) ≡ parameters_in w (nodes_at s at)

pub seek_start : (p : ℕ) (s : List ℕ) (from : ℕ) → Seeking p s from from
seek_start p s from = record { is = λ w o. refl }

module _ {p : ℕ} {s : List ℕ} {from at : ℕ} {r : Node} (i : Seeking p s from at) (n : NodeAt s at r) where
  pub seek_none : r.kind ≡ Absent → (w : List ℕ) → p ≡ place_of w property_names → nodes_at s (length s) ≡ parameters_in w (nodes_at s from)
  unfolding parameters_in
  seek_none q w o = nodes_none s (length s) (omega arith) ∙ sym (i.is w o ∙ ap (parameters_in w) (node_none n q))

  pub seek_character : (r.kind ≡ Literal) ⊎ (r.kind ≡ Referred) → Seeking p s from r.next
  unfolding parameters_in
  seek_character (inl q) = record { is = λ w o. i.is w o ∙ ap (parameters_in w) (node_literal n q) }
  seek_character (inr q) = record { is = λ w o. i.is w o ∙ ap (parameters_in w) (node_referred n q) }

  module _ (q : r.kind ≡ Element) {x : Option ℕ} (e : x ≡ slot_at p (place_of (rest 0 (take r.name_end s) r.name) (child_words p))) where
    at_element : (w : List ℕ) → p ≡ place_of w property_names → parameters_in w (nodes_at s from) ≡
        pick (is_slot 0 x) (nodes_at s r.inside) (pick (still_before (slot_of (rest 0 (take r.name_end s) r.name) (value_slots w) 0)) (parameters_in w (nodes_at s r.next)) no_nodes)
    unfolding parameters_in
    at_element w o = i.is w o ∙ ap (parameters_in w) (node_element n q) ∙ rw (is_parameters w (rest 0 (take r.name_end s) r.name) o e)

    module _ {slot : ℕ} (y : x ≡ Some slot) where
      pub seek_here : slot ≡ 0 → (w : List ℕ) → p ≡ place_of w property_names → nodes_at s r.inside ≡ parameters_in w (nodes_at s from)
      unfolding pick
      seek_here z w o = sym (at_element w o ∙ rw (y, eq-eqb slot 0 z))

      pub seek_stop : (slot ≡ 0 → ⊥) → (w : List ℕ) → p ≡ place_of w property_names → nodes_at s (length s) ≡ parameters_in w (nodes_at s from)
      unfolding pick
      seek_stop z w o =
          let h : is_slot 0 x ≡ false = ap (is_slot 0) y ∙ ne_eqb slot 0 z in
          nodes_none s (length s) (omega arith)
          ∙ sym (at_element w o ∙ rw (before_slot w (rest 0 (take r.name_end s) r.name) o e h, h, y))

    pub seek_past : x ≡ None → Seeking p s from r.next
    unfolding pick
    seek_past y = record {
      is = λ w o. at_element w o ∙ rw (before_slot w (rest 0 (take r.name_end s) r.name) o e (ap (is_slot 0) y), ap (is_slot 0) y, y);
    }

-- ---- a value of type BINARY with no ENCODING

module _ (p t : ℕ) (kids : Nodes) where
  is_binary : (w : List ℕ) → t ≤ 14 → type_at t ≡ type_of_nodes w kids → same_type (type_of_nodes w kids) BINARY ≡ eqb t 0
  unfolding same_type
  is_binary w h e = rw (← e, type_back t h)

  pub lacks_not : (t ≡ 0 → ⊥) → LacksAt p t kids false
  unfolding ◌and◌
  lacks_not z = record { is = λ w o h e. sym (rw (is_binary w h e, ne_eqb t 0 z)) }

  pub lacks_as : (s : List ℕ) → t ≡ 0 → (q : ℕ) → ((w : List ℕ) → p ≡ place_of w property_names → nodes_at s q ≡ parameters_in w kids) → {b : Bool} → b ≡ has_encoding (nodes_at s q) → LacksAt p t kids (not b)
  unfolding ◌and◌
  lacks_as s z q f g = record { is = λ w o h e. sym (rw (is_binary w h e, eq-eqb t 0 z, ← (f w o), ← g)) }

-- ---- its name, and whether it may stand there

module _ (m : List ℕ) {b : Bool} (e : b ≡ has_capital m) where
  pub bad_capital : b ≡ true → true ≡ bad_name m
  unfolding ◌or◌
  bad_capital h = sym (rw (← e, h))

  module _ (h : b ≡ false) {d : Bool} (f : d ≡ is_carried_name m) where
    pub bad_carried : d ≡ false → true ≡ bad_name m
    unfolding ◌or◌
    bad_carried g = sym (rw (← e, h, ← f, g))

    module _ (g : d ≡ true) {x : Bool} (i : x ≡ same m (ascii "begin")) where
      pub bad_begin : x ≡ true → true ≡ bad_name m
      unfolding ◌or◌
      bad_begin j = sym (rw (← e, h, ← f, g, ← i, j))

      pub bad_end : {r : Bool} → x ≡ false → r ≡ same m (ascii "end") → r ≡ bad_name m
      unfolding ◌or◌
      bad_end j q = q ∙ sym (rw (← e, h, ← f, g, ← i, j))

module _ (k : ℕ) (row : Row) where
  off_at : (c w : List ℕ) → k ≡ place_of c component_names → row ≡ row_at (place_of w property_names) →
      (is_known_property w and not (may_stand c w)) ≡ (ltb row.number property.KNOWN and not (stands_at k row))
  unfolding is_known_property
  off_at c w a o = rw (one_of_place w property_names, stand_place c w, ← a, ← (row_stands k (place_of w property_names)), ← o, ← (number_of w o))

  off_unknown : property.KNOWN ≤ row.number → OffAt k row false
  unfolding ◌and◌
  off_unknown h = record { is = λ c w a o. sym (off_at c w a o ∙ rw (le-ltb row.number property.KNOWN h)) }

  pub off_other : property.KNOWN ≤ row.number → OffAt k row (ltb row.number property.KNOWN)
  off_other h = rw (le-ltb row.number property.KNOWN h) (off_unknown h)

  pub off_known : row.number < property.KNOWN → {b : Bool} → b ≡ stands_at k row → OffAt k row (not b)
  unfolding ◌and◌
  off_known h e = record { is = λ c w a o. sym (off_at c w a o ∙ rw (lt-ltb row.number property.KNOWN h, ← e)) }

-- ---- the children of `properties`

module _ (ed : Edition) where
  pub record Listing (k : ℕ) (s : List ℕ) (from at : ℕ) (t : Kept) : Type 0 where
    pub is : (c : List ℕ) → k ≡ place_of c component_names → properties_verdict ed c (nodes_at s from) ≡ properties_verdict ed c (nodes_at s at)
    pub seen : List Property
    pub counted : Counted seen t
    pub agrees : read_properties (nodes_at s from) ≡ seen ⊕ read_properties (nodes_at s at)

module _ (ed : Edition) where
  -- ---- the element

  module _ (k : ℕ) (s : List ℕ) (at : ℕ) (n : Node) {row : Row} {b : Bool} (e : b ≡ bad_name (name_of s n)) where
    pub property_bad : {v : Fault} → b ≡ true → v ≡ fault_at Name at → row ≡ row_at (place_of (upper (name_of s n)) property_names) → PropertyAt ed k s at n (Err v)
    unfolding property_verdict pick
    property_bad h y o = record { is = λ c a. rw (← e, h, y) }

    module _ (h : b ≡ false) {d : Bool} (f : OffAt k row d) where
      pub property_off : {v : Fault} → d ≡ true → v ≡ fault_at Frame at → row ≡ row_at (place_of (upper (name_of s n)) property_names) → PropertyAt ed k s at n (Err v)
      unfolding property_verdict pick
      property_off g y o = record { is = λ c a. rw (← e, h, ← (f.is c (upper (name_of s n)) a o), g, y) }

      module _ (g : d ≡ false) {t : ℕ} (y : (w : List ℕ) → row ≡ row_at (place_of w property_names) → (type_at t ≡ type_of_nodes w (nodes_at s n.inside)) × (t ≤ 14)) {x : Bool} (i : LacksAt row.number t (nodes_at s n.inside) x) where
        pub property_lacks : {v : Fault} → x ≡ true → v ≡ fault_at Parameter at → row ≡ row_at (place_of (upper (name_of s n)) property_names) → PropertyAt ed k s at n (Err v)
        unfolding property_verdict pick
        property_lacks j z o = record {
          is = λ c a. rw (← e, h, ← (f.is c (upper (name_of s n)) a o), g, ← (i.is (upper (name_of s n)) (number_of (upper (name_of s n)) o) (y (upper (name_of s n)) o).1 (y (upper (name_of s n)) o).0), j, z);
        }

        pub property_children : {u : Result ⊤ Fault} → x ≡ false →
            ((c w : List ℕ) → Holder (record { component = k; row = row; value_type = t }) c w → judged_as u ≡ sequence (property_slots w) (child_verdict ed c w (type_at t)) (nodes_at s n.inside) 0 [] n.end) →
            row ≡ row_at (place_of (upper (name_of s n)) property_names) → PropertyAt ed k s at n u
        unfolding property_verdict pick
        property_children {u} j q o = record {
          is = λ c a. rw (← e, h, ← (f.is c (upper (name_of s n)) a o), g, ← (i.is (upper (name_of s n)) (number_of (upper (name_of s n)) o) (y (upper (name_of s n)) o).1 (y (upper (name_of s n)) o).0), j, ← (y (upper (name_of s n)) o).0)
              (sym (q c (upper (name_of s n)) (record { component = a; row = o; small = (y (upper (name_of s n)) o).1 })));
        }

  pub list_start : (k : ℕ) (s : List ℕ) (from : ℕ) {t : Kept} → Counted [] t → Listing ed k s from from t
  list_start k s from d = record { is = λ c a. refl; seen = []; counted = d; agrees = sym (append_empty (read_properties (nodes_at s from))) }

  module _ {k : ℕ} {s : List ℕ} {from at : ℕ} {t : Kept} {r : Node} (i : Listing ed k s from at t) (n : NodeAt s at r) where
    verdict_on : {x : Nodes} → nodes_at s at ≡ x → (c : List ℕ) → k ≡ place_of c component_names → properties_verdict ed c (nodes_at s from) ≡ properties_verdict ed c x
    verdict_on h c a = i.is c a ∙ ap (properties_verdict ed c) h

    read_on : {x : Nodes} → nodes_at s at ≡ x → read_properties (nodes_at s from) ≡ i.seen ⊕ read_properties x
    read_on h = i.agrees ∙ ap (λ (y : Nodes). i.seen ⊕ read_properties y) h

    pub list_none : r.kind ≡ Absent → ListedAt ed k s from (Ok t)
    unfolding properties_verdict read_properties
    list_none q = record {
      is = verdict_on (node_none n q);
      counted = rw (read_on (node_none n q), append_none i.seen) i.counted;
    }

    pub list_referred : {v : Fault} → r.kind ≡ Referred → v ≡ fault_at Frame at → ListedAt ed k s from (Err v)
    unfolding properties_verdict
    list_referred q y = rw y (record { is = λ c a. verdict_on (node_referred n q) c a; counted = tt })

    module _ (q : r.kind ≡ Literal) {b : Bool} (e : b ≡ is_space r.unit) where
      pub list_space : b ≡ true → Listing ed k s from r.next t
      unfolding properties_verdict read_properties pick
      list_space h = record { is = λ c a. verdict_on (node_literal n q) c a ∙ rw (← e, h); seen = i.seen; counted = i.counted; agrees = read_on (node_literal n q) }

      pub list_text : {v : Fault} → b ≡ false → v ≡ fault_at Frame at → ListedAt ed k s from (Err v)
      unfolding properties_verdict pick
      list_text h y = rw y (record { is = λ c a. verdict_on (node_literal n q) c a ∙ rw (← e, h); counted = tt })

    module _ (q : r.kind ≡ Element) {row : Row} (o : row ≡ row_at (place_of (upper (name_of s r)) property_names)) (j : Result ⊤ Fault) (d : row ≡ row_at (place_of (upper (name_of s r)) property_names) → PropertyAt ed k s at r j) where
      pub list_good : {word : Option Action} {u : Kept} {x : ⊤} → j ≡ Ok x → WordAt row.number (nodes_at s r.inside) word → CountsOn row.number word t u → Listing ed k s from r.next u
      unfolding properties_verdict read_properties ◌otherwise◌
      list_good h w m =
          let x : Property = property_in (name_of s r) (nodes_at s r.inside) in
          let later : List Property = read_properties (nodes_at s r.next) in record {
            is = λ c a. verdict_on (node_element n q) c a ∙ rw ((d o).is c a, h);
            seen = i.seen ⊕ (x ∷ []);
            counted = m.is i.seen x (w.is (name_of s r) (number_of (upper (name_of s r)) o)) i.counted;
            agrees = read_on (node_element n q) ∙ sym (append_regroup i.seen (x ∷ []) later ∙ rw (append_cons x [] later, append_empty later));
          }

      pub list_bad : {v : Fault} → j ≡ Err v → ListedAt ed k s from (Err v)
      unfolding properties_verdict ◌otherwise◌
      list_bad h = record { is = λ c a. verdict_on (node_element n q) c a ∙ rw ((d o).is c a, h); counted = tt }

pub ruleset seeking = (seek_start, seek_none, seek_character, seek_here, seek_stop, seek_past, name_inside, element_less, character_less, rules)

pub ruleset lacking = (lacks_not, lacks_as, rules)

pub ruleset naming = (bad_capital, bad_carried, bad_begin, bad_end, length-take-le, rules)

pub ruleset standing = (off_known, off_other, rules)

pub ruleset propertying = (property_bad, property_off, property_lacks, property_children, length-take-le, rules)

pub ruleset listing = (list_start, list_none, list_referred, list_space, list_text, list_good, list_bad, name_inside, content_inside, element_less, literal_less, length-take-le, rules)
