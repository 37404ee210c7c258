-- Laws of what specs/Turning.antt defines.
--     Walking      the invariant of the walk
--     parting, turning, walking     the rules of the code
use Prim.{tt}
use Rattle.std.specs.Prelude.{◌≡◌, Bool, List, [], ◌∷◌, ℕ, suc, ◌+◌, ◌-◌, ◌^◌, ◌≤◌, ◌<◌, eqb, length, take, ⊤, Option, None, Some, Result, Ok, Err}
use Rattle.std.proofs.Math.Path.{refl, sym}
use Rattle.std.proofs.Common.{ap, subst, ◌∙◌, arith, length-take-le, rules}
use Rattle.std.proofs.Math.Bool.{true, false}
use borrow.Author.Tests.{eq-eqb, ne_eqb, lt-ltb, le-ltb}
use Rattle.octets.specs.Ascii.{ascii}
use Rattle.octets.specs.Pick.{pick, ◌and◌, ◌or◌}
use Rattle.octets.specs.Class.{is_space}
use Rattle.octets.specs.Words.{same}
use Rattle.octets.specs.Computing.{octets_compute}
use Rattle.source.specs.Source.{rest}
use Rattle.names.specs.Table.{place_of, names_in}
use Rattle.names.specs.laws.Table.{by_table, place_within}
use Rattle.calendar.specs.Refusal.{FRAME, Verdict, fine, refuse, ◌otherwise◌}
use Rattle.schema.specs.Components.{component_names}
use Rattle.schema.specs.Properties.{PropertyRow, property_names}
use Rattle.schema.specs.Numbers.{property_at, type_at, type_words}
use Rattle.schema.specs.laws.Numbers.{property_place, type_words_are}
use Rattle.schema.specs.Coded.{row_at}
use Rattle.schema.specs.laws.Columns.{listed_place}
use Rattle.xml.specs.Nodes.{Nodes}
use Rattle.xcal.specs.Layout.{slot_of, after_slot, unexpected, sequence}
use Rattle.xcal.specs.ValueNodes.{geo_elements, status_elements, value_verdict}
use Rattle.xcal.specs.ParameterNodes.{parameters_verdict}
use Rattle.xcal.specs.PropertyNodes.{property_slots, child_verdict}
use Rattle.read_xml_value.specs.laws.ElementTypes.{number_of}
use Rattle.read_xml_value.specs.Sequencing.{is_short}
use Rattle.read_xml_value.specs.laws.Sequencing.{walked_none, walked_space, walked_text, walked-referred, walked_element, sequence-walked}
use Rattle.xml.specs.NodesAt.{nodes_at}
use Rattle.read_xml_nodes.specs.HeadFound.{HeadAt}
use Rattle.read_xml_nodes.specs.NodeFound.{NodeAt}
use Rattle.read_xml_nodes.specs.laws.NodeFound.{node_none, node_element, node_literal, node_referred, element_onward, literal_onward}
use Rattle.refusals.specs.Fault.{fault_at, judged_as}
use Rattle.refusals.specs.declared.Refusal.TheVariants.{Frame}
use Rattle.refusals.specs.declared.Fault.{Fault}
use Rattle.read_xml_nodes.specs.declared.Head.{Head}
use Rattle.read_xml_nodes.specs.declared.Node.{Node}
use Rattle.read_xml_nodes.specs.declared.NodeKind.TheVariants.{Absent, Element, Literal, Referred}
use Rattle.schema.specs.declared.Context.{Context}
use Rattle.schema.specs.Property as property
use Rattle.schema.specs.declared.table.Row.{Row}
use Rattle.edition.specs.declared.Edition.{Edition}
use Rattle.read_xml.specs.Children.{geo_words, status_words, other_words, child_words, slots_at, slot_at, after_at, has_two, flags_of, flags_at}
use Rattle.read_xml.specs.laws.Children.{slots_place, is_slot, after_none, after_at_lem, flags_start, flags_more, parameters_at}
use Rattle.read_xml.specs.Turning.{Holder, ChildAt, left_at, Turns}
use Rattle.read_xml_value.specs.Turning.{Onward}
use Rattle.read_xml_value.specs.declared.Turn.{Turn}

-- ---- a child's number, and the slot after it

-- the names of GEO's value, counted from 1
module _ (w : List ℕ) {a : Bool} (e : a ≡ same w (ascii "latitude")) where
  pub geo_first : a ≡ true → 1 ≡ suc (place_of w geo_elements)
  unfolding place_of pick
  geo_first h = rw (← e, h)

  module _ (h : a ≡ false) {b : Bool} (f : b ≡ same w (ascii "longitude")) where
    pub geo_second : b ≡ true → 2 ≡ suc (place_of w geo_elements)
    unfolding place_of pick
    geo_second k = rw (← e, h, ← f, k)

    pub geo_other : b ≡ false → 3 ≡ suc (place_of w geo_elements)
    unfolding place_of pick
    geo_other k = rw (← e, h, ← f, k)

-- and of REQUEST-STATUS's
module _ (w : List ℕ) {a : Bool} (e : a ≡ same w (ascii "code")) where
  pub status_first : a ≡ true → 1 ≡ suc (place_of w status_elements)
  unfolding place_of pick
  status_first h = rw (← e, h)

  module _ (h : a ≡ false) {b : Bool} (f : b ≡ same w (ascii "description")) where
    pub status_second : b ≡ true → 2 ≡ suc (place_of w status_elements)
    unfolding place_of pick
    status_second k = rw (← e, h, ← f, k)

    module _ (k : b ≡ false) {c : Bool} (g : c ≡ same w (ascii "data")) where
      pub status_third : c ≡ true → 3 ≡ suc (place_of w status_elements)
      unfolding place_of pick
      status_third l = rw (← e, h, ← f, k, ← g, l)

      pub status_other : c ≡ false → 4 ≡ suc (place_of w status_elements)
      unfolding place_of pick
      status_other l = rw (← e, h, ← f, k, ← g, l)

-- `parameters` is the first of all
first_place : (n : List ℕ) (ws : List (List ℕ)) {a : Bool} → a ≡ same n (ascii "parameters") → a ≡ true → 0 ≡ place_of n (ascii "parameters" ∷ ws)
unfolding place_of pick
first_place n ws e h = rw (← e, h)

later_place : (n : List ℕ) (ws : List (List ℕ)) {a : Bool} → a ≡ same n (ascii "parameters") → a ≡ false → suc (place_of n ws) ≡ place_of n (ascii "parameters" ∷ ws)
unfolding place_of pick
later_place n ws e h = rw (← e, h)

module _ (n : List ℕ) (p : ℕ) {a : Bool} (e : a ≡ same n (ascii "parameters")) where
  pub word_first : a ≡ true → 0 ≡ place_of n (child_words p)
  unfolding pick
  word_first h = go (eqb p property.GEO) (eqb p property.REQUEST-STATUS)
    where
      go : (s t : Bool) → 0 ≡ place_of n (pick s geo_words (pick t status_words other_words))
      go true t = first_place n geo_elements e h
      go false true = first_place n status_elements e h
      go false false = first_place n type_words e h

  module _ (h : a ≡ false) {r : ℕ} where
    pub word_geo : p ≡ property.GEO → r ≡ suc (place_of n geo_elements) → r ≡ place_of n (child_words p)
    unfolding pick
    word_geo q k = rw (eq-eqb p property.GEO q) (k ∙ later_place n geo_elements e h)

    pub word_status : (p ≡ property.GEO → ⊥) → p ≡ property.REQUEST-STATUS → r ≡ suc (place_of n status_elements) → r ≡ place_of n (child_words p)
    unfolding pick
    word_status g q k = rw (ne_eqb p property.GEO g, eq-eqb p property.REQUEST-STATUS q) (k ∙ later_place n status_elements e h)

    pub word_other : (p ≡ property.GEO → ⊥) → (p ≡ property.REQUEST-STATUS → ⊥) → r ≡ suc (place_of n type_words) → r ≡ place_of n (child_words p)
    unfolding pick
    word_other g q k = rw (ne_eqb p property.GEO g, ne_eqb p property.REQUEST-STATUS q) (k ∙ later_place n type_words e h)

-- a type's number and one more
module _ (n : List ℕ) {t : ℕ} (e : t ≡ place_of n (names_in (ascii "binary\nboolean\ncal-address\ndate\ndate-time\nduration\nfloat\ninteger\nperiod\nrecur\ntext\ntime\nuri\nutc-offset\nunknown\n"))) where
  counted : t ≡ place_of n type_words
  counted = by_table n type_words_are e

  pub type_counted : t + 1 < 2 ^ 64
  type_counted = let k : length type_words ≡ 15 = refl in omega (arith, counted, place_within n type_words, k)

  pub type_after : t + 1 ≡ suc (place_of n type_words)
  type_after = let k : t + 1 ≡ suc t = omega arith in k ∙ ap suc counted

pub slot_numbered : (p : ℕ) (n : List ℕ) {r : Option ℕ} {i : ℕ} → r ≡ slot_at p i → i ≡ place_of n (child_words p) → r ≡ slot_at p (place_of n (child_words p))
slot_numbered p n e h = e ∙ ap (slot_at p) h

module _ (listed : Bool) (k next : ℕ) where
  pub after_out : 4 ≤ k → None ≡ after_at listed k next
  unfolding pick after_at
  after_out h = rw (le-ltb k 4 h)

  module _ (h : k < 4) where
    pub after_passed : k < next → None ≡ after_at listed k next
    unfolding pick after_at
    after_passed l = rw (lt-ltb k 4 h, lt-ltb k next l)

    module _ {b : Bool} (l : next ≤ k) (t : b ≡ (eqb k 1 and listed)) where
      pub after_several : b ≡ true → Some k ≡ after_at listed k next
      unfolding pick after_at
      after_several f = rw (lt-ltb k 4 h, le-ltb k next l, ← t, f)

      pub after_one : b ≡ false → Some (k + 1) ≡ after_at listed k next
      unfolding pick after_at
      after_one f = rw (lt-ltb k 4 h, le-ltb k next l, ← t, f)

-- whether the property of a name's row is listed
listed_of : {row : Row} (w : List ℕ) → row ≡ row_at (place_of w property_names) → (property_at row.number).listed ≡ row.listed
listed_of w e = ap (λ (p : ℕ). (property_at p).listed) (number_of w e) ∙ sym (ap (λ (r : Row). r.listed) e ∙ listed_place w ∙ ap (λ (r : PropertyRow). r.listed) (property_place w))

place_after : {row : Row} (n : List ℕ) {slot : ℕ} (next : ℕ) (a : Option ℕ) → a ≡ after_at row.listed slot next → Some slot ≡ slot_at row.number (place_of n (child_words row.number)) →
    (w : List ℕ) → row ≡ row_at (place_of w property_names) → after_slot (slot_of n (slots_at row.number) 0) next ≡ a
place_after {row} n {slot} next a e h w o = after_at_lem row.number n next h ∙ ap (λ (l : Bool). after_at l slot next) (listed_of w o) ∙ sym e

-- ---- at the end

module _ (p e : ℕ) {first : Bool} (second : Bool) where
  pub end_first : {v : Fault} → first ≡ false → v ≡ fault_at Frame e → judged_as (Err v) ≡ pick (is_short (flags_at p first second)) (refuse FRAME e) fine
  unfolding octets_compute is_short
  end_first h y = rw (h, y) (go (has_two p))
    where
      go : (b : Bool) → refuse FRAME e ≡ pick (is_short (flags_of b false second)) (refuse FRAME e) fine
      go true = refl
      go false = refl

  module _ {b : Bool} (f : first ≡ true) (q : b ≡ has_two p) where
    pub end_one : b ≡ false → judged_as (Ok tt) ≡ pick (is_short (flags_at p first second)) (refuse FRAME e) fine
    unfolding octets_compute is_short
    end_one h = rw (f, ← q, h)

    pub end_both : b ≡ true → second ≡ true → judged_as (Ok tt) ≡ pick (is_short (flags_at p first second)) (refuse FRAME e) fine
    unfolding octets_compute is_short
    end_both h g = rw (f, ← q, h, g)

    pub end_second : {v : Fault} → b ≡ true → second ≡ false → v ≡ fault_at Frame e → judged_as (Err v) ≡ pick (is_short (flags_at p first second)) (refuse FRAME e) fine
    unfolding octets_compute is_short
    end_second h g y = rw (f, ← q, h, g, y)

pub name_inside : {s : List ℕ} {at : ℕ} {r : Node} → NodeAt s at r → r.name_end ≤ length s
name_inside m = m.name_within

pub content_inside : {s : List ℕ} {at : ℕ} {r : Node} → NodeAt s at r → r.inside ≤ length s
content_inside m = m.inside_within

-- the same of a head
pub head_content : {s : List ℕ} {at : ℕ} {r : Head} → HeadAt s at r → r.inside ≤ length s
head_content m = m.inside_within

module _ (ed : Edition) where
  -- ---- the walk

  pub record Walking (context : Context) (s : List ℕ) (from e : ℕ) (t : Turn) : Type 0 where
    pub is : (c w : List ℕ) → Holder context c w → sequence (property_slots w) (child_verdict ed c w (type_at context.value_type)) (nodes_at s from) 0 [] e ≡ left_at ed context c w s e t

module _ (ed : Edition) where
  -- ---- what stands in a child

  module _ (context : Context) (slot place : ℕ) (n : List ℕ) (end : ℕ) (kids : Nodes) {v : Verdict} where
    pub inside_parameters : slot ≡ 0 → ((w : List ℕ) → context.row ≡ row_at (place_of w property_names) → context.value_type ≤ 14 → v ≡ parameters_verdict ed w (type_at context.value_type) kids []) →
        (c w : List ℕ) → Holder context c w → Some slot ≡ slot_at context.row.number (place_of n (child_words context.row.number)) → v ≡ child_verdict ed c w (type_at context.value_type) place n end kids
    unfolding pick
    inside_parameters z q c w o e = q w o.row o.small ∙ rw (parameters_at context.row.number n ∙ ap (is_slot 0) (sym e), eq-eqb slot 0 z)

    pub inside_value : (slot ≡ 0 → ⊥) → ((c w : List ℕ) → context.component ≡ place_of c component_names → context.row ≡ row_at (place_of w property_names) → context.value_type ≤ 14 → v ≡ value_verdict c w (type_at context.value_type) place n end kids) →
        (c w : List ℕ) → Holder context c w → Some slot ≡ slot_at context.row.number (place_of n (child_words context.row.number)) → v ≡ child_verdict ed c w (type_at context.value_type) place n end kids
    unfolding pick
    inside_value z q c w o e = q c w o.component o.row o.small ∙ rw (parameters_at context.row.number n ∙ ap (is_slot 0) (sym e), ne_eqb slot 0 z)

  module _ (context : Context) {slot : ℕ} (next place : ℕ) (n : List ℕ) (end : ℕ) (kids : Nodes) {a : Option ℕ} (e : a ≡ after_at context.row.listed slot next) where
    module _ {m : ℕ} (g : a ≡ Some m) (j : Result ⊤ Fault) (q : (c w : List ℕ) → Holder context c w → Some slot ≡ slot_at context.row.number (place_of n (child_words context.row.number)) → judged_as j ≡ child_verdict ed c w (type_at context.value_type) place n end kids) where
      pub child_good : {u : ⊤} → j ≡ Ok u → Some slot ≡ slot_at context.row.number (place_of n (child_words context.row.number)) → ChildAt ed context next place n end kids (Ok m)
      unfolding ◌otherwise◌
      child_good f h = record { is = λ c w o after. rw (place_after n next a e h w o.row, g, ← (q c w o h), f) }

      pub child_bad : {v : Fault} → j ≡ Err v → Some slot ≡ slot_at context.row.number (place_of n (child_words context.row.number)) → ChildAt ed context next place n end kids (Err v)
      unfolding ◌otherwise◌
      child_bad f h = record { is = λ c w o after. rw (place_after n next a e h w o.row, g, ← (q c w o h), f) }

    pub child_nowhere : {v : Fault} → a ≡ None → unexpected place n ≡ judged_as (Err v) → Some slot ≡ slot_at context.row.number (place_of n (child_words context.row.number)) → ChildAt ed context next place n end kids (Err v)
    child_nowhere g q h = record { is = λ c w o after. rw (place_after n next a e h w o.row, g) q }

  -- ---- a turn

  module _ (context : Context) {s : List ℕ} (e : ℕ) (t : Turn) {r : Node} (m : NodeAt s t.at r) where
    module _ (h : r.kind ≡ Absent) (j : Result ⊤ Fault) (q : judged_as j ≡ pick (is_short (flags_at context.row.number t.first t.second)) (refuse FRAME e) fine) where
      pub turn_done : {u : ⊤} → j ≡ Ok u → Turns ed context s e t (Ok None)
      turn_done z = record {
        is = λ c w o. walked_none (slots_at context.row.number) (child_verdict ed c w (type_at context.value_type)) t.slot (flags_at context.row.number t.first t.second) e (node_none m h) ∙ sym q ∙ rw z;
        onward = tt;
      }

      pub turn_short : {v : Fault} → j ≡ Err v → Turns ed context s e t (Err v)
      turn_short z = record {
        is = λ c w o. walked_none (slots_at context.row.number) (child_verdict ed c w (type_at context.value_type)) t.slot (flags_at context.row.number t.first t.second) e (node_none m h) ∙ sym q ∙ rw z;
        onward = tt;
      }

    pub turn_referred : {v : Fault} → r.kind ≡ Referred → v ≡ fault_at Frame t.at → Turns ed context s e t (Err v)
    turn_referred h y = rw y (record {
      is = λ c w o. walked-referred (slots_at context.row.number) (child_verdict ed c w (type_at context.value_type)) t.slot (flags_at context.row.number t.first t.second) e (node_referred m h);
      onward = tt;
    })

    module _ (h : r.kind ≡ Literal) {b : Bool} (z : b ≡ is_space r.unit) where
      pub turn_space : b ≡ true → Turns ed context s e t (Ok (Some (record { at = r.next; slot = t.slot; first = t.first; second = t.second })))
      turn_space k = record {
        is = λ c w o. walked_space (slots_at context.row.number) (child_verdict ed c w (type_at context.value_type)) t.slot (flags_at context.row.number t.first t.second) e (node_literal m h) (sym z ∙ k);
        onward = (literal_onward m h, m.next_within);
      }

      pub turn_text : {v : Fault} → b ≡ false → v ≡ fault_at Frame t.at → Turns ed context s e t (Err v)
      turn_text k y = rw y (record {
        is = λ c w o. walked_text (slots_at context.row.number) (child_verdict ed c w (type_at context.value_type)) t.slot (flags_at context.row.number t.first t.second) e (node_literal m h) (sym z ∙ k);
        onward = tt;
      })

    module _ (h : r.kind ≡ Element) {x : Option ℕ} (y : x ≡ slot_at context.row.number (place_of (rest 0 (take r.name_end s) r.name) (child_words context.row.number))) where
      pub turn_nowhere : {v : Fault} → x ≡ None → unexpected t.at (rest 0 (take r.name_end s) r.name) ≡ judged_as (Err v) → Turns ed context s e t (Err v)
      turn_nowhere z u = record {
        is = λ c w o. walked_element (slots_at context.row.number) (child_verdict ed c w (type_at context.value_type)) t.slot (flags_at context.row.number t.first t.second) e (node_element m h)
            ∙ rw (after_none context.row.number (rest 0 (take r.name_end s) r.name) t.slot (sym z ∙ y)) u;
        onward = tt;
      }

      module _ {slot : ℕ} (z : x ≡ Some slot)
          {q : Result ℕ Fault} (d : Some slot ≡ slot_at context.row.number (place_of (rest 0 (take r.name_end s) r.name) (child_words context.row.number)) → ChildAt ed context t.slot t.at (rest 0 (take r.name_end s) r.name) r.end (nodes_at s r.inside) q) where
        pub turn_good : {n : ℕ} {f g : Bool} → q ≡ Ok n → f ≡ (eqb slot 1 or t.first) → g ≡ (eqb slot 2 or t.second) →
            Turns ed context s e t (Ok (Some (record { at = r.next; slot = n; first = f; second = g })))
        turn_good {n} i a b = record {
          is = λ c w o. walked_element (slots_at context.row.number) (child_verdict ed c w (type_at context.value_type)) t.slot (flags_at context.row.number t.first t.second) e (node_element m h)
              ∙ (d (sym z ∙ y)).is c w o _ ∙ rw (i, flags_more context.row.number (rest 0 (take r.name_end s) r.name) t.first t.second (sym z ∙ y), ← a, ← b);
          onward = ((element_onward m h).0, m.next_within);
        }

        pub turn_stops : {v : Fault} → q ≡ Err v → Turns ed context s e t (Err v)
        turn_stops i = record {
          is = λ c w o. walked_element (slots_at context.row.number) (child_verdict ed c w (type_at context.value_type)) t.slot (flags_at context.row.number t.first t.second) e (node_element m h)
              ∙ (d (sym z ∙ y)).is c w o _ ∙ rw i;
          onward = tt;
        }

  pub walking_start : (context : Context) (s : List ℕ) (from e : ℕ) → Walking ed context s from e (record { at = from; slot = 0; first = false; second = false })
  walking_start context s from e = record {
    is = λ c w o. rw (slots_place w (number_of w o.row)) (sequence-walked (slots_at context.row.number) (child_verdict ed c w (type_at context.value_type)) (nodes_at s from) 0 [] e ∙ rw (flags_start context.row.number));
  }

  module _ {context : Context} {s : List ℕ} {from e : ℕ} {t : Turn} (m : Walking ed context s from e t) {x : Result (Option Turn) Fault} (d : Turns ed context s e t x) where
    pub walking_on : {n : Turn} → x ≡ Ok (Some n) → Walking ed context s from e n
    walking_on z = record { is = λ c w o. m.is c w o ∙ d.is c w o ∙ rw z }

    pub walking_ends : x ≡ Ok None → (c w : List ℕ) → Holder context c w → judged_as (Ok tt) ≡ sequence (property_slots w) (child_verdict ed c w (type_at context.value_type)) (nodes_at s from) 0 [] e
    walking_ends z c w o = sym (m.is c w o ∙ d.is c w o ∙ rw z)

    pub walking_stops : {v : Fault} → x ≡ Err v → (c w : List ℕ) → Holder context c w → judged_as (Err v) ≡ sequence (property_slots w) (child_verdict ed c w (type_at context.value_type)) (nodes_at s from) 0 [] e
    walking_stops z c w o = sym (m.is c w o ∙ d.is c w o ∙ rw z)

    pub walking_less : {n : Turn} → x ≡ Ok (Some n) → length s - n.at < length s - t.at
    walking_less {n} z = let o : (t.at < n.at) × (n.at ≤ length s) = subst (Onward s t.at) z d.onward in omega (arith, o.0, o.1)

pub ruleset counting = (geo_first, geo_second, geo_other, status_first, status_second, status_third, status_other, type_counted, type_after, rules)

pub ruleset wording = (word_first, word_geo, word_status, word_other, slot_numbered, length-take-le, rules)

pub ruleset aftering = (after_out, after_passed, after_several, after_one, rules)

pub ruleset insides = (inside_parameters, inside_value, rules)

pub ruleset childing = (child_good, child_bad, child_nowhere, rules)

pub ruleset ending = (end_first, end_one, end_both, end_second, rules)

pub ruleset turning = (turn_done, turn_short, turn_referred, turn_space, turn_text, turn_nowhere, turn_good, turn_stops, name_inside, content_inside, rules)

pub ruleset walking = (walking_start, walking_on, walking_ends, walking_stops, walking_less, rules)
