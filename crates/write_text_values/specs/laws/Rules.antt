-- Laws of what specs/Rules.antt defines.
--     part_named     an element is one of the part's, by its name's place;   part_capitals: the part's name from it
--     Listing    its walk, `search items`
use Prim.{tt}
use Rattle.std.specs.Prelude.{◌≡◌, refl, true, List, [], map, ℕ, ◌<◌, eqb, take, get_or, None, Some}
use Rattle.std.proofs.Common.{sym, ap, ◌∙◌, arith, rules}
use borrow.Author.Tests.{eq-eqb, ne_eqb}
use Rattle.octets.specs.Pick.{pick}
use Rattle.octets.specs.Class.{upper, lower}
use Rattle.octets.specs.Words.{same, is_one_of}
use Rattle.octets.specs.laws.Words.{same_true}
use Rattle.octets.specs.Lists.{every}
use Rattle.octets.specs.Computing.{octets_compute}
use Rattle.source.specs.Source.{rest}
use Rattle.names.specs.Table.{place_of}
use Rattle.names.specs.laws.Places.{same_place}
use Rattle.schema.specs.Cells.{tabled}
use Rattle.schema.specs.laws.Cells.{tabled_at, column_at, row_at_passes}
use Rattle.recur.specs.Parts.{part_names}
use Rattle.xcal.specs.ValueNodes.{items_of}
use Rattle.read_xml_nodes.specs.NodeFound.{NodeAt}
use Rattle.read_xml_nodes.specs.laws.NodeFound.{node_none, node_element, node_literal, node_referred, element_onward, literal_onward, referred_onward, node_less}
use Rattle.read_xml_nodes.specs.declared.Node.{Node}
use Rattle.read_xml_nodes.specs.declared.NodeKind.TheVariants.{Absent, Element, Literal, Referred}
use Rattle.read_xml_value.specs.Parts.{recur_names}
use Rattle.read_xml_nodes.specs.laws.Walks.{Skips}
use Rattle.write_text_values.specs.laws.Walking.{Seeking, seek_start, seek_at, seek_past, seek_literal, seek_referred}
use Rattle.write_text_values.specs.Rules.{part_name, ItemAt}

-- ---- the part of an element

words_known : every (λ w. is_one_of (lower w) recur_names) part_names ≡ true
unfolding octets_compute
words_known = refl

words_placed : map (λ w. place_of (lower w) recur_names) part_names ≡ tabled (λ i. i) 0 14
unfolding octets_compute place_of tabled
words_placed = refl

names_capital : every (λ w. same (upper (lower w)) w) part_names ≡ true
unfolding octets_compute
names_capital = refl

place_again : (p : ℕ) → p < 14 → place_of (lower (part_name p)) recur_names ≡ p
place_again p h =
    sym (column_at (λ w. place_of (lower w) recur_names) [] part_names p h) ∙ ap (λ (l : List ℕ). get_or l p 0) words_placed ∙ tabled_at (λ i. i) 14 0 p h ∙ omega arith

pub part_named : (p : ℕ) (m : List ℕ) → p < 14 → same m (lower (part_name p)) ≡ eqb (place_of m recur_names) p
part_named p m h =
    same_place m (lower (part_name p)) recur_names (row_at_passes (λ w. is_one_of (lower w) recur_names) [] part_names p words_known h)
    ∙ ap (eqb (place_of m recur_names)) (place_again p h)

pub part_capitals : (p : ℕ) (m : List ℕ) → p < 14 → m ≡ lower (part_name p) → upper m ≡ part_name p
part_capitals p m h e = ap upper e ∙ same_true (upper (lower (part_name p))) (part_name p) (row_at_passes (λ w. same (upper (lower w)) w) [] part_names p names_capital h)

-- ---- the walk to an item

item_skips : (n : List ℕ) → Skips (items_of n)
unfolding items_of
item_skips n = record { over_literal = λ p b m. refl; over_referred = λ p bs m. refl }

pub record Listing (p : ℕ) (s : List ℕ) (from at : ℕ) : Type 0 where
  pub walk : Seeking (items_of (part_name p)) s from at

pub item_start : (p : ℕ) (s : List ℕ) (from : ℕ) → Listing p s from from
item_start p s from = record { walk = seek_start (items_of (part_name p)) s from }

module _ {p : ℕ} {s : List ℕ} {from at : ℕ} {r : Node} (w : Listing p s from at) (d : NodeAt s at r) where
  pub item_none : r.kind ≡ Absent → ItemAt p s from None
  unfolding items_of
  item_none q = record { is = seek_at w.walk (node_none d q); within = tt }

  module _ {k : ℕ} (h : p < 14) (q : r.kind ≡ Element) (e : k ≡ place_of (rest 0 (take r.name_end s) r.name) recur_names) where
    named : same (rest 0 (take r.name_end s) r.name) (lower (part_name p)) ≡ eqb k p
    named = part_named p (rest 0 (take r.name_end s) r.name) h ∙ ap (λ (j : ℕ). eqb j p) (sym e)

    pub item_here : k ≡ p → ItemAt p s from (Some (record { name = r.name; name_end = r.name_end; inside = r.inside; next = r.next }))
    unfolding items_of pick
    item_here z = record {
      is = seek_at w.walk (node_element d q) ∙ rw (named, eq-eqb k p z);
      within = record {
        inside = d.inside_within;
        next = d.next_within;
        onward = omega (arith, w.walk.onward, element_onward d q);
        name = d.name_within;
        named = same_true _ _ (named ∙ eq-eqb k p z);
      };
    }

    pub item_other : (k ≡ p → ⊥) → Listing p s from r.next
    unfolding items_of pick
    item_other z = record { walk = seek_past w.walk (node_element d q) (rw (named, ne_eqb k p z)) (element_onward d q).0 }

  pub item_literal : r.kind ≡ Literal → Listing p s from r.next
  item_literal q = record { walk = seek_literal w.walk (item_skips (part_name p)) (node_literal d q) (literal_onward d q) }

  pub item_referred : r.kind ≡ Referred → Listing p s from r.next
  item_referred q = record { walk = seek_referred w.walk (item_skips (part_name p)) (node_referred d q) (referred_onward d q) }

pub ruleset items = (item_start, item_none, item_here, item_other, item_literal, item_referred, node_less, rules)
