-- Laws of what specs/Children.antt defines.
--     skipped    a function that passes over characters says the same from the next element on
--     Looking    the invariant of its loop;   `search looking`
--     children_none, children_some, child_less    a walk over elements
--     encoding_..            the walk that looks for ENCODING
use Rattle.std.proofs.Math.Path.{◌≡◌, sym, ap}
use Rattle.std.specs.Prelude.{refl, Bool, true, false, List, ℕ, ◌-◌, ◌≤◌, ◌<◌, length}
use Rattle.std.proofs.Common.{◌∙◌, arith, rules}
use Rattle.octets.specs.Ascii.{ascii}
use Rattle.octets.specs.Pick.{◌or◌}
use Rattle.octets.specs.Words.{same}
use Rattle.source.specs.Source.{rest}
use Rattle.source.specs.laws.Facts.{rest_plain, rest_part}
use Rattle.xml.specs.Nodes.{Nodes, no_nodes, element, literal, referred}
use Rattle.xcal.specs.ParameterNodes.{has_encoding}
use Rattle.xml.specs.NodesAt.{nodes_at}
use Rattle.read_xml_nodes.specs.NodeFound.{NodeAt}
use Rattle.read_xml_nodes.specs.laws.NodeFound.{node_none, node_element, node_literal, node_referred, element_onward, literal_onward, referred_onward, literal_less, referred_less}
use Rattle.read_xml_nodes.specs.laws.Walks.{Passing, passing_start, Skips}
use Rattle.read_xml_nodes.specs.declared.Node.{Node}
use Rattle.read_xml_nodes.specs.declared.NodeKind.TheVariants.{Absent, Element, Literal, Referred}
use Rattle.read_xml_parameters.specs.Children.{from_element, name_of, child_of, ChildAt}
use Rattle.read_xml_parameters.specs.declared.Child.{Child}

pub skipped : {A : Type 0} (f : Nodes → A) → Skips f → (kids : Nodes) → f kids ≡ f (from_element kids)
unfolding from_element
skipped f k no_nodes = refl
skipped f k (literal p b more) = k.over_literal p b more ∙ skipped f k more
skipped f k (referred p bs more) = k.over_referred p bs more ∙ skipped f k more
skipped f k (element p m x kids more) = refl

-- ---- the next element

pub record Looking (s : List ℕ) (from at : ℕ) : Type 0 where
  pub is : from_element (nodes_at s from) ≡ from_element (nodes_at s at)
  pub low : from ≤ at

pub looking_start : (s : List ℕ) (from : ℕ) → Looking s from from
looking_start s from = record { is = refl; low = omega arith }

-- an element's name as the bytes between two places
pub node_named : {s : List ℕ} {at : ℕ} {r : Node} → NodeAt s at r → r.kind ≡ Element →
    nodes_at s at ≡ element at (name_of s r.name r.name_end) r.end (nodes_at s r.inside) (nodes_at s r.next)
node_named {s} {at} {r} n q = node_element n q ∙ rw (rest_part s r.name r.name_end)

module _ {s : List ℕ} {from at : ℕ} {r : Node} (l : Looking s from at) (n : NodeAt s at r) where
  pub looking_literal : r.kind ≡ Literal → Looking s from r.next
  unfolding from_element
  looking_literal q = record { is = l.is ∙ ap from_element (node_literal n q); low = omega (arith, literal_onward n q, l.low) }

  pub looking_referred : r.kind ≡ Referred → Looking s from r.next
  unfolding from_element
  looking_referred q = record { is = l.is ∙ ap from_element (node_referred n q); low = omega (arith, referred_onward n q, l.low) }

  pub child_missing : r.kind ≡ Absent → ChildAt s from (record { there = false; place = at; name = 0; name_end = 0; inside = length s; end = 0; next = length s })
  unfolding from_element
  child_missing q = record {
    some = λ h. let z : ◌≡◌ {A = ℕ} 0 1 = cc in absurd (omega arith);
    none = λ h. l.is ∙ ap from_element (node_none n q);
    named = omega arith;
    name_within = omega arith;
    inside_within = omega arith;
    next_within = omega arith;
    onward = λ h. let z : ◌≡◌ {A = ℕ} 0 1 = cc in absurd (omega arith);
  }

  pub child_found : r.kind ≡ Element → ChildAt s from (record { there = true; place = at; name = r.name; name_end = r.name_end; inside = r.inside; end = r.end; next = r.next })
  unfolding from_element
  child_found q = record {
    some = λ h. l.is ∙ ap from_element (node_named n q);
    none = λ h. let z : ◌≡◌ {A = ℕ} 0 1 = cc in absurd (omega arith);
    named = n.named;
    name_within = n.name_within;
    inside_within = n.inside_within;
    next_within = n.next_within;
    onward = λ h. omega (arith, element_onward n q, l.low);
  }

pub ruleset looking = (looking_start, looking_literal, looking_referred, child_missing, child_found, literal_less, referred_less, rules)

-- ---- walks over elements

pub child_less : {s : List ℕ} {at : ℕ} {r : Child} → ChildAt s at r → r.there ≡ true → length s - r.next < length s - at
child_less n h = omega (arith, n.onward h, n.next_within)

module _ {A : Type 0} {f : Nodes → A} (k : Skips f) {s : List ℕ} {from at : ℕ} {r : Child} (p : Passing f s from at) (n : ChildAt s at r) where
  pub children_none : r.there ≡ false → f (nodes_at s from) ≡ f no_nodes
  children_none h = p.is ∙ skipped f k (nodes_at s at) ∙ ap f (n.none h)

  pub children_some : r.there ≡ true → f (nodes_at s from) ≡ f (child_of s r)
  children_some h = p.is ∙ skipped f k (nodes_at s at) ∙ ap f (n.some h)

-- ---- ENCODING

skips_encoding : Skips has_encoding
unfolding has_encoding
skips_encoding = record { over_literal = λ p b more. refl; over_referred = λ p bs more. refl }

module _ {s : List ℕ} {from at : ℕ} {r : Child} (p : Passing has_encoding s from at) (n : ChildAt s at r) where
  pub encoding_none : r.there ≡ false → false ≡ has_encoding (nodes_at s from)
  unfolding has_encoding
  encoding_none h = sym (children_none skips_encoding p n h)

  module _ {b : Bool} (h : r.there ≡ true) (e : b ≡ same (name_of s r.name r.name_end) (ascii "encoding")) where
    pub encoding_here : b ≡ true → true ≡ has_encoding (nodes_at s from)
    unfolding has_encoding ◌or◌
    encoding_here q = sym (children_some skips_encoding p n h ∙ rw (← e, q))

    pub encoding_later : b ≡ false → Passing has_encoding s from r.next
    unfolding has_encoding ◌or◌
    encoding_later q = record { is = children_some skips_encoding p n h ∙ rw (← e, q) }

pub is_whole : {A : Type 0} (f : List ℕ → A) (w : List ℕ) {r : A} → r ≡ f (rest 0 w 0) → r ≡ f w
is_whole f w e = e ∙ ap f (rest_plain w)

pub ruleset encodings = (passing_start, encoding_none, encoding_here, encoding_later, child_less, rules)
