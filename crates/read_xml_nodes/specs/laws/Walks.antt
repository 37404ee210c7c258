-- Walks over nodes that pass over characters, and the look for a capital in a name.
--     Passing f    the invariant of a walk: what f says of the content is the same from here on
--     Skips f      characters say nothing to f
--     firsts       the walk to the first element;   first_asked: whether there is one, and its refusal
--     Capitals     the invariant of the look for a capital;   `search capitals`
use Rattle.std.specs.Prelude.{◌≡◌, refl, Bool, true, false, List, ℕ, ◌+◌, ◌-◌, ◌*◌, ◌≤◌, ◌<◌, length, take, get_or, Option, None, Some, Ok, option_map, is_some}
use Rattle.std.proofs.Math.Path.{sym, ap}
use Rattle.std.proofs.Common.{◌∙◌, arith, take_all, rules}
use Rattle.std.proofs.Math.Logic.{◌⊎◌, inl, inr}
use Rattle.octets.specs.Pick.{◌or◌}
use Rattle.octets.specs.Class.{is_capital}
use Rattle.calendar.specs.Refusal.{Verdict, fine}
use Rattle.source.specs.Source.{rest, Reads}
use Rattle.source.specs.laws.Facts.{rest_byte, rest_end, byte_small}
use Rattle.source.specs.declared.points.Unit.{Unit}
use Rattle.xml.specs.Nodes.{Nodes, no_nodes, element, literal, referred, has_element}
use Rattle.xcal.specs.Layout.{has_capital, unexpected, inner_element}
use Rattle.xml.specs.NodesAt.{nodes_at}
use Rattle.xml.specs.laws.NodesAt.{nodes_none}
use Rattle.read_xml_nodes.specs.First.{first_element, first_of}
use Rattle.read_xml_nodes.specs.Plain.{is_plain}
use Rattle.read_xml_nodes.specs.HeadFound.{HeadAt}
use Rattle.read_xml_nodes.specs.laws.HeadFound.{nodes_plain, head_none, head_element, head_literal, head_referred, head_character_less}
use Rattle.refusals.specs.Fault.{judged_as}
use Rattle.read_xml_nodes.specs.declared.first.FirstElement.{FirstElement}
use Rattle.read_xml_nodes.specs.declared.Head.{Head}
use Rattle.read_xml_nodes.specs.declared.NodeKind.TheVariants.{Absent, Element, Literal, Referred}

pub record Passing {A : Type 0} (f : Nodes → A) (s : List ℕ) (from at : ℕ) : Type 0 where
  pub is : f (nodes_at s from) ≡ f (nodes_at s at)

pub passing_start : {A : Type 0} (f : Nodes → A) (s : List ℕ) (from : ℕ) → Passing f s from from
passing_start f s from = record { is = refl }

-- characters say nothing to f
pub record Skips {A : Type 0} (f : Nodes → A) : Type 0 where
  pub over_literal : (p b : ℕ) (more : Nodes) → f (literal p b more) ≡ f more
  pub over_referred : (p : ℕ) (bs : List ℕ) (more : Nodes) → f (referred p bs more) ≡ f more

module _ {A : Type 0} {f : Nodes → A} (k : Skips f) {s : List ℕ} {from at : ℕ} (p : Passing f s from at) where
  pass_plain : {b : ℕ} {q : Bool} → at < length s → (b ≡ get_or s at 0) × (b < 256) → q ≡ is_plain b → q ≡ true → Passing f s from (at + 1)
  pass_plain h e q y = record { is = p.is ∙ ap f (nodes_plain s at h (ap is_plain (sym e.0) ∙ sym q ∙ y)) ∙ k.over_literal _ _ _ }

  module _ {r : Head} (n : HeadAt s at r) where
    pass_literal : r.kind ≡ Literal → Passing f s from r.next
    pass_literal q = record { is = p.is ∙ ap f (head_literal n q) ∙ k.over_literal _ _ _ }

    pass_referred : r.kind ≡ Referred → Passing f s from r.next
    pass_referred q = record { is = p.is ∙ ap f (head_referred n q) ∙ k.over_referred _ _ _ }

    pub pass_character : (r.kind ≡ Literal) ⊎ (r.kind ≡ Referred) → Passing f s from r.next
    pass_character (inl q) = pass_literal q
    pass_character (inr q) = pass_referred q

pub plain_less : (s : List ℕ) (at : ℕ) → at < length s → length s - (at + 1) < length s - at
plain_less s at h = omega arith

-- ---- the first element

first_skips : Skips first_element
unfolding first_element
first_skips = record { over_literal = λ p b m. refl; over_referred = λ p bs m. refl }

module _ {s : List ℕ} {from at : ℕ} (p : Passing first_element s from at) where
  pub first_past : length s ≤ at → first_element (nodes_at s from) ≡ None
  unfolding first_element
  first_past h = p.is ∙ ap first_element (nodes_none s at h)

  pub first_plain : {b : ℕ} {q : Bool} → at < length s → (b ≡ get_or s at 0) × (b < 256) → q ≡ is_plain b → q ≡ true → Passing first_element s from (at + 1)
  first_plain h e q y = pass_plain first_skips p h e q y

  module _ {r : Head} (n : HeadAt s at r) where
    pub first_none : r.kind ≡ Absent → first_element (nodes_at s from) ≡ None
    unfolding first_element
    first_none q = p.is ∙ ap first_element (head_none n q)

    pub first_here : r.kind ≡ Element → first_element (nodes_at s from) ≡ Some (at, rest 0 (take r.name_end s) r.name)
    unfolding first_element
    first_here q = p.is ∙ ap first_element (head_element n q)

    pub first_character : (r.kind ≡ Literal) ⊎ (r.kind ≡ Referred) → Passing first_element s from r.next
    first_character q = pass_character first_skips p n q

pub ruleset firsts = (passing_start, first_past, first_plain, first_none, first_here, first_character, plain_less, head_character_less, rules)

-- ---- what is asked of it

abbrev stands : Option (ℕ × List ℕ) → Bool
stands None = false
stands (Some f) = true

has_is : (kids : Nodes) → has_element kids ≡ stands (first_element kids)
unfolding has_element first_element
has_is no_nodes = refl
has_is (element p n x kids more) = refl
has_is (literal p b more) = has_is more
has_is (referred p bs more) = has_is more

abbrev refused : Option (ℕ × List ℕ) → Verdict
refused None = fine
refused (Some f) = unexpected f.0 f.1

inner_is : (kids : Nodes) → inner_element kids ≡ refused (first_element kids)
unfolding inner_element first_element
inner_is no_nodes = refl
inner_is (element p n x kids more) = refl
inner_is (literal p b more) = inner_is more
inner_is (referred p bs more) = inner_is more

module _ (s : List ℕ) (at : ℕ) (r : Option FirstElement) (e : first_element (nodes_at s at) ≡ option_map (first_of s) r) where
  pub has_first : is_some r ≡ has_element (nodes_at s at)
  has_first = sym (has_is (nodes_at s at) ∙ ap stands e ∙ go r)
    where
      go : (o : Option FirstElement) → stands (option_map (first_of s) o) ≡ is_some o
      go None = refl
      go (Some f) = refl

  pub inner_some : {f : FirstElement} → r ≡ Some f → {v : Verdict} → unexpected f.place (rest 0 (take f.name_end s) f.name) ≡ v → inner_element (nodes_at s at) ≡ v
  inner_some q h = inner_is (nodes_at s at) ∙ ap refused (e ∙ ap (option_map (first_of s)) q) ∙ h

  pub inner_no : r ≡ None → inner_element (nodes_at s at) ≡ judged_as (Ok tt)
  inner_no q = inner_is (nodes_at s at) ∙ ap refused (e ∙ ap (option_map (first_of s)) q)

pub ruleset first_asked = (has_first, inner_some, inner_no, rules)

-- ---- capitals

pub record Capitals (s : List ℕ) (from at : ℕ) : Type 0 where
  pub is : has_capital (rest 0 s from) ≡ has_capital (rest 0 s at)

pub capitals_start : (s : List ℕ) (from : ℕ) → Capitals s from from
capitals_start s from = record { is = refl }

module _ {s : List ℕ} {from at : ℕ} {n : Unit} (c : Capitals s from at) (p : Reads 0 s at n) where
  pub capitals_end : n.u ≡ 256 → false ≡ has_capital (rest 0 s from)
  unfolding has_capital
  capitals_end h = sym (c.is ∙ rw (rest_end p h))

  module _ {b : Bool} (h : n.u ≡ 256 → ⊥) (e : b ≡ is_capital n.u) where
    pub capitals_found : b ≡ true → true ≡ has_capital (rest 0 s from)
    unfolding has_capital ◌or◌
    capitals_found q = sym (c.is ∙ rw (rest_byte p h, ← e, q))

    pub capitals_more : b ≡ false → Capitals s from n.next
    unfolding has_capital ◌or◌
    capitals_more q = record { is = c.is ∙ rw (rest_byte p h, ← e, q) }

    pub capitals_less : 4 * length s - n.next < 4 * length s - at
    capitals_less = let u : n.u < 256 = byte_small p h in omega arith

pub ruleset capitals = (capitals_start, capitals_end, capitals_found, capitals_more, capitals_less, rules)

-- bytes that are cut behind their end
pub capital_whole : (s : List ℕ) (a e : ℕ) {b : Bool} → length s < e → b ≡ has_capital (rest 0 s a) → b ≡ has_capital (rest 0 (take e s) a)
capital_whole s a e h q = q ∙ ap (λ (x : List ℕ). has_capital (rest 0 x a)) (sym (take_all e s (omega arith)))
