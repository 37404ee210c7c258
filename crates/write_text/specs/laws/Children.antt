-- Laws of what specs/Children.antt defines.
--     Seeking     the invariant of the loop over the children;   `search seeking`
use Rattle.std.specs.Prelude.{◌≡◌, refl, Bool, true, false, List, ℕ, ◌-◌, ◌≤◌, length}
use Rattle.std.proofs.Math.Path.{sym, ap}
use Rattle.std.proofs.Common.{◌∙◌, rules}
use native.Mathlib.Omega.{arith}
use Rattle.octets.specs.Pick.{pick}
use Rattle.octets.specs.Words.{same}
use Rattle.xcal.specs.ComponentNodes.{inside_of}
use Rattle.xml.specs.NodesAt.{nodes_at}
use Rattle.xml.specs.laws.NodesAt.{nodes_none}
use Rattle.read_xml_nodes.specs.HeadFound.{HeadAt, NodeEnded}
use Rattle.read_xml_nodes.specs.laws.HeadFound.{head_none, head_element, head_whole, head_onward, end_less, head_literal, head_literal_less, head_referred, head_referred_less, head_less}
use Rattle.read_xml_nodes.specs.declared.Ended.{Ended}
use Rattle.read_xml_nodes.specs.declared.Head.{Head}
use Rattle.read_xml_nodes.specs.declared.NodeKind.TheVariants.{Absent, Element, Literal, Referred}
use Rattle.write_text.specs.Children.{name_in, InsideAt}

-- it is the same from here on
pub record Seeking (w s : List ℕ) (from at : ℕ) : Type 0 where
  pub is : inside_of w (nodes_at s from) ≡ inside_of w (nodes_at s at)
  pub onward : length s - at ≤ length s - from

pub seeking_start : (w s : List ℕ) (from : ℕ) → Seeking w s from from
seeking_start w s from = record { is = refl; onward = omega arith }

module _ {w s : List ℕ} {from at : ℕ} {r : Head} (p : Seeking w s from at) (n : HeadAt s at r) where
  pub seeking_none : r.kind ≡ Absent → InsideAt w s from (length s)
  unfolding inside_of
  seeking_none q = record { is = p.is ∙ ap (inside_of w) (head_none n q) ∙ sym (nodes_none s (length s) (omega arith)); within = omega arith; onward = omega arith }

  module _ {b : Bool} (q : r.kind ≡ Element) (e : b ≡ same (name_in s r.name r.name_end) w) where
    pub seeking_here : b ≡ true → InsideAt w s from r.inside
    unfolding inside_of pick
    seeking_here h = record {
      is = p.is ∙ ap (inside_of w) (head_element n q) ∙ rw (← e, h);
      within = n.inside_within;
      onward = omega (arith, p.onward, head_onward n q);
    }

    pub seeking_pass : {x : Ended} → NodeEnded s at r.opens r.next x → b ≡ false → Seeking w s from x.next
    unfolding inside_of pick
    seeking_pass y h = record { is = p.is ∙ ap (inside_of w) (head_whole n q y) ∙ rw (← e, h); onward = omega (arith, p.onward, end_less n q y) }

  pub seeking_literal : r.kind ≡ Literal → Seeking w s from r.next
  unfolding inside_of
  seeking_literal q = record { is = p.is ∙ ap (inside_of w) (head_literal n q); onward = omega (arith, p.onward, head_literal_less n q) }

  pub seeking_referred : r.kind ≡ Referred → Seeking w s from r.next
  unfolding inside_of
  seeking_referred q = record { is = p.is ∙ ap (inside_of w) (head_referred n q); onward = omega (arith, p.onward, head_referred_less n q) }

pub ruleset seeking = (seeking_start, seeking_none, seeking_here, seeking_pass, seeking_literal, seeking_referred, head_less, rules)
