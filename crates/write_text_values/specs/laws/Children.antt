-- Laws of what specs/Children.antt defines.
--     Naming      the walk to it;   child_..: its ways, `search children`
--     put_chars, put_there   what is written of the characters of an element, of a child
use Rattle.std.specs.Prelude.{◌≡◌, refl, Bool, true, false, List, ℕ, ◌*◌, ◌≤◌, length, take, Option, None, Some, unwrap_or}
use Prim.{tt}
use Rattle.std.proofs.Common.{sym, subst, ◌∙◌, rules}
use native.Mathlib.Omega.{arith}
use Rattle.octets.specs.Pick.{pick}
use Rattle.octets.specs.Words.{same}
use Rattle.octets.specs.laws.Words.{same_either}
use Rattle.octets.specs.Reading.{read_or}
use Rattle.sink.specs.Sink.{Put}
use Rattle.source.specs.Source.{rest}
use Rattle.xml.specs.Nodes.{characters_of}
use Rattle.xcal.specs.ValueNodes.{child_named, text_of}
use Rattle.xml.specs.NodesAt.{nodes_at}
use Rattle.xml.specs.laws.NodesAt.{nodes_none}
use Rattle.read_xml_nodes.specs.HeadFound.{HeadAt, NodeEnded}
use Rattle.read_xml_nodes.specs.laws.HeadFound.{head_none, head_element, head_whole, end_onward, head_literal, head_literal_onward, head_referred, head_referred_onward, head_less}
use Rattle.read_xml_nodes.specs.declared.Ended.{Ended}
use Rattle.read_xml_nodes.specs.declared.Head.{Head}
use Rattle.read_xml_nodes.specs.declared.NodeKind.TheVariants.{Absent, Element, Literal, Referred}
use Rattle.read_xml_nodes.specs.laws.Characters.{characters_at}
use Rattle.read_xml_nodes.specs.laws.Walks.{Skips}
use Rattle.write_text_values.specs.laws.Walking.{Seeking, seek_start, seek_at, seek_past, seek_literal, seek_referred}
use Rattle.write_text_values.specs.Children.{ChildAt, TextAt}

-- ---- the walk

child_skips : (n : List ℕ) → Skips (child_named n)
unfolding child_named
child_skips n = record { over_literal = λ p b m. refl; over_referred = λ p bs m. refl }

pub record Naming (n s : List ℕ) (from at : ℕ) : Type 0 where
  pub walk : Seeking (child_named n) s from at

pub child_start : (n s : List ℕ) (from : ℕ) → Naming n s from from
child_start n s from = record { walk = seek_start (child_named n) s from }

module _ {n s : List ℕ} {from at : ℕ} {r : Head} (w : Naming n s from at) (d : HeadAt s at r) where
  pub child_none : r.kind ≡ Absent → ChildAt n s from None
  unfolding child_named
  child_none q = record { is = seek_at w.walk (head_none d q); within = tt }

  module _ {b : Bool} (q : r.kind ≡ Element) (e : b ≡ same (rest 0 (take r.name_end s) r.name) n) where
    named : same n (rest 0 (take r.name_end s) r.name) ≡ b
    named = same_either n _ ∙ sym e

    pub child_here : b ≡ true → ChildAt n s from (Some r.inside)
    unfolding child_named pick
    child_here h = record { is = seek_at w.walk (head_element d q) ∙ rw (named, h); within = d.inside_within }

    pub child_other : {x : Ended} → NodeEnded s at r.opens r.next x → b ≡ false → Naming n s from x.next
    unfolding child_named pick
    child_other y h = record { walk = seek_past w.walk (head_whole d q y) (rw (named, h)) (end_onward d q y) }

  pub child_literal : r.kind ≡ Literal → Naming n s from r.next
  child_literal q = record { walk = seek_literal w.walk (child_skips n) (head_literal d q) (head_literal_onward d q) }

  pub child_referred : r.kind ≡ Referred → Naming n s from r.next
  child_referred q = record { walk = seek_referred w.walk (child_skips n) (head_referred d q) (head_referred_onward d q) }

pub ruleset children = (child_start, child_none, child_here, child_other, child_literal, child_referred, head_less, rules)

-- ---- its characters

module _ {n s : List ℕ} {from : ℕ} {c : Option ℕ} (d : ChildAt n s from c) where
  text_found : {i : ℕ} → c ≡ Some i → TextAt n s from i
  unfolding read_or
  text_found h = record { is = rw (d.is, h); within = rw h at d.within }

  text_missing : c ≡ None → TextAt n s from (length s)
  unfolding read_or characters_of
  text_missing h = record { is = rw (d.is, h, nodes_none s (length s) (omega arith)); within = omega arith }

  pub text_or_end : TextAt n s from (unwrap_or c (length s))
  text_or_end = go c refl
    where
      go : (o : Option ℕ) → c ≡ o → TextAt n s from (unwrap_or o (length s))
      go None h = text_missing h
      go (Some i) h = text_found h

  pub found_within : {i : ℕ} → c ≡ Some i → i ≤ length s
  found_within h = rw h at d.within

-- what is written of the characters that are read there
pub put_chars : {d e : List ℕ} {o r : ℕ} (f : List ℕ → List ℕ) (s : List ℕ) (i : ℕ) → Put d e o r (f (rest 1 s (2 * i))) → Put d e o r (f (characters_of (nodes_at s i)))
put_chars {d} {e} {o} {r} f s i p = subst (λ l. Put d e o r (f l)) (characters_at s i) p

pub put_there : {d e : List ℕ} {o r : ℕ} (f : List ℕ → List ℕ) {n s : List ℕ} {from i : ℕ} → TextAt n s from i → Put d e o r (f (rest 1 s (2 * i))) → Put d e o r (f (text_of n (nodes_at s from)))
put_there {d} {e} {o} {r} f {n} {s} {from} {i} t p = subst (λ l. Put d e o r (f l)) (characters_at s i ∙ sym t.is) p
