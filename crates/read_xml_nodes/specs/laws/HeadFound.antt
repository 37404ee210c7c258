-- Laws of what specs/HeadFound.antt defines.
--     head_none, head_element, head_literal, head_referred    the content, by the kind of node;   head_whole: an element whose end was sought
--     head_less            a node takes bytes;   `search heads_found` for the answers of `node_head`
use Rattle.std.specs.Prelude.{◌≡◌, refl, Bool, true, false, List, ℕ, ◌+◌, ◌-◌, ◌≤◌, ◌<◌, length, take, drop, get_or}
use Rattle.std.proofs.Common.{sym, ap, subst, ◌∙◌, arith, rules}
use Rattle.std.proofs.Math.Logic.{◌⊎◌, inl, inr}
use Prim.{tt}
use Rattle.octets.specs.Pick.{pick}
use Rattle.octets.specs.laws.Scan.{drop_next}
use Rattle.utf8.specs.Spell.{spell}
use Rattle.source.specs.Source.{rest}
use Rattle.xml.specs.Token.{char_byte, token}
use Rattle.xml.specs.Nodes.{no_nodes, element, literal, referred}
use Rattle.xml.specs.NodesAt.{nodes_at}
use Rattle.xml.specs.laws.NodesAt.{nodes_start, nodes_empty, nodes_end, nodes_char, nodes_reference, nodes_none}
use Rattle.read_xml_nodes.specs.Plain.{is_plain}
use Rattle.read_xml_nodes.specs.laws.Plain.{plain_token}
use Rattle.read_xml_nodes.specs.laws.Tokens.{marked, token_onward, name_inside, token_first, token_is, token_past, start_sound, empty_sound, end_sound, char_sound, reference_sound}
use Rattle.read_xml_tokens.specs.TokenAt.{Reads, token_in}
use Rattle.read_xml_nodes.specs.Closing.{EndedAt}
use Rattle.read_xml_nodes.specs.laws.Closing.{nodes_are}
use Rattle.read_xml_nodes.specs.HeadFound.{after_tag, end_of_tag, head_by, Takes, HeadAt, NodeEnded, no_head, character_head}
use Rattle.read_xml_nodes.specs.declared.Ended.{Ended}
use Rattle.read_xml_nodes.specs.declared.Head.{Head}
use Rattle.read_xml_nodes.specs.declared.NodeKind.{NodeKind}
use Rattle.read_xml_nodes.specs.declared.NodeKind.TheVariants.{Absent, Element, Literal, Referred}
use Rattle.read_xml_tokens.specs.declared.TokenAt.{TokenAt}
use Rattle.read_xml_tokens.specs.declared.TokenKind.TheVariants.{Start, Empty, End, Char, Reference, Fault}

-- ---- by the kind of node

module _ {s : List ℕ} {at : ℕ} {h : Head} (n : HeadAt s at h) where
  by_kind : (k : NodeKind) → h.kind ≡ k → nodes_at s at ≡ head_by k s at h
  by_kind k q = n.is ∙ ap (λ (x : NodeKind). head_by x s at h) q

  takes_by : (k : NodeKind) → h.kind ≡ k → Takes k at h.inside h.next
  takes_by k q = subst (λ (x : NodeKind). Takes x at h.inside h.next) q n.takes

  pub head_none : h.kind ≡ Absent → nodes_at s at ≡ no_nodes
  head_none q = by_kind Absent q

  pub tag_within : h.kind ≡ Element → h.next ≤ length s
  tag_within q = n.next_within

  module _ (q : h.kind ≡ Element) where
    pub head_element :
        nodes_at s at ≡ element at (rest 0 (take h.name_end s) h.name) (end_of_tag s at h.opens h.next) (nodes_at s h.inside) (after_tag s h.opens h.next)
    head_element = by_kind Element q

    pub head_onward : (at < h.next) × (at < h.inside)
    head_onward = takes_by Element q

    pub head_inside_less : length s - h.inside < length s - at
    head_inside_less = omega (arith, head_onward, n.inside_within)

    module _ {e : Ended} (d : NodeEnded s at h.opens h.next e) where
      pub head_whole : nodes_at s at ≡ element at (rest 0 (take h.name_end s) h.name) e.place (nodes_at s h.inside) (nodes_at s e.next)
      head_whole = head_element ∙ rw (d.place, d.after)

      pub end_onward : at < e.next
      end_onward = omega (arith, head_onward, d.onward)

      pub end_less : length s - e.next < length s - at
      end_less = omega (arith, end_onward, d.within)

  module _ (q : h.kind ≡ Literal) where
    pub head_literal : nodes_at s at ≡ literal at h.unit (nodes_at s h.next)
    head_literal = by_kind Literal q

    pub head_literal_onward : at < h.next
    head_literal_onward = takes_by Literal q

    pub head_literal_less : length s - h.next < length s - at
    head_literal_less = omega (arith, head_literal_onward, n.next_within)

  module _ (q : h.kind ≡ Referred) where
    pub head_referred : nodes_at s at ≡ referred at (spell h.unit) (nodes_at s h.next)
    head_referred = by_kind Referred q

    pub head_referred_onward : at < h.next
    head_referred_onward = takes_by Referred q

    pub head_referred_less : length s - h.next < length s - at
    head_referred_less = omega (arith, head_referred_onward, n.next_within)

  pub head_character_less : (h.kind ≡ Literal) ⊎ (h.kind ≡ Referred) → length s - h.next < length s - at
  head_character_less (inl q) = head_literal_less q
  head_character_less (inr q) = head_referred_less q

-- the measure of a walk falls with each node, and an element's end may be sought
pub ruleset head_less = (tag_within, end_less, head_character_less)

-- ---- what `node_end` answers

pub ended_open : {s : List ℕ} {next : ℕ} {e : Ended} (at : ℕ) {b : Bool} → b ≡ true → EndedAt s next e → NodeEnded s at b next e
unfolding pick
ended_open at h d = rw h (record { place = d.place; after = d.after; onward = d.onward; within = d.inside })

pub ended_empty : (s : List ℕ) (at : ℕ) {b : Bool} (next : ℕ) → next ≤ length s → b ≡ false → NodeEnded s at b next (record { place = at; next = next })
unfolding pick
ended_empty s at next l h = rw h (record { place = refl; after = refl; onward = omega arith; within = l })

pub ruleset ends_found = (ended_open, ended_empty, rules)

-- ---- what `node_head` answers

-- a character's head
character_found : {s : List ℕ} {at u next : ℕ} {r : Head} → r ≡ character_head Literal (length s) u next → nodes_at s at ≡ literal at u (nodes_at s next) → at < next → next ≤ length s → HeadAt s at r
character_found {r = r} e h a b =
    rw e (record { is = h; named = omega arith; name_within = omega arith; inside_within = omega arith; next_within = b; takes = a })

pub nodes_plain : (s : List ℕ) (at : ℕ) → at < length s → is_plain (get_or s at 0) ≡ true → nodes_at s at ≡ literal at (get_or s at 0) (nodes_at s (at + 1))
nodes_plain s at h p =
    let t : token (get_or s at 0) (drop (at + 1) s) ≡ char_byte (get_or s at 0) 0 = plain_token (get_or s at 0) (drop (at + 1) s) p in
    let n : at + 1 + 0 ≡ at + 1 = omega arith in
    nodes_char s at _ _ (drop_next s at h) _ _ t ∙ ap (λ (i : ℕ). literal at (get_or s at 0) (nodes_at s i)) n

pub found_plain : {s : List ℕ} {at b : ℕ} {p : Bool} {r : Head} → at < length s → (b ≡ get_or s at 0) × (b < 256) → p ≡ is_plain b → p ≡ true →
    r ≡ character_head Literal (length s) b (at + 1) → HeadAt s at r
found_plain {s} {at} {b} {p} h e q y k =
    let i : nodes_at s at ≡ literal at b (nodes_at s (at + 1)) = nodes_plain s at h (ap is_plain (sym e.0) ∙ sym q ∙ y) ∙ ap (λ (u : ℕ). literal at u (nodes_at s (at + 1))) (sym e.0) in
    character_found k i (omega arith) (omega (arith, h))

module _ {s : List ℕ} {at : ℕ} {t : TokenAt} (f : Reads token_in s at at t) where
  pub found_start : t.kind ≡ Start → HeadAt s at (record { kind = Element; name = t.name; name_end = t.name_end; inside = t.next; opens = true; next = t.next; unit = 0 })
  unfolding pick
  found_start q =
      let b = token_onward f q start_sound in record {
        is = nodes_start s at _ _ (token_first f q start_sound) _ _ (token_is f q start_sound) ∙ rw (token_past f q start_sound);
        named = f.named;
        name_within = name_inside f q start_sound;
        inside_within = b.1;
        next_within = b.1;
        takes = (b.0, b.0);
      }

  pub found_empty : t.kind ≡ Empty →
      HeadAt s at (record { kind = Element; name = t.name; name_end = t.name_end; inside = length s; opens = false; next = t.next; unit = 0 })
  unfolding pick
  found_empty q =
      let b = token_onward f q empty_sound in record {
        is = nodes_empty s at _ _ (token_first f q empty_sound) _ _ (token_is f q empty_sound) ∙ rw (token_past f q empty_sound, nodes_none s (length s) (omega arith));
        named = f.named;
        name_within = name_inside f q empty_sound;
        inside_within = omega arith;
        next_within = b.1;
        takes = (b.0, omega (arith, b));
      }

  none_found : {r : Head} → r ≡ no_head (length s) → nodes_at s at ≡ no_nodes → HeadAt s at r
  none_found {r} e h = rw e (record { is = h; named = omega arith; name_within = omega arith; inside_within = omega arith; next_within = omega arith; takes = tt })

  pub found_none : {r : Head} → (t.kind ≡ End) ⊎ (t.kind ≡ Fault) → r ≡ no_head (length s) → HeadAt s at r
  found_none (inl q) e = none_found e (nodes_end s at _ _ (token_first f q end_sound) _ _ (token_is f q end_sound))
  found_none (inr q) e = none_found e (nodes_are s at ∙ (marked f Fault q 0).0)

  pub found_char : {r : Head} → t.kind ≡ Char → r ≡ character_head Literal (length s) t.unit t.next → HeadAt s at r
  found_char q e =
      let b = token_onward f q char_sound in
      character_found e (nodes_char s at _ _ (token_first f q char_sound) _ _ (token_is f q char_sound) ∙ rw (token_past f q char_sound)) b.0 b.1

  pub found_reference : {r : Head} → t.kind ≡ Reference → r ≡ character_head Referred (length s) t.unit t.next → HeadAt s at r
  found_reference q e =
      let b = token_onward f q reference_sound in rw e (record {
        is = nodes_reference s at _ _ (token_first f q reference_sound) _ _ (token_is f q reference_sound) ∙ rw (token_past f q reference_sound);
        named = omega arith;
        name_within = omega arith;
        inside_within = omega arith;
        next_within = b.1;
        takes = b.0;
      })

pub ruleset heads_found = (found_start, found_empty, found_none, found_char, found_reference, found_plain, rules)
