-- What a token that was found at a place says of the marks from there on.
--     MarkedBy       the marks, by the kind of token;   marked: they are so
--     token_first, token_is, token_past    the bytes of a token, the token as XML has it, and what follows
--     token_onward   a token, unless it is a fault, takes bytes and is within the input
use Rattle.std.specs.Prelude.{◌≡◌, refl, Bool, true, false, List, [], ◌∷◌, ℕ, ◌+◌, ◌-◌, ◌≤◌, ◌<◌, ltb, length, drop, get_or}
use Rattle.std.proofs.Common.{sym, ap, subst, ◌∙◌, arith, ltb-true, ltb-false}
use Rattle.octets.specs.laws.Scan.{drop_next}
use Rattle.utf8.specs.Spell.{spell}
use Rattle.xml.specs.Token.{token}
use Rattle.xml.specs.Marks.{Mark, opens, closes, char, refers, fault}
use Rattle.xml.specs.Nodes.{nodes, nodes_by, no_nodes, end_place, end_place_by}
use Rattle.xml.specs.NodesAt.{marks_at}
use Rattle.xml.specs.laws.NodesAt.{mark_start, mark_empty, mark_end, mark_char, mark_reference, mark_fault, mark_none}
use Rattle.read_xml_tokens.specs.TokenAt.{Reads, token_in, token_by, name_in}
use Rattle.read_xml_tokens.specs.laws.TokenAt as found
use Rattle.read_xml_tokens.specs.declared.TokenAt.{TokenAt}
use Rattle.read_xml_tokens.specs.declared.TokenKind.{TokenKind}
use Rattle.read_xml_tokens.specs.declared.TokenKind.TheVariants.{Start, Empty, End, Char, Reference, Fault}

-- nothing is open any more, and nothing follows: the bytes end, or are no token
abbrev pub Over : List Mark → Type 0
Over ms = (d : ℕ) → (nodes ms d ≡ no_nodes) × (end_place ms d ≡ 0)

abbrev pub MarkedBy : TokenKind → List ℕ → ℕ → TokenAt → Type 0
MarkedBy Start s at t = marks_at s at ≡ opens at (name_in s t) ∷ marks_at s t.next
MarkedBy Empty s at t = marks_at s at ≡ opens at (name_in s t) ∷ closes at (name_in s t) ∷ marks_at s t.next
MarkedBy End s at t = marks_at s at ≡ closes at (name_in s t) ∷ marks_at s t.next
MarkedBy Char s at t = marks_at s at ≡ char at t.unit ∷ marks_at s t.next
MarkedBy Reference s at t = marks_at s at ≡ refers at (spell t.unit) ∷ marks_at s t.next
MarkedBy Fault s at t = Over (marks_at s at)

pub over_end : Over []
unfolding nodes end_place
over_end d = (refl, refl)

over_fault : (p : ℕ) → Over (fault p ∷ [])
unfolding nodes nodes_by end_place end_place_by
over_fault p d = (refl, refl)

-- the kinds that are no fault
pub start_sound : Start ≡ Fault → ⊥
start_sound e = let z : ◌≡◌ {A = ℕ} 0 1 = cc in absurd (omega arith)

pub empty_sound : Empty ≡ Fault → ⊥
empty_sound e = let z : ◌≡◌ {A = ℕ} 0 1 = cc in absurd (omega arith)

pub end_sound : End ≡ Fault → ⊥
end_sound e = let z : ◌≡◌ {A = ℕ} 0 1 = cc in absurd (omega arith)

pub char_sound : Char ≡ Fault → ⊥
char_sound e = let z : ◌≡◌ {A = ℕ} 0 1 = cc in absurd (omega arith)

pub reference_sound : Reference ≡ Fault → ⊥
reference_sound e = let z : ◌≡◌ {A = ℕ} 0 1 = cc in absurd (omega arith)

module _ {s : List ℕ} {at : ℕ} {t : TokenAt} (f : Reads token_in s at at t) where
  token_by_lem : (k : TokenKind) → t.kind ≡ k → at < length s → token (get_or s at 0) (drop (at + 1) s) ≡ token_by k s at t
  token_by_lem k q h = found.token_is f (get_or s at 0) (drop (at + 1) s) (drop_next s at h) ∙ ap (λ (x : TokenKind). token_by x s at t) q

  module _ {k : TokenKind} (q : t.kind ≡ k) (n : k ≡ Fault → ⊥) where
    pub token_onward : (at < t.next) × (t.next ≤ length s)
    token_onward = (found.token_onward f (λ e. n (sym q ∙ e)), found.token_inside f (λ e. n (sym q ∙ e)))

    pub name_inside : t.name_end ≤ length s
    name_inside = omega (arith, token_onward, f.ended)

    pub token_first : drop at s ≡ get_or s at 0 ∷ drop (at + 1) s
    token_first = drop_next s at (omega (arith, token_onward))

    pub token_is : token (get_or s at 0) (drop (at + 1) s) ≡ token_by k s at t
    token_is = token_by_lem k q (omega (arith, token_onward))

    pub token_past : at + 1 + (t.next - (at + 1)) ≡ t.next
    token_past = omega (arith, token_onward)

  pub marked : (k : TokenKind) → t.kind ≡ k → MarkedBy k s at t
  marked Start q = mark_start s at _ _ (token_first q start_sound) _ _ (token_is q start_sound) ∙ rw (token_past q start_sound)
  marked Empty q = mark_empty s at _ _ (token_first q empty_sound) _ _ (token_is q empty_sound) ∙ rw (token_past q empty_sound)
  marked End q = mark_end s at _ _ (token_first q end_sound) _ _ (token_is q end_sound) ∙ rw (token_past q end_sound)
  marked Char q = mark_char s at _ _ (token_first q char_sound) _ _ (token_is q char_sound) ∙ rw (token_past q char_sound)
  marked Reference q = mark_reference s at _ _ (token_first q reference_sound) _ _ (token_is q reference_sound) ∙ rw (token_past q reference_sound)
  marked Fault q = go (ltb at (length s)) refl
    where
      go : (b : Bool) → ltb at (length s) ≡ b → Over (marks_at s at)
      go true h =
          let l = ltb-true at (length s) h in
          subst Over (sym (mark_fault s at _ _ (drop_next s at l) (token_by_lem Fault q l))) (over_fault at)
      go false h = subst Over (sym (mark_none s at (ltb-false at (length s) h))) over_end
