-- Laws of what specs/MarksAt.antt defines.
--     marks_start, marks_empty, marks_end, marks_char, marks_reference, marks_fault    by the kind of the token
--     a_token            a kind is not that of a fault, for the bounds of TokenAt
--     root_place    the place of the root's tag
--     root_start, root_empty, root_fault, root_none, root_other    the marks of a document, by its root's tag
use Rattle.std.proofs.Math.Path.{◌≡◌, refl, sym, ap}
use Rattle.std.proofs.Common.{subst, ◌∙◌, ltb-true, ltb-false}
use Rattle.std.specs.Prelude.{Bool, false, ℕ, ◌+◌, ◌≤◌, ◌<◌, ltb, length, get_or, drop, Option, None, Some}
use Rattle.std.proofs.Math.Bool.{true, false≢true}
use mathlib.Core.List.{List, [], ◌∷◌}
use native.Mathlib.Omega.{arith}
use Rattle.octets.specs.laws.Pick.{pick_either}
use Rattle.octets.specs.laws.Scan.{drop_next}
use Rattle.utf8.specs.Spell.{spell}
use Rattle.xml.specs.Pieces.{from}
use Rattle.xml.specs.Token.{Token, s_tag, empty_elem_tag, e_tag, char_byte, reference_to, no_token, start_by, root_tag, token}
use Rattle.xml.specs.Prolog.{prolog}
use Rattle.xml.specs.Marks.{Mark, opens, closes, char, refers, fault, marks_by, scan, root_marks, document_marks}
use Rattle.xml.specs.NodesAt.{marks_at}
use Rattle.xml.specs.laws.NodesAt.{passed, mark_start, mark_empty, mark_end, mark_char, mark_reference, mark_fault}
use Rattle.read_xml_tokens.specs.laws.PieceLaws.{from_next, from_past}
use Rattle.read_xml_tokens.specs.laws.Tags.{root_piece}
use Rattle.read_xml_tokens.specs.TokenAt.{Reads, UnitOf, token_by, token_in, root_in, name_in, taken}
use Rattle.read_xml_tokens.specs.laws.TokenAt.{token_is, token_there, token_onward}
use Rattle.read_xml_tokens.specs.MarksAt.{RootAt}
use Rattle.read_xml_tokens.specs.declared.TokenAt.{TokenAt}
use Rattle.read_xml_tokens.specs.declared.TokenKind.{TokenKind}
use Rattle.read_xml_tokens.specs.declared.TokenKind.TheVariants.{Start, Empty, End, Char, Reference, Fault}

abbrev is_token : TokenKind → Bool
is_token Start = true
is_token Empty = true
is_token End = true
is_token Char = true
is_token Reference = true
is_token Fault = false

pub a_token : {k : TokenKind} (j : TokenKind) → is_token j ≡ true → k ≡ j → k ≡ Fault → ⊥
a_token j h e n = false≢true (sym (ap is_token n) ∙ ap is_token e ∙ h)

module _ {s : List ℕ} {at : ℕ} {t : TokenAt} (x : Reads token_in s at at t) where
  module _ (k : TokenKind) (h : is_token k ≡ true) (e : t.kind ≡ k) where
    here : drop at s ≡ get_or s at 0 ∷ drop (at + 1) s
    here = drop_next s at (token_there x (a_token k h e))

    next_is : at + 1 + taken at t ≡ t.next
    next_is = omega (arith, token_onward x (a_token k h e))

    found : token (get_or s at 0) (drop (at + 1) s) ≡ token_by k s at t
    found = token_is x _ _ here ∙ ap (λ (j : TokenKind). token_by j s at t) e

  pub marks_start : t.kind ≡ Start → marks_at s at ≡ opens at (name_in s t) ∷ marks_at s t.next
  marks_start e = rw (← (next_is Start refl e)) (mark_start s at _ _ (here Start refl e) _ _ (found Start refl e))

  pub marks_empty : t.kind ≡ Empty → marks_at s at ≡ opens at (name_in s t) ∷ closes at (name_in s t) ∷ marks_at s t.next
  marks_empty e = rw (← (next_is Empty refl e)) (mark_empty s at _ _ (here Empty refl e) _ _ (found Empty refl e))

  pub marks_end : t.kind ≡ End → marks_at s at ≡ closes at (name_in s t) ∷ marks_at s t.next
  marks_end e = rw (← (next_is End refl e)) (mark_end s at _ _ (here End refl e) _ _ (found End refl e))

  pub marks_char : t.kind ≡ Char → marks_at s at ≡ char at t.unit ∷ marks_at s t.next
  marks_char e = rw (← (next_is Char refl e)) (mark_char s at _ _ (here Char refl e) _ _ (found Char refl e))

  pub marks_reference : t.kind ≡ Reference → marks_at s at ≡ refers at (spell t.unit) ∷ marks_at s t.next
  marks_reference e = rw (← (next_is Reference refl e)) (mark_reference s at _ _ (here Reference refl e) _ _ (found Reference refl e))

  pub marks_fault : t.kind ≡ Fault → at < length s → marks_at s at ≡ fault at ∷ []
  marks_fault e h = mark_fault s at _ _ (drop_next s at h) (token_is x _ _ (drop_next s at h) ∙ ap (λ (j : TokenKind). token_by j s at t) e)

-- ---- the root's tag

-- it is a start tag, an empty tag or none
abbrev is_root_kind : Token → Bool
is_root_kind (s_tag nm k) = true
is_root_kind (empty_elem_tag nm k) = true
is_root_kind (e_tag nm k) = false
is_root_kind (char_byte c k) = false
is_root_kind (reference_to v k) = false
is_root_kind no_token = true

root_kinds : (l : List ℕ) → is_root_kind (root_in l) ≡ true
unfolding root_in root_tag start_by
root_kinds [] = refl
root_kinds (b ∷ r) = pick_either (λ (t : Token). is_root_kind t ≡ true) _ _ _ (started (root_piece r)) refl
  where
    started : (o : Option ℕ) → is_root_kind (start_by o r) ≡ true
    started None = refl
    started (Some n) = pick_either (λ (t : Token). is_root_kind t ≡ true) _ _ _ refl (pick_either (λ (t : Token). is_root_kind t ≡ true) _ _ _ refl refl)

module _ {s : List ℕ} {t : TokenAt} (x : RootAt s t) where
  root_found : (k : TokenKind) → t.kind ≡ k → root_in (from (prolog s) s) ≡ token_by k s (prolog s) t
  root_found k e = x.reads.is ∙ ap (λ (j : TokenKind). token_by j s (prolog s) t) e

  -- no other kind
  pub root_other : {X : Type 0} (k : TokenKind) → t.kind ≡ k → is_root_kind (token_by k s (prolog s) t) ≡ false → X
  root_other k e h = absurd (false≢true (sym h ∙ ap is_root_kind (sym (root_found k e)) ∙ root_kinds (from (prolog s) s)))

  pub root_place : t.unit ≡ prolog s
  root_place = go t.kind refl
    where
      go : (k : TokenKind) → t.kind ≡ k → t.unit ≡ prolog s
      go Start e = subst (λ (j : TokenKind). UnitOf j (prolog s) t.unit) e x.reads.united
      go Empty e = subst (λ (j : TokenKind). UnitOf j (prolog s) t.unit) e x.reads.united
      go End e = root_other End e refl
      go Char e = root_other Char e refl
      go Reference e = root_other Reference e refl
      go Fault e = subst (λ (j : TokenKind). UnitOf j (prolog s) t.unit) e x.reads.united

  root_within : (k : TokenKind) → is_token k ≡ true → t.kind ≡ k → prolog s < length s
  unfolding root_in
  root_within k h e = go (ltb (prolog s) (length s)) refl
    where
      none_there : (k : TokenKind) → is_token k ≡ true → no_token ≡ token_by k s (prolog s) t → ⊥
      none_there Start h e = let z : ◌≡◌ {A = ℕ} 0 1 = cc in omega arith
      none_there Empty h e = let z : ◌≡◌ {A = ℕ} 0 1 = cc in omega arith
      none_there End h e = let z : ◌≡◌ {A = ℕ} 0 1 = cc in omega arith
      none_there Char h e = let z : ◌≡◌ {A = ℕ} 0 1 = cc in omega arith
      none_there Reference h e = let z : ◌≡◌ {A = ℕ} 0 1 = cc in omega arith
      none_there Fault h e = false≢true h

      go : (b : Bool) → ltb (prolog s) (length s) ≡ b → prolog s < length s
      go true q = ltb-true _ _ q
      go false q = absurd (none_there k h (sym (ap root_in (from_past s (prolog s) (ltb-false _ _ q))) ∙ root_found k e))

  module _ (k : TokenKind) (h : is_token k ≡ true) (e : t.kind ≡ k) where
    root_by : document_marks s ≡ marks_by (token_by k s (prolog s) t) (prolog s) (scan (from (prolog s + 1) s) (prolog s + 1))
    unfolding document_marks root_marks root_in
    root_by =
        let f = from_next s (prolog s) (root_within k h e) in
        let g : root_tag (get_or s (prolog s) 0) (from (prolog s + 1) s) ≡ token_by k s (prolog s) t = sym (ap root_in f) ∙ root_found k e in
        rw (f, g)

    root_rest : scan (from (prolog s + 1) s) (prolog s + 1) (taken (prolog s) t) ≡ marks_at s t.next
    unfolding from
    root_rest =
        let n : prolog s + 1 + taken (prolog s) t ≡ t.next = omega (arith, root_within k h e, x.reads.onward) in
        passed s (prolog s) (get_or s (prolog s) 0) (drop (prolog s + 1) s) (drop_next s (prolog s) (root_within k h e)) (taken (prolog s) t)
        ∙ ap (marks_at s) n

  pub root_start : t.kind ≡ Start → document_marks s ≡ opens (prolog s) (name_in s t) ∷ marks_at s t.next
  unfolding marks_by
  root_start e = root_by Start refl e ∙ ap (λ (ms : List Mark). opens (prolog s) (name_in s t) ∷ ms) (root_rest Start refl e)

  pub root_empty : t.kind ≡ Empty → document_marks s ≡ opens (prolog s) (name_in s t) ∷ closes (prolog s) (name_in s t) ∷ marks_at s t.next
  unfolding marks_by
  root_empty e = root_by Empty refl e ∙ ap (λ (ms : List Mark). opens (prolog s) (name_in s t) ∷ closes (prolog s) (name_in s t) ∷ ms) (root_rest Empty refl e)

  pub root_onward : (k : TokenKind) → is_token k ≡ true → t.kind ≡ k → (prolog s < t.next) × (t.next ≤ length s)
  root_onward k h e = (omega (arith, root_within k h e, x.reads.onward), omega (arith, root_within k h e, x.reads.inside))

  -- a fault, or nothing at the end of the input
  pub root_fault : t.kind ≡ Fault → prolog s < length s → document_marks s ≡ fault (prolog s) ∷ []
  unfolding document_marks root_marks root_in marks_by
  root_fault e h =
      let f = from_next s (prolog s) h in
      let g : root_tag (get_or s (prolog s) 0) (from (prolog s + 1) s) ≡ no_token = sym (ap root_in f) ∙ root_found Fault e in
      rw (f, g)

  pub root_none : length s ≤ prolog s → document_marks s ≡ []
  unfolding document_marks root_marks
  root_none h = rw (from_past s (prolog s) h)
