-- Laws of what specs/NodesAt.antt defines.
--     mark_start, mark_empty, mark_end, mark_char, mark_reference, mark_fault, mark_none
--     nodes_start, nodes_empty, nodes_end, nodes_char, nodes_reference, nodes_fault, nodes_none
use Rattle.std.specs.Prelude.{◌≡◌, refl, ℕ, zero, suc, ◌+◌, ◌≤◌, length, drop}
use Rattle.std.proofs.Common.{sym, ◌∙◌, arith, drop_of_length-le, drop-drop}
use Rattle.std.proofs.Math.Path.{ap}
use mathlib.Core.List.{List, [], ◌∷◌}
use Rattle.utf8.specs.Spell.{spell}
use Rattle.xml.specs.Token.{Token, s_tag, empty_elem_tag, e_tag, char_byte, reference_to, no_token, token}
use Rattle.xml.specs.Marks.{Mark, opens, closes, char, refers, fault, marks_by, scan}
use Rattle.xml.specs.Nodes.{no_nodes, element, literal, referred, end_place_by, end_place, nodes_by, nodes}
use Rattle.xml.specs.NodesAt.{marks_at, nodes_at}

-- ---- marks

-- bytes that a token has taken are passed over
scan_pass : (r : List ℕ) (p k : ℕ) → scan r p k ≡ scan (drop k r) (p + k) 0
unfolding scan
scan_pass [] p zero = refl
scan_pass [] p (suc k) = refl
scan_pass (x ∷ r) p zero = ap (λ (q : ℕ). scan (x ∷ r) q 0) (omega arith)
scan_pass (x ∷ r) p (suc k) = scan_pass r (p + 1) k ∙ ap (λ (q : ℕ). scan (drop k r) q 0) (omega arith)

module _ (s : List ℕ) (p b : ℕ) (r : List ℕ) (e : drop p s ≡ b ∷ r) where
  after : (k : ℕ) → drop (p + 1 + k) s ≡ drop k r
  after k =
      let j : p + 1 + k ≡ p + (1 + k) = omega arith in
      let i : 1 + k ≡ suc k = omega arith in
      rw (j, ← (drop-drop (1 + k) p s), e, i)

  pub passed : (k : ℕ) → scan r (p + 1) k ≡ marks_at s (p + 1 + k)
  unfolding marks_at
  passed k = scan_pass r (p + 1) k ∙ ap (λ (l : List ℕ). scan l (p + 1 + k) 0) (sym (after k))

  by_token : (t : Token) → token b r ≡ t → marks_at s p ≡ marks_by t p (scan r (p + 1))
  unfolding marks_at scan
  by_token t g = rw (e, g)

  pub mark_start : (nm : List ℕ) (k : ℕ) → token b r ≡ s_tag nm k → marks_at s p ≡ opens p nm ∷ marks_at s (p + 1 + k)
  unfolding marks_by
  mark_start nm k g = by_token _ g ∙ ap (λ (ms : List Mark). opens p nm ∷ ms) (passed k)

  pub mark_empty : (nm : List ℕ) (k : ℕ) → token b r ≡ empty_elem_tag nm k → marks_at s p ≡ opens p nm ∷ closes p nm ∷ marks_at s (p + 1 + k)
  unfolding marks_by
  mark_empty nm k g = by_token _ g ∙ ap (λ (ms : List Mark). opens p nm ∷ closes p nm ∷ ms) (passed k)

  pub mark_end : (nm : List ℕ) (k : ℕ) → token b r ≡ e_tag nm k → marks_at s p ≡ closes p nm ∷ marks_at s (p + 1 + k)
  unfolding marks_by
  mark_end nm k g = by_token _ g ∙ ap (λ (ms : List Mark). closes p nm ∷ ms) (passed k)

  pub mark_char : (c k : ℕ) → token b r ≡ char_byte c k → marks_at s p ≡ char p c ∷ marks_at s (p + 1 + k)
  unfolding marks_by
  mark_char c k g = by_token _ g ∙ ap (λ (ms : List Mark). char p c ∷ ms) (passed k)

  pub mark_reference : (v k : ℕ) → token b r ≡ reference_to v k → marks_at s p ≡ refers p (spell v) ∷ marks_at s (p + 1 + k)
  unfolding marks_by
  mark_reference v k g = by_token _ g ∙ ap (λ (ms : List Mark). refers p (spell v) ∷ ms) (passed k)

  pub mark_fault : token b r ≡ no_token → marks_at s p ≡ fault p ∷ []
  unfolding marks_by
  mark_fault g = by_token _ g

  -- ---- nodes

  pub nodes_start : (nm : List ℕ) (k : ℕ) → token b r ≡ s_tag nm k →
      nodes_at s p ≡ element p nm (end_place (marks_at s (p + 1 + k)) 0) (nodes_at s (p + 1 + k)) (nodes (marks_at s (p + 1 + k)) 1)
  unfolding nodes_at nodes nodes_by
  nodes_start nm k g = rw (mark_start nm k g)

  -- an empty tag's element ends where it starts
  pub nodes_empty : (nm : List ℕ) (k : ℕ) → token b r ≡ empty_elem_tag nm k → nodes_at s p ≡ element p nm p no_nodes (nodes_at s (p + 1 + k))
  unfolding nodes_at nodes nodes_by end_place end_place_by
  nodes_empty nm k g = rw (mark_empty nm k g)

  pub nodes_end : (nm : List ℕ) (k : ℕ) → token b r ≡ e_tag nm k → nodes_at s p ≡ no_nodes
  unfolding nodes_at nodes nodes_by
  nodes_end nm k g = rw (mark_end nm k g)

  pub nodes_char : (c k : ℕ) → token b r ≡ char_byte c k → nodes_at s p ≡ literal p c (nodes_at s (p + 1 + k))
  unfolding nodes_at nodes nodes_by
  nodes_char c k g = rw (mark_char c k g)

  pub nodes_reference : (v k : ℕ) → token b r ≡ reference_to v k → nodes_at s p ≡ referred p (spell v) (nodes_at s (p + 1 + k))
  unfolding nodes_at nodes nodes_by
  nodes_reference v k g = rw (mark_reference v k g)

  pub nodes_fault : token b r ≡ no_token → nodes_at s p ≡ no_nodes
  unfolding nodes_at nodes nodes_by
  nodes_fault g = rw (mark_fault g)

-- past the end
pub mark_none : (s : List ℕ) (p : ℕ) → length s ≤ p → marks_at s p ≡ []
unfolding marks_at scan
mark_none s p h = rw (drop_of_length-le s h)

pub nodes_none : (s : List ℕ) (p : ℕ) → length s ≤ p → nodes_at s p ≡ no_nodes
unfolding nodes_at nodes
nodes_none s p h = rw (mark_none s p h)
