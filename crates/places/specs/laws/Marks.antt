-- The marks of a document stand within it, so its nodes do, and its XML is refused there or at its end.
--     document_marks_lem  every mark of a document stands at a place up to its length
--     document_inside     so does every node
--     xml_within          the verdict on its XML
use Rattle.std.specs.Prelude.{◌≡◌, refl, Bool, length, drop}
use Rattle.std.proofs.Common.{ap, length-drop}
use mathlib.Core.List.{List, [], ◌∷◌}
use Prim.Native.Nat.{ℕ, zero, suc, ◌+◌, ◌≤◌}
use native.Mathlib.Omega.{arith}
use Rattle.octets.specs.laws.Pick.{pick_either}
use Rattle.calendar.specs.Refusal.{XML, Verdict}
use Rattle.xml.specs.Pieces.{from}
use Rattle.xml.specs.Token.{Token, s_tag, empty_elem_tag, e_tag, char_byte, reference_to, no_token, token, root_tag}
use Rattle.xml.specs.Prolog.{prolog}
use Rattle.xml.specs.Marks.{Mark, opens, closes, char, refers, fault, marks_by, scan, root_marks, document_marks}
use Rattle.xml.specs.Nodes.{Nodes, end_place_by, end_place, nodes_by, nodes, root_by, root_node, document_nodes}
use Rattle.xml.specs.WellFormed.{Move, stop, closes_top, move, followed, check, xml_verdict}
use Rattle.places.specs.laws.Bounds.{Within, within_refuse, bounding, Inside}

abbrev pub place_of : Mark → ℕ
place_of (opens p nm) = p
place_of (closes p nm) = p
place_of (char p b) = p
place_of (refers p bs) = p
place_of (fault p) = p

abbrev pub Marked : ℕ → List Mark → Type 0
Marked n [] = Unit {0}
Marked n (m ∷ ms) = (place_of m ≤ n) × Marked n ms

-- ---- the marks of a document

module _ (n : ℕ) where
  token_marks : (t : Token) (p : ℕ) (rest : ℕ → List Mark) → p ≤ n → ((k : ℕ) → Marked n (rest k)) → Marked n (marks_by t p rest)
  unfolding marks_by
  token_marks (s_tag nm k) p rest h f = (h, f k)
  token_marks (empty_elem_tag nm k) p rest h f = (h, (h, f k))
  token_marks (e_tag nm k) p rest h f = (h, f k)
  token_marks (char_byte b k) p rest h f = (h, f k)
  token_marks (reference_to v k) p rest h f = (h, f k)
  token_marks no_token p rest h f = (h, tt)

  scan_marks : (s : List ℕ) (p k : ℕ) → p + length s ≤ n → Marked n (scan s p k)
  unfolding scan
  scan_marks [] p k h = tt
  scan_marks (b ∷ s) p zero h = token_marks (token b s) p (scan s (p + 1)) (omega arith) (λ k. scan_marks s (p + 1) k (omega arith))
  scan_marks (b ∷ s) p (suc k) h = scan_marks s (p + 1) k (omega arith)

root_marks_lem : (s : List ℕ) (p : ℕ) → Marked (length s) (root_marks p (drop p s))
unfolding root_marks
root_marks_lem s p = go (drop p s) refl
  where
    go : (r : List ℕ) → drop p s ≡ r → Marked (length s) (root_marks p r)
    go [] e = tt
    go (b ∷ r) e =
        let l : length (drop p s) ≡ suc (length r) = ap length e in
        let d : p + suc (length r) ≡ length s = omega (arith, l, length-drop p s) in
        token_marks (length s) (root_tag b r) p (scan r (p + 1)) (omega arith) (λ k. scan_marks (length s) r (p + 1) k (omega arith))

pub document_marks_lem : (s : List ℕ) → Marked (length s) (document_marks s)
unfolding document_marks from
document_marks_lem s = root_marks_lem s (prolog s)

-- ---- nodes

module _ (n : ℕ) where
  end_by : (m : Mark) (d : ℕ) (rest : ℕ → ℕ) → place_of m ≤ n → ((k : ℕ) → rest k ≤ n) → end_place_by m d rest ≤ n
  unfolding end_place_by
  end_by (opens p nm) d rest h f = f (suc d)
  end_by (closes p nm) zero rest h f = h
  end_by (closes p nm) (suc d) rest h f = f d
  end_by (char p b) d rest h f = f d
  end_by (refers p bs) d rest h f = f d
  end_by (fault p) d rest h f = omega arith

  end_inside : (ms : List Mark) (d : ℕ) → Marked n ms → end_place ms d ≤ n
  unfolding end_place
  end_inside [] d i = omega arith
  end_inside (m ∷ ms) d i = end_by m d (end_place ms) i.0 (λ k. end_inside ms k i.1)

  nodes_by_lem : (m : Mark) (d : ℕ) (end : ℕ → ℕ) (rest : ℕ → Nodes) → place_of m ≤ n → ((k : ℕ) → end k ≤ n) → ((k : ℕ) → Inside n (rest k)) →
      Inside n (nodes_by m d end rest)
  unfolding nodes_by
  nodes_by_lem (opens p nm) zero end rest h e f = (h, e 0, f 0, f 1)
  nodes_by_lem (opens p nm) (suc d) end rest h e f = f (suc (suc d))
  nodes_by_lem (closes p nm) zero end rest h e f = tt
  nodes_by_lem (closes p nm) (suc d) end rest h e f = f d
  nodes_by_lem (char p b) zero end rest h e f = (h, f 0)
  nodes_by_lem (char p b) (suc d) end rest h e f = f (suc d)
  nodes_by_lem (refers p bs) zero end rest h e f = (h, f 0)
  nodes_by_lem (refers p bs) (suc d) end rest h e f = f (suc d)
  nodes_by_lem (fault p) d end rest h e f = tt

  nodes_inside : (ms : List Mark) (d : ℕ) → Marked n ms → Inside n (nodes ms d)
  unfolding nodes
  nodes_inside [] d i = tt
  nodes_inside (m ∷ ms) d i = nodes_by_lem m d (end_place ms) (nodes ms) i.0 (λ k. end_inside ms k i.1) (λ k. nodes_inside ms k i.1)

  root_inside : (ms : List Mark) → Marked n ms → Inside n (root_node ms)
  unfolding root_node root_by
  root_inside [] i = tt
  root_inside (opens p nm ∷ ms) i = (i.0, end_inside ms 0 i.1, nodes_inside ms 0 i.1, tt)
  root_inside (closes p nm ∷ ms) i = tt
  root_inside (char p b ∷ ms) i = tt
  root_inside (refers p bs ∷ ms) i = tt
  root_inside (fault p ∷ ms) i = tt

pub document_inside : (s : List ℕ) → Inside (length s) (document_nodes s)
unfolding document_nodes
document_inside s = root_inside (length s) (document_marks s) (document_marks_lem s)

-- ---- the verdict on the XML

module _ (n : ℕ) where
  followed_within : (m : Mark) (came : Bool) (st : List (List ℕ)) (rest : Bool → List (List ℕ) → Verdict) → place_of m ≤ n →
      ((c : Bool) (l : List (List ℕ)) → Within n (rest c l)) → Within n (followed (move m came st) rest)
  unfolding followed move closes_top
  followed_within m came st rest h f = go m h st
    where
      On : Move → Type 0
      On v = Within n (followed v rest)

      stops : (p : ℕ) → p ≤ n → On (stop p)
      stops p l = within_refuse n XML p l

      go : (m : Mark) → place_of m ≤ n → (st : List (List ℕ)) → On (move m came st)
      go (opens p nm) l st = pick_either On _ _ _ (f _ _) (stops p l)
      go (closes p nm) l [] = stops p l
      go (closes p nm) l (top ∷ st) = pick_either On _ _ _ (f _ _) (stops p l)
      go (char p b) l st = pick_either On _ _ _ (pick_either On _ _ _ (f _ _) (stops p l)) (f _ _)
      go (refers p bs) l st = pick_either On _ _ _ (stops p l) (f _ _)
      go (fault p) l st = stops p l

  check_within : (ms : List Mark) (e : ℕ) (came : Bool) (st : List (List ℕ)) → Marked n ms → e ≤ n → Within n (check ms e came st)
  unfolding check
  check_within [] e came st i h = search bounding
  check_within (m ∷ ms) e came st i h = followed_within m came st (check ms e) i.0 (λ c l. check_within ms e c l i.1 h)

pub xml_within : (s : List ℕ) → Within (length s) (xml_verdict s)
unfolding xml_verdict
xml_within s = check_within (length s) (document_marks s) (length s) _ _ (document_marks_lem s) (omega arith)
