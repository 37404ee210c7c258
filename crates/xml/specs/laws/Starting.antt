-- Given bytes at a place, compared byte by byte.
--     Starting         the invariant of the loop;   starting: its start, its turn, its ends
--     starts_inside    bytes that stand at a place end within the length
--     starts_byte      one byte stands at a place
use Rattle.std.specs.Prelude.{◌≡◌, true, false, List, [], ◌∷◌, ℕ, ◌+◌, ◌≤◌, ◌<◌, eqb, length, get_or, drop}
use Rattle.std.proofs.Math.Path.{sym}
use Rattle.std.proofs.Common.{◌∙◌, add-zero, length-drop, rules}
use native.Mathlib.Omega.{arith}
use Rattle.std.proofs.Math.ListN.{drop_of_length-le}
use borrow.Author.Tests.{eq-eqb, ne_eqb}
use Rattle.octets.specs.Pick.{◌and◌}
use Rattle.octets.specs.laws.Pick.{and-true}
use Rattle.octets.specs.laws.Scan.{drop_next}
use Rattle.octets.specs.Words.{starts}
use Rattle.octets.specs.laws.Words.{starts-length}

pub record Starting (w s : List ℕ) (i j : ℕ) : Type 0 where
  pub left : starts w (drop i s) ≡ starts (drop j w) (drop (i + j) s)

pub start_none : (w s : List ℕ) (i : ℕ) → Starting w s i 0
start_none w s i = record { left = rw add-zero }

module _ (w s : List ℕ) (i j : ℕ) where
  pub start_more : Starting w s i j → j < length w → i + j < length s → get_or s (i + j) 0 ≡ get_or w j 0 → Starting w s i (j + 1)
  unfolding starts ◌and◌
  start_more t h l e =
      let q : i + j + 1 ≡ i + (j + 1) = omega arith in
      record { left = t.left ∙ rw (drop_next w j h, drop_next s (i + j) l, eq-eqb (get_or w j 0) (get_or s (i + j) 0) (sym e), q) }

  pub start_other : Starting w s i j → j < length w → i + j < length s → (get_or s (i + j) 0 ≡ get_or w j 0 → ⊥) → false ≡ starts w (drop i s)
  unfolding starts ◌and◌
  start_other t h l e = sym (t.left ∙ rw (drop_next w j h, drop_next s (i + j) l, ne_eqb (get_or w j 0) (get_or s (i + j) 0) (λ q. e (sym q))))

  pub start_short : Starting w s i j → j < length w → length s ≤ i + j → false ≡ starts w (drop i s)
  unfolding starts
  start_short t h l = sym (t.left ∙ rw (drop_next w j h, drop_of_length-le s l))

  pub start_all : Starting w s i j → length w ≤ j → true ≡ starts w (drop i s)
  unfolding starts
  start_all t h = sym (t.left ∙ rw (drop_of_length-le w h))

pub ruleset starting = (start_none, start_more, start_other, start_short, start_all, rules)

-- ---- what stands at a place

pub starts_inside : (w s : List ℕ) (i : ℕ) → i ≤ length s → starts w (drop i s) ≡ true → i + length w ≤ length s
starts_inside w s i l h = let k = starts-length w (drop i s) h in omega (arith, length-drop i s, k)

pub starts_byte : (c : ℕ) (s : List ℕ) (i : ℕ) → i < length s → starts (c ∷ []) (drop i s) ≡ eqb c (get_or s i 0)
unfolding starts ◌and◌
starts_byte c s i l = rw (drop_next s i l) (and-true (eqb c (get_or s i 0)))
