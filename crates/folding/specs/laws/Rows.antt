-- Laws of what specs/Rows.antt defines.
--     folded_rows, spaced_rows     a line, and what is written after it
use Rattle.std.specs.Prelude.{◌≡◌, refl, true, false, List, [], ◌∷◌, ◌++◌, ℕ, ◌+◌, ◌-◌, ◌≤◌, ◌<◌, length, get_or, take, drop}
use Rattle.std.proofs.Common.{sym, ap, ◌∙◌, arith, drop-drop}
use Rattle.octets.specs.Pick.{pick}
use Rattle.octets.specs.laws.Scan.{drop_next}
use Rattle.octets.specs.Append.{◌⊕◌}
use Rattle.octets.specs.laws.Append.{append_regroup}
use Rattle.folding.specs.Unfold.{crlf}
use Rattle.folding.specs.Fold.{fold_from, folded_line, taken, continued}
use Rattle.folding.specs.laws.Fold.{not_over, fold_line}
use Rattle.folding.specs.Rows.{row, Takes, spaced}

continued-spaced : (s : List ℕ) → continued s ≡ crlf ⊕ spaced s
unfolding continued spaced ◌⊕◌
continued-spaced [] = refl
continued-spaced (b ∷ s) = refl

line_spaced : (c : ℕ) (s : List ℕ) → fold_from c s ≡ (take (taken c s) s ⊕ crlf) ⊕ spaced (drop (taken c s) s)
line_spaced c s =
    fold_line s c ∙ ap (λ (l : List ℕ). take (taken c s) s ⊕ l) (continued-spaced (drop (taken c s) s)) ∙ sym (append_regroup (take (taken c s) s) crlf _)

first_row : (l r : List ℕ) → (l ⊕ crlf) ⊕ r ≡ row false l ++ r
unfolding pick ◌⊕◌
first_row l r = refl

next_row : (l r : List ℕ) → 32 ∷ ((l ⊕ crlf) ⊕ r) ≡ row true l ++ r
unfolding pick ◌⊕◌
next_row l r = refl

spaced_front : (b : ℕ) (s : List ℕ) → spaced (b ∷ s) ≡ 32 ∷ fold_from 1 (b ∷ s)
unfolding spaced
spaced_front b s = refl

-- the first octet after the space always fits
taken_some : (s : List ℕ) (i : ℕ) → i < length s → 1 ≤ taken 1 (drop i s)
unfolding taken pick
taken_some s i h = rw (drop_next s i h, not_over 1 (get_or s i 0) (omega arith)) (omega arith)

pub takes_some : {s : List ℕ} {i r : ℕ} → Takes 1 s i r → i < length s → i < r
takes_some {s} {i} {r} t h = omega (arith, t.is, taken_some s i h)

pub folded_rows : {s : List ℕ} {n : ℕ} → Takes 0 s 0 n → folded_line s ≡ row false (take n s) ++ spaced (drop n s)
folded_rows {s} {n} t =
    let e : taken 0 s ≡ n = omega (arith, t.is) in
    line_spaced 0 s ∙ rw e (first_row (take n s) (spaced (drop n s)))

row_next : (c n : ℕ) (s : List ℕ) → taken c s ≡ n → 32 ∷ fold_from c s ≡ row true (take n s) ++ spaced (drop n s)
row_next c n s e = rw (line_spaced c s, e) (next_row (take n s) (spaced (drop n s)))

pub spaced_rows : {s : List ℕ} {i r : ℕ} → Takes 1 s i r → i < length s → spaced (drop i s) ≡ row true (take (r - i) (drop i s)) ++ spaced (drop r s)
spaced_rows {s} {i} {r} t h =
    let g : spaced (drop i s) ≡ 32 ∷ fold_from 1 (drop i s) = rw (drop_next s i h) (spaced_front (get_or s i 0) (drop (i + 1) s)) in
    let f : i + (r - i) ≡ r = omega (arith, t.is) in
    g ∙ row_next 1 (r - i) (drop i s) (omega (arith, t.is)) ∙ rw (drop-drop, f)
