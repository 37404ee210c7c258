-- Laws of what specs/Fold.antt defines.
--     unfold_folded    it unfolds to s and CRLF
--     folded_fits      its lines have at most 75 octets;   folded_short: a short line is not folded;   fold_character: a character is not parted;   fold_line: line by line
use Rattle.std.specs.Prelude.{◌≡◌, refl, Bool, true, ℕ, suc, ◌+◌, ◌≤◌, ◌<◌, eqb, leb, length, take, drop}
use Rattle.std.proofs.Common.{ap, ◌∙◌, arith, ltb-false, lt-ltb, le-ltb, le-leb, leb-true}
use Rattle.std.proofs.Math.Bool.{false}
use Rattle.std.proofs.lemmas.Bool.{false≢true}
use mathlib.Core.List.{List, [], ◌∷◌}
use Rattle.octets.specs.Pick.{pick, ◌and◌, ◌or◌}
use Rattle.octets.specs.laws.Pick.{pick_either, and_both, or_neither}
use Rattle.octets.specs.Scan.{all_of}
use Rattle.octets.specs.Append.{◌⊕◌}
use Rattle.octets.specs.Words.{starts, holds}
use Rattle.octets.specs.Class.{is_tail}
use Rattle.folding.specs.Unfold.{crlf, blank_at, unfolded}
use Rattle.folding.specs.laws.Unfold.{unfolded_byte, unfolded_fold, unfolded_end}
use Rattle.folding.specs.Lines.{Line, whole, loose, longer, line_step, lines_after, lines_from}
use Rattle.folding.specs.laws.Lines.{lines_some}
use Rattle.folding.specs.Fold.{longest, width, is_over, break_before, column_at, fold_from, folded_line, taken, continued, in_full, fits}

pub width_some : (b : ℕ) → 1 ≤ width b
width_some b = pick_either (λ n. 1 ≤ n) _ _ _ (omega arith) (pick_either (λ n. 1 ≤ n) _ _ _ (omega arith) (pick_either (λ n. 1 ≤ n) _ _ _ (omega arith) (omega arith)))

pub width_most : (b : ℕ) → width b ≤ 4
width_most b = pick_either (λ n. n ≤ 4) _ _ _ (omega arith) (pick_either (λ n. n ≤ 4) _ _ _ (omega arith) (pick_either (λ n. n ≤ 4) _ _ _ (omega arith) (omega arith)))

-- the first octet of a line always fits
pub not_over : (c b : ℕ) → c ≤ 71 → is_over c b ≡ false
not_over c b h = le-ltb longest (c + width b) (let w = width_most b in omega arith)

pub folded_first : (b : ℕ) (s : List ℕ) → folded_line (b ∷ s) ≡ b ∷ fold_from 1 s
unfolding fold_from pick ◌⊕◌
folded_first b s = rw (not_over 0 b (omega arith))

-- what is written unfolds to the content line and CRLF
pub fold_unfolded : (s r : List ℕ) (c : ℕ) → holds 13 s ≡ false → blank_at r ≡ false → unfolded (fold_from c s ⊕ r) ≡ s ⊕ (13 ∷ 10 ∷ unfolded r)
unfolding fold_from holds pick ◌or◌ ◌⊕◌
fold_unfolded [] r c h n = unfolded_end r n
fold_unfolded (b ∷ s) r c h n = go (is_over c b) (or_neither (eqb 13 b) (holds 13 s) h).0 (λ (c : ℕ). fold_unfolded s r c (or_neither (eqb 13 b) (holds 13 s) h).1 n)
  where
    go : (t : Bool) → eqb 13 b ≡ false → ((c : ℕ) → unfolded (fold_from c s ⊕ r) ≡ s ⊕ (13 ∷ 10 ∷ unfolded r)) →
        unfolded ((pick t (13 ∷ 10 ∷ 32 ∷ []) [] ⊕ (b ∷ fold_from (pick t 1 c + 1) s)) ⊕ r) ≡ (b ∷ s) ⊕ (13 ∷ 10 ∷ unfolded r)
    go true e ih = unfolded_fold (b ∷ (fold_from 2 s ⊕ r)) ∙ unfolded_byte b (fold_from 2 s ⊕ r) e ∙ ap (λ (l : List ℕ). b ∷ l) (ih 2)
    go false e ih = unfolded_byte b (fold_from (c + 1) s ⊕ r) e ∙ ap (λ (l : List ℕ). b ∷ l) (ih (c + 1))

pub unfold_folded : (s r : List ℕ) → holds 13 s ≡ false → blank_at r ≡ false → unfolded (folded_line s ⊕ r) ≡ s ⊕ (13 ∷ 10 ∷ unfolded r)
unfold_folded s r h n = fold_unfolded s r 0 h n

-- ---- the lines of what is written

fits_longer : (c p b : ℕ) (ls : List Line) → 0 < length ls → fits (c + 1) ls ≡ true → fits c (longer p b ls) ≡ true
unfolding fits longer ◌and◌
fits_longer c p b [] n h = absurd (omega arith)
fits_longer c p b (whole q l ∷ ls) n h =
    let e = and_both (leb (c + 1 + length l) longest) (fits 0 ls) h in
    let k = leb-true (c + 1 + length l) longest e.0 in
    rw (le-leb (c + suc (length l)) longest (omega arith)) e.1
fits_longer c p b (loose q ∷ ls) n h = absurd (false≢true h)

-- a byte that is no CR begins no line's end
lines_byte : (p b : ℕ) (s : List ℕ) → eqb 13 b ≡ false → lines_from p (b ∷ s) ≡ longer p b (lines_from (p + 1) s)
unfolding lines_after line_step starts ◌and◌
lines_byte p b s h = rw h

fold_some : (s : List ℕ) (c p : ℕ) → 0 < length (lines_from p (fold_from c s))
unfolding fold_from pick ◌⊕◌
fold_some [] c p = lines_some 13 (10 ∷ []) p
fold_some (b ∷ s) c p = go (is_over c b)
  where
    go : (t : Bool) → 0 < length (lines_from p (pick t (13 ∷ 10 ∷ 32 ∷ []) [] ⊕ (b ∷ fold_from (pick t 1 c + 1) s)))
    go true = lines_some 13 (10 ∷ 32 ∷ b ∷ fold_from 2 s) p
    go false = lines_some b (fold_from (c + 1) s) p

-- a byte in front of lines that fit behind it
fits_byte : (c p b : ℕ) (s : List ℕ) → eqb 13 b ≡ false → 0 < length (lines_from (p + 1) s) → fits (c + 1) (lines_from (p + 1) s) ≡ true →
    (0 < length (lines_from p (b ∷ s))) × (fits c (lines_from p (b ∷ s)) ≡ true)
fits_byte c p b s e n h = (lines_some b s p, rw (lines_byte p b s e) (fits_longer c p b (lines_from (p + 1) s) n h))

fold_fits : (s : List ℕ) (c p : ℕ) → holds 13 s ≡ false → c ≤ longest → fits c (lines_from p (fold_from c s)) ≡ true
unfolding fold_from holds pick lines_after line_step starts fits ◌and◌ ◌or◌ ◌⊕◌
fold_fits [] c p h l = rw (le-leb (c + 0) longest (omega arith))
fold_fits (b ∷ s) c p h l =
    go (is_over c b) refl (or_neither (eqb 13 b) (holds 13 s) h).0 (λ (c p : ℕ) l. fold_fits s c p (or_neither (eqb 13 b) (holds 13 s) h).1 l)
  where
    go : (t : Bool) → is_over c b ≡ t → eqb 13 b ≡ false → ((c p : ℕ) → c ≤ longest → fits c (lines_from p (fold_from c s)) ≡ true) →
        fits c (lines_from p (pick t (13 ∷ 10 ∷ 32 ∷ []) [] ⊕ (b ∷ fold_from (pick t 1 c + 1) s))) ≡ true
    go true o e ih =
        let x = fits_byte 1 (p + 1 + 1 + 1) b (fold_from 2 s) e (fold_some s 2 (p + 1 + 1 + 1 + 1)) (ih 2 (p + 1 + 1 + 1 + 1) (omega arith)) in
        let y = fits_byte 0 (p + 1 + 1) 32 (b ∷ fold_from 2 s) refl x.0 x.1 in
        rw (le-leb (c + 0) longest (omega arith)) y.1
    go false o e ih =
        let w = ltb-false longest (c + width b) o in
        let v = width_some b in
        (fits_byte c p b (fold_from (c + 1) s) e (fold_some s (c + 1) (p + 1)) (ih (c + 1) (p + 1) (omega arith))).1

pub folded_fits : (s : List ℕ) (p : ℕ) → holds 13 s ≡ false → fits 0 (lines_from p (folded_line s)) ≡ true
folded_fits s p h = fold_fits s 0 p h (omega arith)

-- a content line of at most 75 octets, its characters in full, is not folded
fold_short : (s : List ℕ) (c : ℕ) → in_full s ≡ true → c + length s ≤ longest → fold_from c s ≡ s ⊕ crlf
unfolding fold_from in_full pick ◌and◌ ◌⊕◌
fold_short [] c h l = refl
fold_short (b ∷ s) c h l =
    let e = and_both (leb (width b) (suc (length s))) (in_full s) h in
    let w = leb-true (width b) (suc (length s)) e.0 in
    rw (le-ltb longest (c + width b) (omega arith)) (ap (λ (l : List ℕ). b ∷ l) (fold_short s (c + 1) e.1 (omega arith)))

pub folded_short : (s : List ℕ) → in_full s ≡ true → length s ≤ longest → folded_line s ≡ s ⊕ crlf
folded_short s h l = fold_short s 0 h (omega arith)

-- a character whose first octet is placed fits; its octets 10xxxxxx stay with that one
column_fits : (c b : ℕ) → column_at c b + width b ≤ longest
unfolding pick
column_fits c b = go (is_over c b) refl
  where
    go : (t : Bool) → is_over c b ≡ t → pick t 1 c + width b ≤ longest
    go true e = let w = width_most b in omega arith
    go false e = ltb-false longest (c + width b) e

tail_width : (b : ℕ) → is_tail b ≡ true → width b ≡ 1
unfolding pick
tail_width b h = let l = leb-true b 0xBF (and_both (leb 0x80 b) (leb b 0xBF) h).1 in rw (lt-ltb b 0xC0 (omega arith))

fold_tail : (t r : List ℕ) (c : ℕ) → all_of is_tail t ≡ true → c + length t ≤ longest → fold_from c (t ⊕ r) ≡ t ⊕ fold_from (c + length t) r
unfolding fold_from all_of pick ◌⊕◌
fold_tail [] r c h l = ap (λ (n : ℕ). fold_from n r) (omega arith)
fold_tail (b ∷ t) r c h l = go (is_tail b) refl h (λ h. fold_tail t r (c + 1) h (omega arith))
  where
    go : (u : Bool) → is_tail b ≡ u → pick u (all_of is_tail t) false ≡ true → (all_of is_tail t ≡ true → fold_from (c + 1) (t ⊕ r) ≡ t ⊕ fold_from (c + 1 + length t) r) →
        fold_from c ((b ∷ t) ⊕ r) ≡ (b ∷ t) ⊕ fold_from (c + suc (length t)) r
    go true e k ih =
        let w = tail_width b e in
        rw (le-ltb longest (c + width b) (omega arith)) (ap (λ (l : List ℕ). b ∷ l) (ih k ∙ ap (λ (n : ℕ). t ⊕ fold_from n r) (omega arith)))
    go false e k ih = absurd (false≢true k)

pub fold_character : (b : ℕ) (t r : List ℕ) (c : ℕ) → width b ≡ suc (length t) → all_of is_tail t ≡ true →
    fold_from c ((b ∷ t) ⊕ r) ≡ break_before c b ⊕ ((b ∷ t) ⊕ fold_from (column_at c b + width b) r)
unfolding fold_from ◌⊕◌
fold_character b t r c w h =
    let f = column_fits c b in
    ap (λ (l : List ℕ). break_before c b ⊕ (b ∷ l)) (fold_tail t r (column_at c b + 1) h (omega arith) ∙ ap (λ (n : ℕ). t ⊕ fold_from n r) (omega arith))

-- line by line
pub fold_line : (s : List ℕ) (c : ℕ) → fold_from c s ≡ take (taken c s) s ⊕ continued (drop (taken c s) s)
unfolding fold_from taken continued pick ◌⊕◌
fold_line [] c = refl
fold_line (b ∷ s) c = go (is_over c b) (fold_line s (c + 1))
  where
    go : (t : Bool) → fold_from (c + 1) s ≡ take (taken (c + 1) s) s ⊕ continued (drop (taken (c + 1) s) s) →
        pick t (13 ∷ 10 ∷ 32 ∷ []) [] ⊕ (b ∷ fold_from (pick t 1 c + 1) s) ≡
        take (pick t 0 (suc (taken (c + 1) s))) (b ∷ s) ⊕ continued (drop (pick t 0 (suc (taken (c + 1) s))) (b ∷ s))
    go true ih = rw (not_over 1 b (omega arith))
    go false ih = ap (λ (l : List ℕ). b ∷ l) ih
