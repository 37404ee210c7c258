-- Laws of what specs/Text.antt defines.
--     plain_text ls      what unfolding makes of it: each line and CRLF
--     text_read_back     the lines of what was written, unfolded, are those lines
--     text_fits          the lines of what was written have at most 75 octets
use Rattle.std.specs.Prelude.{◌≡◌, refl, true, false, ℕ, ◌+◌, leb, length}
use Rattle.std.proofs.Math.Path.{sym, ap}
use Rattle.std.proofs.Common.{◌∙◌}
use mathlib.Core.List.{List, [], ◌∷◌, map}
use Rattle.octets.specs.Pick.{◌and◌, ◌or◌}
use Rattle.octets.specs.laws.Pick.{and_both, pick_second}
use Rattle.octets.specs.Append.{◌⊕◌, joined}
use Rattle.octets.specs.laws.Append.{append_is, append_regroup}
use Rattle.octets.specs.Words.{starts, none_holds}
use Rattle.octets.specs.laws.Words.{none_split}
use Rattle.folding.specs.Unfold.{crlf, blank_at, kept_from, unfolded}
use Rattle.folding.specs.Lines.{Line, whole, loose, lines_after, lines_from, lines, none_loose}
use Rattle.folding.specs.laws.Lines.{no_break, lines_whole, lines_append}
use Rattle.folding.specs.Fold.{longest, fold_from, folded_line, fits}
use Rattle.folding.specs.laws.Fold.{folded_first, folded_fits, unfold_folded}
use Rattle.folding.specs.Text.{folded_text, none_blank, whole_lines}

abbrev pub ended : List ℕ → List ℕ
ended l = l ⊕ crlf

abbrev pub plain_text : List (List ℕ) → List ℕ
plain_text ls = joined (map ended ls)

-- ---- laws

-- what ends a line, and what follows
regroup : (l r : List ℕ) → ended l ⊕ r ≡ l ⊕ (13 ∷ 10 ∷ r)
regroup l r = append_regroup l crlf r ∙ ap (λ (x : List ℕ). l ⊕ x) (append_is crlf r)

-- what is written begins with a blank only where a line does
line_blank : (l r : List ℕ) → blank_at l ≡ false → blank_at (folded_line l ⊕ r) ≡ false
unfolding blank_at fold_from starts ◌⊕◌ ◌and◌ ◌or◌
line_blank [] r h = refl
line_blank (b ∷ l) r h = rw (folded_first b l) h

text_blank : (ls : List (List ℕ)) → none_blank ls ≡ true → blank_at (folded_text ls) ≡ false
unfolding none_blank joined blank_at starts ◌or◌
text_blank [] h = refl
text_blank (l ∷ ls) h = line_blank l (folded_text ls) (pick_second (blank_at l) (none_blank ls) h).0

pub text_unfolded : (ls : List (List ℕ)) → none_holds 13 ls ≡ true → none_blank ls ≡ true → unfolded (folded_text ls) ≡ plain_text ls
unfolding none_holds none_blank joined kept_from
text_unfolded [] h n = refl
text_unfolded (l ∷ ls) h n =
    let e = none_split 13 l ls h in
    let m = pick_second (blank_at l) (none_blank ls) n in
    unfold_folded l (folded_text ls) e.0 (text_blank ls m.1)
    ∙ ap (λ (x : List ℕ). l ⊕ (13 ∷ 10 ∷ x)) (text_unfolded ls e.1 m.1) ∙ sym (regroup l (plain_text ls))

pub text_lines : (ls : List (List ℕ)) (p : ℕ) → none_holds 13 ls ≡ true → lines_from p (plain_text ls) ≡ whole_lines p ls
unfolding none_holds joined whole_lines lines_after
text_lines [] p h = refl
text_lines (l ∷ ls) p h =
    let e = none_split 13 l ls h in
    ap (lines_from p) (regroup l (plain_text ls)) ∙ lines_whole l (plain_text ls) p (no_break l e.0)
    ∙ ap (λ (ms : List Line). whole p l ∷ ms) (text_lines ls (p + length l + 2) e.1)

pub text_read_back : (ls : List (List ℕ)) → none_holds 13 ls ≡ true → none_blank ls ≡ true → lines (unfolded (folded_text ls)) ≡ whole_lines 0 ls
text_read_back ls h n = ap lines (text_unfolded ls h n) ∙ text_lines ls 0 h

-- no line that is written has more than 75 octets
fits_ended : (ls : List Line) → fits 0 ls ≡ true → none_loose ls ≡ true
unfolding fits none_loose
fits_ended [] h = refl
fits_ended (whole p l ∷ ls) h = fits_ended ls (and_both (leb (0 + length l) longest) (fits 0 ls) h).1
fits_ended (loose p ∷ ls) h = h

fits_append : (ls ms : List Line) → fits 0 ls ≡ true → fits 0 ms ≡ true → fits 0 (ls ⊕ ms) ≡ true
unfolding fits ◌⊕◌ ◌and◌
fits_append [] ms h k = k
fits_append (whole p l ∷ ls) ms h k =
    let e = and_both (leb (0 + length l) longest) (fits 0 ls) h in
    rw e.0 (fits_append ls ms e.1 k)
fits_append (loose p ∷ ls) ms h k = h

pub text_fits : (ls : List (List ℕ)) (p : ℕ) → none_holds 13 ls ≡ true → fits 0 (lines_from p (folded_text ls)) ≡ true
unfolding none_holds joined lines_after fits
text_fits [] p h = refl
text_fits (l ∷ ls) p h =
    let e = none_split 13 l ls h in
    let f = folded_fits l p e.0 in
    rw (lines_append (folded_line l) (folded_text ls) p (fits_ended _ f)) (fits_append _ _ f (text_fits ls (p + length (folded_line l)) e.1))
