-- Laws of what specs/Lines.antt defines.
--     lines_whole      what stands before the first CRLF is a line;   lines_loose: what holds none
--     lines_at_break, first_loose    the first line by it
--     lines_append     of two texts, where the first has no loose line;   lines_ended: it has none if it ends with CRLF
use Rattle.std.specs.Prelude.{◌≡◌, refl, Bool, true, false, List, [], ◌∷◌, map, ℕ, zero, suc, ◌+◌, ◌≤◌, ◌<◌, eqb, length}
use Rattle.std.proofs.Common.{ap, ◌∙◌, arith}
use Rattle.std.proofs.lemmas.Bool.{false≢true}
use Rattle.octets.specs.Pick.{pick, ◌and◌, ◌or◌}
use Rattle.octets.specs.laws.Pick.{or_neither}
use Rattle.octets.specs.Append.{◌⊕◌}
use Rattle.octets.specs.Words.{starts, holds}
use Rattle.folding.specs.Unfold.{crlf}
use Rattle.folding.specs.Lines.{Line, whole, loose, longer, line_step, lines_after, lines_from, holds_break, none_loose, to_break}

-- a line that starts n further on
abbrev pub moved : ℕ → Line → Line
moved n (whole p l) = whole (p + n) l
moved n (loose p) = loose (p + n)

-- ---- laws

-- bytes without CR hold no break
pub no_break : (s : List ℕ) → holds 13 s ≡ false → holds_break s ≡ false
unfolding holds holds_break starts ◌and◌ ◌or◌
no_break [] h = refl
no_break (a ∷ s) h = let e = or_neither (eqb 13 a) (holds 13 s) h in rw e.0 (no_break s e.1)

-- a line's end does not come earlier because of the CR that ends the line
break_seam : (a : ℕ) (l r : List ℕ) → starts crlf ((a ∷ l) ⊕ (13 ∷ r)) ≡ starts crlf (a ∷ l)
unfolding starts ◌⊕◌ ◌and◌
break_seam a [] r = refl
break_seam a (b ∷ l) r = refl

pub lines_whole : (l r : List ℕ) (p : ℕ) → holds_break l ≡ false → lines_from p (l ⊕ (13 ∷ 10 ∷ r)) ≡ whole p l ∷ lines_from (p + length l + 2) r
unfolding lines_after line_step longer holds_break starts ◌⊕◌ ◌and◌
lines_whole [] r p h = ap (λ (n : ℕ). whole p [] ∷ lines_from n r) (omega arith)
lines_whole (a ∷ l) r p h =
    let e = or_neither (starts crlf (a ∷ l)) (holds_break l) h in
    rw (break_seam a l (10 ∷ r), e.0, lines_whole l r (p + 1) e.1) (ap (λ (n : ℕ). whole p (a ∷ l) ∷ lines_from n r) (omega arith))

pub lines_loose : (a : ℕ) (l : List ℕ) (p : ℕ) → holds_break (a ∷ l) ≡ false → lines_from p (a ∷ l) ≡ loose p ∷ []
unfolding lines_after line_step longer holds_break
lines_loose a [] p h = rw (or_neither (starts crlf (a ∷ [])) (holds_break []) h).0
lines_loose a (b ∷ l) p h = let e = or_neither (starts crlf (a ∷ b ∷ l)) (holds_break (b ∷ l)) h in rw (e.0, lines_loose b l (p + 1) e.1)

-- ---- the first line, by the number of bytes before its end

-- so many as l has
pub lines_at_break : (l r : List ℕ) (p : ℕ) → to_break (l ⊕ (13 ∷ 10 ∷ r)) ≡ length l → lines_from p (l ⊕ (13 ∷ 10 ∷ r)) ≡ whole p l ∷ lines_from (p + length l + 2) r
unfolding to_break lines_after line_step longer starts ◌⊕◌ ◌and◌ pick
lines_at_break [] r p h = ap (λ (n : ℕ). whole p [] ∷ lines_from n r) (omega arith)
lines_at_break (a ∷ l) r p h = go (starts crlf (a ∷ (l ⊕ (13 ∷ 10 ∷ r)))) h (lines_at_break l r (p + 1))
  where
    go : (t : Bool) → pick t 0 (suc (to_break (l ⊕ (13 ∷ 10 ∷ r)))) ≡ suc (length l) →
        (to_break (l ⊕ (13 ∷ 10 ∷ r)) ≡ length l → lines_from (p + 1) (l ⊕ (13 ∷ 10 ∷ r)) ≡ whole (p + 1) l ∷ lines_from (p + 1 + length l + 2) r) →
        line_step t p a (lines_after (l ⊕ (13 ∷ 10 ∷ r)) (p + 1)) ≡ whole p (a ∷ l) ∷ lines_from (p + suc (length l) + 2) r
    go true h ih = absurd (omega arith)
    go false h ih = ap (longer p a) (ih (omega arith)) ∙ ap (λ (n : ℕ). whole p (a ∷ l) ∷ lines_from n r) (omega arith)

pub first_loose : (s : List ℕ) (a p : ℕ) → suc (length s) ≤ to_break (a ∷ s) → lines_from p (a ∷ s) ≡ loose p ∷ []
unfolding to_break lines_after line_step longer pick
first_loose [] a p h = go (starts crlf (a ∷ [])) h
  where
    go : (t : Bool) → 1 ≤ pick t 0 1 → line_step t p a (lines_after [] (p + 1)) ≡ loose p ∷ []
    go true h = absurd (omega arith)
    go false h = refl
first_loose (b ∷ s) a p h = go (starts crlf (a ∷ b ∷ s)) h (first_loose s b (p + 1))
  where
    go : (t : Bool) → suc (suc (length s)) ≤ pick t 0 (suc (to_break (b ∷ s))) → (suc (length s) ≤ to_break (b ∷ s) → lines_from (p + 1) (b ∷ s) ≡ loose (p + 1) ∷ []) →
        line_step t p a (lines_after (b ∷ s) (p + 1)) ≡ loose p ∷ []
    go true h ih = absurd (omega arith)
    go false h ih = ap (longer p a) (ih (omega arith))

-- where no line is loose, what follows begins a line
longer_append : (p a : ℕ) (ls ms : List Line) → none_loose (longer p a ls) ≡ true → (none_loose ls ≡ true) × (longer p a (ls ⊕ ms) ≡ longer p a ls ⊕ ms)
unfolding longer none_loose ◌⊕◌
longer_append p a [] ms h = absurd (false≢true h)
longer_append p a (whole q l ∷ ls) ms h = (h, refl)
longer_append p a (loose q ∷ ls) ms h = absurd (false≢true h)

after_append : (a b : List ℕ) (p k : ℕ) → k ≤ length a → none_loose (lines_after a p k) ≡ true → lines_after (a ⊕ b) p k ≡ lines_after a p k ⊕ lines_from (p + length a) b
unfolding lines_after line_step none_loose starts longer ◌⊕◌ ◌and◌
after_append [] b p zero l h = ap (λ (n : ℕ). lines_from n b) (omega arith)
after_append [] b p (suc k) l h = absurd (omega arith)
after_append (x ∷ []) b p zero l h = go (eqb 13 x) h
  where
    go : (t : Bool) → none_loose (line_step (t and false) p x (lines_after [] (p + 1))) ≡ true →
        lines_after ((x ∷ []) ⊕ b) p 0 ≡ lines_after (x ∷ []) p 0 ⊕ lines_from (p + 1) b
    go true h = absurd (false≢true h)
    go false h = absurd (false≢true h)
after_append (x ∷ y ∷ a) b p zero l h =
    go (starts crlf (x ∷ y ∷ [])) h (λ (k : ℕ) l g. after_append (y ∷ a) b (p + 1) k l g ∙ ap (λ (n : ℕ). lines_after (y ∷ a) (p + 1) k ⊕ lines_from n b) (omega arith))
  where
    go : (t : Bool) → none_loose (line_step t p x (lines_after (y ∷ a) (p + 1))) ≡ true →
        ((k : ℕ) → k ≤ suc (length a) → none_loose (lines_after (y ∷ a) (p + 1) k) ≡ true →
        lines_after ((y ∷ a) ⊕ b) (p + 1) k ≡ lines_after (y ∷ a) (p + 1) k ⊕ lines_from (p + suc (suc (length a))) b) →
        line_step t p x (lines_after ((y ∷ a) ⊕ b) (p + 1)) ≡ line_step t p x (lines_after (y ∷ a) (p + 1)) ⊕ lines_from (p + suc (suc (length a))) b
    go true h ih = ap (λ (ls : List Line). whole p [] ∷ ls) (ih 1 (omega arith) h)
    go false h ih =
        let e = longer_append p x (lines_after (y ∷ a) (p + 1) 0) (lines_from (p + suc (suc (length a))) b) h in
        ap (longer p x) (ih 0 (omega arith) e.0) ∙ e.1
after_append (x ∷ a) b p (suc k) l h = after_append a b (p + 1) k (omega arith) h ∙ ap (λ (n : ℕ). lines_after a (p + 1) k ⊕ lines_from n b) (omega arith)

pub lines_append : (a b : List ℕ) (p : ℕ) → none_loose (lines_from p a) ≡ true → lines_from p (a ⊕ b) ≡ lines_from p a ⊕ lines_from (p + length a) b
lines_append a b p h = after_append a b p 0 (omega arith) h

-- a text that ends with CRLF has no loose line
longer_fine : (p a : ℕ) (ls : List Line) → 0 < length ls → none_loose ls ≡ true → none_loose (longer p a ls) ≡ true
unfolding longer none_loose
longer_fine p a [] n h = absurd (omega arith)
longer_fine p a (whole q l ∷ ls) n h = h
longer_fine p a (loose q ∷ ls) n h = absurd (false≢true h)

longer_some : (p a : ℕ) (ls : List Line) → 0 < length (longer p a ls)
unfolding longer
longer_some p a [] = omega arith
longer_some p a (whole q l ∷ ls) = omega arith
longer_some p a (loose q ∷ ls) = omega arith

pub lines_some : (a : ℕ) (s : List ℕ) (p : ℕ) → 0 < length (lines_from p (a ∷ s))
unfolding lines_after line_step
lines_some a s p = go (starts crlf (a ∷ s))
  where
    go : (t : Bool) → 0 < length (line_step t p a (lines_after s (p + 1)))
    go true = omega arith
    go false = longer_some p a (lines_after s (p + 1) 0)

after_ended : (a : List ℕ) (p k : ℕ) → k ≤ length a → none_loose (lines_after (a ⊕ crlf) p k) ≡ true
unfolding lines_after line_step longer none_loose starts ◌⊕◌ ◌and◌
after_ended [] p zero l = refl
after_ended [] p (suc k) l = absurd (omega arith)
after_ended (x ∷ []) p zero l = go (eqb 13 x)
  where
    go : (t : Bool) → none_loose (line_step (t and false) p x (lines_after crlf (p + 1))) ≡ true
    go true = refl
    go false = refl
after_ended (x ∷ y ∷ a) p zero l = go (starts crlf (x ∷ y ∷ [])) (λ (k : ℕ) l. after_ended (y ∷ a) (p + 1) k l)
  where
    go : (t : Bool) → ((k : ℕ) → k ≤ suc (length a) → none_loose (lines_after ((y ∷ a) ⊕ crlf) (p + 1) k) ≡ true) →
        none_loose (line_step t p x (lines_after ((y ∷ a) ⊕ crlf) (p + 1))) ≡ true
    go true ih = ih 1 (omega arith)
    go false ih = longer_fine p x (lines_from (p + 1) ((y ∷ a) ⊕ crlf)) (lines_some y (a ⊕ crlf) (p + 1)) (ih 0 (omega arith))
after_ended (x ∷ a) p (suc k) l = after_ended a (p + 1) k (omega arith)

pub lines_ended : (a : List ℕ) (p : ℕ) → none_loose (lines_from p (a ⊕ crlf)) ≡ true
lines_ended a p = after_ended a p 0 (omega arith)

pub lines_append_ended : (a b : List ℕ) (p : ℕ) → lines_from p ((a ⊕ crlf) ⊕ b) ≡ lines_from p (a ⊕ crlf) ⊕ lines_from (p + length (a ⊕ crlf)) b
lines_append_ended a b p = lines_append (a ⊕ crlf) b p (lines_ended a p)

-- where a text starts only moves its lines
longer-moved : (n p a : ℕ) (ls : List Line) → longer (p + n) a (map (moved n) ls) ≡ map (moved n) (longer p a ls)
unfolding longer
longer-moved n p a [] = refl
longer-moved n p a (whole q l ∷ ls) = refl
longer-moved n p a (loose q ∷ ls) = refl

after_moved : (s : List ℕ) (n p k : ℕ) → lines_after s (p + n) k ≡ map (moved n) (lines_after s p k)
unfolding lines_after line_step
after_moved [] n p k = refl
after_moved (a ∷ s) n p zero =
    go (starts crlf (a ∷ s)) (λ (k : ℕ). ap (λ (m : ℕ). lines_after s m k) (omega arith) ∙ after_moved s n (p + 1) k)
  where
    go : (t : Bool) → ((k : ℕ) → lines_after s (p + n + 1) k ≡ map (moved n) (lines_after s (p + 1) k)) →
        line_step t (p + n) a (lines_after s (p + n + 1)) ≡ map (moved n) (line_step t p a (lines_after s (p + 1)))
    go true ih = ap (λ (ls : List Line). whole (p + n) [] ∷ ls) (ih 1)
    go false ih = ap (longer (p + n) a) (ih 0) ∙ longer-moved n p a (lines_after s (p + 1) 0)
after_moved (a ∷ s) n p (suc k) = ap (λ (m : ℕ). lines_after s m k) (omega arith) ∙ after_moved s n (p + 1) k

pub lines_moved : (s : List ℕ) (n p : ℕ) → lines_from (p + n) s ≡ map (moved n) (lines_from p s)
lines_moved s n p = after_moved s n p 0
