-- What an accepted text states is a valid calendar, so that its canonical text is read back.
--     Accepts            what acceptance says of a text's characters, its lines and its calendar, whatever the work room;   accepts, accepts_back
--     text_tree          an accepted text states all the components of its lines
--     accepted_valid     an accepted text states a valid calendar
--     accepted_back      its canonical text states the same, where it is not over the limit
use Rattle.std.specs.Prelude.{◌≡◌, Bool, true, false, ℕ, zero, suc, ◌+◌, ◌≤◌, eqb, leb, length, Option, None, Some}
use Rattle.std.proofs.Math.Path.{refl}
use Rattle.std.proofs.Common.{ap, ◌∙◌, arith}
use Rattle.std.proofs.lemmas.Bool.{false≢true}
use mathlib.Core.List.{List, [], ◌∷◌, map}
use borrow.Author.Tests.{eqb-true, le-leb}
use Rattle.octets.specs.Pick.{pick, ◌and◌, ◌or◌}
use Rattle.octets.specs.laws.Pick.{and_yes, and_both}
use Rattle.octets.specs.Append.{◌⊕◌}
use Rattle.octets.specs.Words.{starts}
use Rattle.octets.specs.Lists.{every}
use Rattle.calendar.specs.Calendar.{Components}
use Rattle.calendar.specs.Refusal.{LENGTH, WORK, Verdict, fine, refuse, ◌otherwise◌, accepted, answer, limit, characters}
use Rattle.calendar.specs.laws.Refusal.{refused_not}
use Rattle.utf8.specs.Utf8.{tail_at, first_bad}
use Rattle.utf8.specs.laws.Utf8.{good_well_formed, good_split}
use Rattle.folding.specs.Unfold.{crlf, unfolded}
use Rattle.folding.specs.Lines.{Line, whole, loose, longer, line_step, lines_after, lines, none_loose}
use Rattle.validity.specs.ValidCalendar.{is_valid}
use Rattle.edition.specs.declared.Edition.{Edition}
use Rattle.text.specs.Nesting.{Open, Move, move, onward, nesting}
use Rattle.text.specs.Tree.{entry_of, inner_of, calendar_of}
use Rattle.text.specs.ReadText.{lines_verdict, kept_verdict, placed, text_verdict, read_calendar}
use Rattle.text.specs.WriteText.{write_calendar}
use Rattle.text.proofs.laws.Faults.{fault_not}
use Rattle.text.proofs.laws.AcceptedCharacters.{after_byte}
use Rattle.text.proofs.laws.AcceptedTree.{is_good_one, tree_whole, tree_accepted, tree_some}
use Rattle.text.proofs.laws.TextBack.{text_back}

-- ---- a text is its lines

line_text : List Line → List ℕ
line_text [] = []
line_text (whole p l ∷ ls) = l ⊕ (13 ∷ 10 ∷ line_text ls)
line_text (loose p ∷ ls) = []

-- what is left once k bytes have been left out
behind : List ℕ → ℕ → List ℕ
behind [] k = []
behind (a ∷ s) zero = a ∷ s
behind (a ∷ s) (suc k) = behind s k

behind_none : (s : List ℕ) → behind s 0 ≡ s
unfolding behind
behind_none [] = refl
behind_none (a ∷ s) = refl

break_is : (a : ℕ) (s : List ℕ) → starts crlf (a ∷ s) ≡ true → 13 ∷ 10 ∷ behind s 1 ≡ a ∷ s
unfolding starts behind
break_is a [] h = absurd (false≢true (and_both _ _ h).1)
break_is a (b ∷ s) h =
    let e = and_both (eqb 13 a) _ h in
    let f = and_both (eqb 10 b) _ e.1 in
    rw (eqb-true 13 a e.0, eqb-true 10 b f.0, behind_none s)

longer_text : (p a : ℕ) (ls : List Line) → none_loose (longer p a ls) ≡ true → (none_loose ls ≡ true) × (line_text (longer p a ls) ≡ a ∷ line_text ls)
unfolding none_loose longer line_text ◌⊕◌
longer_text p a [] h = absurd (false≢true h)
longer_text p a (whole q l ∷ ls) h = (h, refl)
longer_text p a (loose q ∷ ls) h = absurd (false≢true h)

lines_text : (s : List ℕ) (p k : ℕ) → none_loose (lines_after s p k) ≡ true → line_text (lines_after s p k) ≡ behind s k
unfolding lines_after line_step none_loose line_text behind ◌⊕◌
lines_text [] p k h = refl
lines_text (a ∷ s) p (suc k) h = lines_text s (p + 1) k h
lines_text (a ∷ s) p zero h = go (starts crlf (a ∷ s)) refl h (lines_text s (p + 1))
  where
    go : (t : Bool) → starts crlf (a ∷ s) ≡ t → none_loose (line_step t p a (lines_after s (p + 1))) ≡ true →
        ((k : ℕ) → none_loose (lines_after s (p + 1) k) ≡ true → line_text (lines_after s (p + 1) k) ≡ behind s k) → line_text (line_step t p a (lines_after s (p + 1))) ≡ a ∷ s
    go true e h ih = ap (λ (x : List ℕ). 13 ∷ 10 ∷ x) (ih 1 h) ∙ break_is a s e
    go false e h ih =
        let l = longer_text p a (lines_after s (p + 1) 0) h in
        l.1 ∙ ap (λ (x : List ℕ). a ∷ x) (ih 0 l.0 ∙ behind_none s)

lines_good : (ls : List Line) → none_loose ls ≡ true → first_bad (line_text ls) ≡ None → every is_good_one ls ≡ true
unfolding none_loose line_text is_good_one every tail_at ◌and◌ ◌or◌
lines_good [] n h = refl
lines_good (loose p ∷ ls) n h = absurd (false≢true n)
lines_good (whole p l ∷ ls) n h =
    let e = good_split l (13 ∷ 10 ∷ line_text ls) refl h in
    and_yes _ _ (good_well_formed l e.0) (lines_good ls n (after_byte 10 (line_text ls) refl (after_byte 13 (10 ∷ line_text ls) refl e.1)))

pub text_lines_good : (u : List ℕ) → first_bad u ≡ None → none_loose (lines u) ≡ true → every is_good_one (lines u) ≡ true
text_lines_good u h n = lines_good (lines u) n (rw (lines_text u 0 0 n, behind_none u) h)

-- lines that are not refused are whole
moved_whole : (m : Move) (p : ℕ) (s : List ℕ) (f : List Open → Verdict) (b : Bool) → ((u : List Open) → f u ≡ fine → b ≡ true) → onward m p s f ≡ fine → b ≡ true
unfolding onward
moved_whole (Move.on u) p s f b k h = k u h
moved_whole (Move.stop r) p s f b k h = fault_not r p s h

-- ---- what an answer says

answered : (v : Verdict) (d c : Components) → answer v d ≡ accepted c → (v ≡ fine) × (d ≡ c)
answered fine d c h = (refl, cc)
answered (refuse r p) d c h = let z : ◌≡◌ {A = ℕ} 0 1 = cc in absurd (omega arith)

placed-fine : (s : List ℕ) (v : Verdict) → placed s v ≡ fine → v ≡ fine
unfolding placed
placed-fine s fine h = refl
placed-fine s (refuse r p) h = refused_not _ _ h

kept : (a b : Bool) (s : List ℕ) (v : Verdict) → pick a (pick b (placed s v) (refuse WORK 0)) (refuse LENGTH 0) ≡ fine → v ≡ fine
unfolding pick
kept true true s v h = placed-fine s v h
kept true false s v h = refused_not _ _ h
kept false b s v h = refused_not _ _ h

both_fine : (o : Option ℕ) (w : Verdict) → (characters o otherwise w) ≡ fine → (o ≡ None) × (w ≡ fine)
unfolding ◌otherwise◌
both_fine None w h = (refl, h)
both_fine (Some p) w h = refused_not _ _ h

module _ (ed : Edition) where
  -- ---- in an edition

  pub nesting_whole : (ls : List Line) (e : ℕ) (st : List Open) → nesting ed e ls st ≡ fine → none_loose ls ≡ true
  unfolding nesting none_loose
  nesting_whole [] e st h = refl
  nesting_whole (loose p ∷ ls) e st h = refused_not _ _ h
  nesting_whole (whole p s ∷ ls) e st h = moved_whole (move ed s st) p s (nesting ed e ls) (none_loose ls) (λ u k. nesting_whole ls e u k) h

  -- a text that is accepted has lines
  pub verdict_nesting : (ls : List Line) (e : ℕ) → lines_verdict ed e ls ≡ fine → nesting ed e ls [] ≡ fine
  unfolding lines_verdict
  verdict_nesting [] e h = refused_not _ _ h
  verdict_nesting (l ∷ ls) e h = h

  lines_valid : (ls : List Line) (e : ℕ) → (none_loose ls ≡ true → every is_good_one ls ≡ true) → lines_verdict ed e ls ≡ fine → is_valid ed (calendar_of ed ls) ≡ true
  unfolding lines_verdict is_valid
  lines_valid [] e g h = refused_not _ _ h
  lines_valid (l ∷ ls) e g h = and_yes _ _ (tree_some ed l ls e h) (tree_accepted ed (l ∷ ls) e (g (nesting_whole (l ∷ ls) e [] h)) h)

  -- ---- the text

  pub record Accepts (s : List ℕ) (c : Components) : Type 0 where
    pub characters : first_bad (unfolded s) ≡ None
    pub verdict : lines_verdict ed (length (unfolded s)) (lines (unfolded s)) ≡ fine
    pub states : calendar_of ed (lines (unfolded s)) ≡ c

  pub accepts : (s : List ℕ) (room : ℕ) (c : Components) → read_calendar ed s room ≡ accepted c → Accepts s c
  unfolding read_calendar text_verdict kept_verdict
  accepts s room c h =
      let a = answered (text_verdict ed s room) (calendar_of ed (lines (unfolded s))) c h in
      let k = kept (leb (length s) limit) (leb (length s) room) s (kept_verdict ed (unfolded s)) a.0 in
      let b = both_fine (first_bad (unfolded s)) (lines_verdict ed (length (unfolded s)) (lines (unfolded s))) k in
      record { characters = b.0; verdict = b.1; states = a.1 }

  -- it states all the components of its lines
  pub text_tree : (u : List ℕ) (e : ℕ) → first_bad u ≡ None → lines_verdict ed e (lines u) ≡ fine → calendar_of ed (lines u) ≡ inner_of (map (entry_of ed) (lines u)) 0
  text_tree u e g h = let n = verdict_nesting (lines u) e h in tree_whole ed (lines u) e (text_lines_good u g (nesting_whole (lines u) e [] n)) n

  pub accepts_back : (s : List ℕ) (room : ℕ) (c : Components) → Accepts s c → length s ≤ limit → length s ≤ room → read_calendar ed s room ≡ accepted c
  unfolding read_calendar text_verdict kept_verdict placed pick ◌otherwise◌
  accepts_back s room c a l r = rw (le-leb _ _ l, le-leb _ _ r, a.characters, a.verdict, a.states)

  pub accepted_valid : (s : List ℕ) (room : ℕ) (c : Components) → read_calendar ed s room ≡ accepted c → is_valid ed c ≡ true
  accepted_valid s room c h =
      let a = accepts s room c h in
      rw a.states at (lines_valid (lines (unfolded s)) (length (unfolded s)) (text_lines_good (unfolded s) a.characters) a.verdict)

  pub accepted_back : (s : List ℕ) (room : ℕ) (c : Components) → read_calendar ed s room ≡ accepted c → (again : ℕ) → length (write_calendar ed c) ≤ limit → length (write_calendar ed c) ≤ again →
      read_calendar ed (write_calendar ed c) again ≡ accepted c
  accepted_back s room c h again l r = text_back ed c again (accepted_valid s room c h) l r
