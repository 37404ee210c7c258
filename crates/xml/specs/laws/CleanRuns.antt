-- Laws of what specs/CleanRuns.antt defines.
--     Run             characters that go on in the middle of one
--     run_clean       the characters of a run;   past_run: after a tag or a reference
use Rattle.std.specs.Prelude.{◌≡◌, Bool, true, false, List, [], ◌∷◌, ℕ, zero, suc, ◌+◌, ◌≤◌, eqb, leb, ltb, None}
use Rattle.std.proofs.Math.Path.{refl}
use Rattle.std.proofs.Common.{sym, ap, subst, ◌∙◌, arith, drop-drop}
use Rattle.std.proofs.lemmas.Bool.{false≢true}
use Rattle.std.proofs.Math.ListN.{drop}
use borrow.Author.Tests.{eqb-true, ne_eqb, ltb-true, ltb-false}
use Rattle.octets.specs.Ascii.{ascii}
use Rattle.octets.specs.Pick.{pick, ◌and◌, within}
use Rattle.octets.specs.laws.Pick.{pick_case, pick_either, and_both, and_yes, within_range, eqb_swap, or_no}
use Rattle.octets.specs.Append.{◌⊕◌}
use Rattle.octets.specs.Words.{starts, holds}
use Rattle.octets.specs.laws.Words.{holds_neither, all_without}
use Rattle.utf8.specs.Utf8.{is_ascii, more, low, high, high_after, tails, bad_from}
use Rattle.utf8.specs.laws.Utf8.{ascii_first, low_least}
use Rattle.utf8.specs.Spell.{spell, is_character}
use Rattle.utf8.specs.laws.Spell.{spell_ascii, spell_high, spell_first}
use Rattle.utf8.specs.Computing.{utf8_compute}
use Rattle.xml.specs.Token.{Token, char_byte, literal_byte, token}
use Rattle.xml.specs.Marks.{marks_by, scan}
use Rattle.xml.specs.laws.Decoding.{starts_one, State, begun, step_state, drop_state, after_ascii, Ends, tag_by, reference_by}
use Rattle.xml.specs.CleanRuns.{run_by, run_of}

-- characters that go on in the middle of one, of which j bytes are still to come
pub record Run (j lo hi : ℕ) (l : Bool) (run : List ℕ) : Type 0 where
  pub tail : tails j lo hi l run ≡ true
  pub good : (i : ℕ) → bad_from j i run ≡ None
  pub plain : holds 13 run ≡ false

empty_run : (lo hi : ℕ) (l : Bool) → Run 0 lo hi l []
unfolding tails bad_from holds
empty_run lo hi l = record { tail = refl; good = λ i. refl; plain = refl }

-- ---- one character more

no_return : is_character 13 ≡ false
unfolding utf8_compute
no_return = refl

spell_plain : (v : ℕ) → is_character v ≡ true → holds 13 (spell v) ≡ false
unfolding holds
spell_plain v h = go (ltb v 0x80) refl
  where
    go : (t : Bool) → ltb v 0x80 ≡ t → holds 13 (spell v) ≡ false
    go true e = ap (holds 13) (spell_ascii v (ltb-true v 0x80 e)) ∙ or_no _ _ (ne_eqb 13 v (λ z. false≢true (sym no_return ∙ ap is_character z ∙ h))) refl
    go false e = all_without (leb 0x80) 13 refl (spell v) (spell_high v (ltb-false v 0x80 e))

reference_run : (v lo hi : ℕ) (l : Bool) (run : List ℕ) → is_character v ≡ true → Run 0 lo hi l run → Run 0 lo hi l (spell v ⊕ run)
unfolding tails
reference_run v lo hi l run h r = record { tail = refl; good = λ i. spell_first v h i run ∙ r.good _; plain = holds_neither 13 (spell v) run (spell_plain v h) r.plain }

ascii_run : (b lo hi : ℕ) (l : Bool) (run : List ℕ) → is_ascii b ≡ true → eqb 13 b ≡ false → Run 0 lo hi l run → Run 0 lo hi l (b ∷ run)
unfolding tails holds
ascii_run b lo hi l run h c r = record { tail = refl; good = λ i. ascii_first b i run h ∙ r.good _; plain = or_no _ _ c r.plain }

first_run : (b lo hi : ℕ) (l : Bool) (run : List ℕ) → leb (more b) 3 ≡ true → eqb 13 b ≡ false → Run (more b) (low b) (high b) (eqb b 0xEF) run → Run 0 lo hi l (b ∷ run)
unfolding tails bad_from holds pick ◌and◌
first_run b lo hi l run h c r = record { tail = refl; good = λ i. rw (h, r.tail) (r.good _); plain = or_no _ _ c r.plain }

next_run : (b j lo hi : ℕ) (l : Bool) (run : List ℕ) → within lo hi b ≡ true → eqb 13 b ≡ false → Run j 0x80 (high_after l b) false run → Run (suc j) lo hi l (b ∷ run)
unfolding tails bad_from holds
next_run b j lo hi l run h c r = record { tail = and_yes _ _ h r.tail; good = λ i. r.good _; plain = or_no _ _ c r.plain }

-- ---- the characters of a run

-- k bytes are passed over, which belong to a token before
abbrev pub Runs : List ℕ → Type 0
Runs s = (k p j i lo hi : ℕ) (l : Bool) → 0x80 ≤ lo → tails j lo hi l (drop k s) ≡ true → bad_from j i (drop k s) ≡ None → Run j lo hi l (run_of (scan s p k))

-- past a byte of ASCII a character begins
ends_good : (s : List ℕ) (k : ℕ) → State s → Ends s k → (i : ℕ) × (bad_from 0 i (drop k s) ≡ None)
ends_good s k st e =
    let w : k ≡ e.before + 1 = omega (arith, e.counted) in
    let z : e.rest ≡ drop k s = ap (drop 1) (sym e.there) ∙ drop-drop 1 e.before s ∙ ap (λ (n : ℕ). drop n s) (sym w) in
    let a = after_ascii e.byte e.rest e.small e.allowed (subst State e.there (drop_state e.before s st)) in
    (a.0, ap (bad_from 0 a.0) (sym z) ∙ a.1)

pub past_run : (s : List ℕ) (k p lo hi : ℕ) (l : Bool) → 0x80 ≤ lo → Runs s → State s → Ends s k → Run 0 lo hi l (run_of (scan s p k))
unfolding tails
past_run s k p lo hi l g ih st e = let a = ends_good s k st e in ih k p 0 a.0 lo hi l g refl a.1

high_token : (b : ℕ) (s : List ℕ) → 0x80 ≤ b → token b s ≡ char_byte b 0
unfolding token literal_byte pick ◌and◌
high_token b s h = rw (ne_eqb b 60 (λ e. omega arith), ne_eqb b 38 (λ e. omega arith), ne_eqb b 13 (λ e. omega arith), ne_eqb b 93 (λ e. omega arith))

-- a token at the front of a character
module _ (b : ℕ) (s : List ℕ) (p i lo hi : ℕ) (l : Bool) (g : 0x80 ≤ lo) (h : bad_from 0 i (b ∷ s) ≡ None) (ih : Runs s) where
  abbrev Reads : Token → Type 0
  Reads t = Run 0 lo hi l (run_of (marks_by t p (scan s (p + 1))))

  here : State (b ∷ s)
  unfolding tails
  here = record { pending = 0; at = i; least = 0x80; most = 0x80; last = false; above = omega arith; tail = refl; good = h }

  literal_run : eqb b 13 ≡ false → Reads (char_byte b 0)
  unfolding run_of run_by marks_by
  literal_run c =
      let a = begun b s i h in
      let q = and_both (leb (more b) 3) _ a.0 in
      first_run b lo hi l (run_of (scan s (p + 1) 0)) q.0 (eqb_swap b 13 c) (ih 0 (p + 1) (more b) (i + 1) (low b) (high b) (eqb b 0xEF) (low_least b) q.1 a.1)

  -- CR LF, or CR
  return_run : eqb b 13 ≡ true → Reads (pick (starts (10 ∷ []) s) (char_byte 10 1) (char_byte 10 0))
  unfolding utf8_compute run_of run_by marks_by
  return_run c =
      let z : b ≡ 13 = eqb-true b 13 c in
      pick_case Reads (starts (10 ∷ []) s) _ _
      (λ e. ascii_run 10 lo hi l (run_of (scan s (p + 1) 1)) refl refl
      (past_run s 1 (p + 1) lo hi l g ih (step_state b s here) (record { before = 0; byte = 10; rest = drop 1 s; counted = refl; there = starts_one 10 s e; small = omega arith; allowed = refl })))
      (λ e.
      let a = after_ascii 13 s (omega arith) refl (subst (λ (x : ℕ). State (x ∷ s)) z here) in
      ascii_run 10 lo hi l (run_of (scan s (p + 1) 0)) refl refl (ih 0 (p + 1) 0 a.0 lo hi l g refl a.1))

  token_run : Reads (token b s)
  unfolding token literal_byte run_of run_by marks_by
  token_run =
      pick_either Reads (eqb b 60) _ _ (tag_by Reads s (λ k n e. empty_run lo hi l) (λ k n. empty_run lo hi l) (λ n k. empty_run lo hi l) (empty_run lo hi l))
      (pick_either Reads (eqb b 38) _ _
      (reference_by Reads s (λ w k c e. reference_run w lo hi l (run_of (scan s (p + 1) k)) c (past_run s k (p + 1) lo hi l g ih (step_state b s here) e)) (empty_run lo hi l))
      (pick_case Reads (eqb b 13) _ _ return_run (λ c. pick_either Reads (eqb b 93 and starts (ascii "]>") s) _ _ (empty_run lo hi l) (literal_run c))))

pub run_clean : (s : List ℕ) → Runs s
unfolding scan tails bad_from run_of run_by marks_by holds
run_clean [] zero p j i lo hi l g t h = record { tail = t; good = λ i. refl; plain = refl }
run_clean [] (suc k) p j i lo hi l g t h = record { tail = t; good = λ i. refl; plain = refl }
run_clean (b ∷ s) (suc k) p j i lo hi l g t h = run_clean s k (p + 1) j i lo hi l g t h
run_clean (b ∷ s) zero p zero i lo hi l g t h = token_run b s p i lo hi l g h (run_clean s)
run_clean (b ∷ s) zero p (suc j) i lo hi l g t h =
    let a = and_both (within lo hi b) _ t in
    let w = within_range lo hi b a.0 in
    rw (high_token b s (omega arith)) (next_run b j lo hi l (run_of (scan s (p + 1) 0)) a.0 (ne_eqb 13 b (λ e. omega arith)) (run_clean s 0 (p + 1) j (i + 1) 0x80 (high_after l b) false (omega arith) a.1 h))
