-- Every value that a call from text answers is below 2 ^ 32, by the writer of a format.
--     result_small        the length of a result
--     in_edition_small    in an edition;   no_edition_small: where the number names none
use Rattle.std.specs.Prelude.{◌≡◌, Bool, List, ℕ, ◌^◌, ◌≤◌, ◌<◌, length}
use Rattle.std.proofs.Math.Path.{refl}
use Rattle.std.proofs.Math.Bool.{true, false}
use Rattle.std.proofs.Math.Decide.{dec_le}
use native.Mathlib.Omega.{arith}
use Rattle.std.proofs.Math.Dec.{leb}
use Rattle.std.proofs.Common.{leb-true}
use Rattle.octets.specs.Pick.{pick}
use Rattle.calendar.specs.Calendar.{Calendar}
use Rattle.calendar.specs.Refusal.{LENGTH, WORK, ROOM, EDITION, Verdict, fine, refuse, answer}
use Rattle.folding.specs.Unfold.{unfolded, origin}
use Rattle.folding.specs.laws.Unfold.{origin_inside, origin_past, length-unfolded}
use Rattle.folding.specs.Lines.{lines}
use Rattle.edition.specs.declared.Edition.{Edition}
use Rattle.text.specs.Tree.{calendar_of}
use Rattle.text.specs.ReadText.{kept_verdict, placed, text_verdict, read_calendar}
use Rattle.calls.specs.Conversion.{result, fault, converted, written, refusal, numbers, outcome}

-- a place among the lent bytes, or their end
origin_within : (s : List ℕ) (w : ℕ) → origin s w ≤ length s
origin_within s w = go (dec_le (length (unfolded s)) w)
  where
    go : Dec (length (unfolded s) ≤ w) → origin s w ≤ length s
    go (yes h) = omega (arith, origin_past s w h)
    go (no h) = omega (arith, origin_inside s w (omega (arith, h)))

pub result_small : (bs : List ℕ) (n : ℕ) → length bs < 2 ^ 32 → (numbers (outcome (result bs) n)).1 < 4294967296
unfolding outcome pick
result_small bs n h = go (leb (length bs) n)
  where
    go : (t : Bool) → (numbers (pick t (written (length bs)) (refusal ROOM (length bs)))).1 < 4294967296
    go true = omega arith
    go false = omega arith

module _ (write : Calendar → List ℕ) (short : (ed : Edition) (u : List ℕ) → length u ≤ 65535 → length (write (calendar_of ed (lines u))) < 2 ^ 32) where
  kept_small : (ed : Edition) (s : List ℕ) (v : Verdict) (n : ℕ) → length s ≤ 65535 → (numbers (outcome (converted write (answer (placed s v) (calendar_of ed (lines (unfolded s))))) n)).1 < 4294967296
  unfolding placed outcome
  kept_small ed s fine n h = result_small (write (calendar_of ed (lines (unfolded s)))) n (short ed (unfolded s) (omega (arith, length-unfolded s)))
  kept_small ed s (refuse r p) n h = omega (arith, origin_within s p)

  pub in_edition_small : (ed : Edition) (s w d : List ℕ) → (numbers (outcome (converted write (read_calendar ed s (length w))) (length d))).1 < 4294967296
  unfolding read_calendar text_verdict pick outcome
  in_edition_small ed s w d = go (leb (length s) 65535) (leb (length s) (length w)) refl
    where
      go : (a b : Bool) → leb (length s) 65535 ≡ a →
          (numbers (outcome (converted write (answer (pick a (pick b (placed s (kept_verdict ed (unfolded s))) (refuse WORK 0)) (refuse LENGTH 0)) (calendar_of ed (lines (unfolded s))))) (length d))).1 < 4294967296
      go true true e = kept_small ed s (kept_verdict ed (unfolded s)) (length d) (leb-true (length s) 65535 e)
      go true false e = omega arith
      go false b e = omega arith

pub no_edition_small : (s w d : List ℕ) → (numbers (outcome (pick (leb (length s) 65535) (pick (leb (length s) (length w)) (fault EDITION 0) (fault WORK 0)) (fault LENGTH 0)) (length d))).1 < 4294967296
unfolding pick outcome
no_edition_small s w d = go (leb (length s) 65535) (leb (length s) (length w))
  where
    go : (a b : Bool) → (numbers (outcome (pick a (pick b (fault EDITION 0) (fault WORK 0)) (fault LENGTH 0)) (length d))).1 < 4294967296
    go true true = omega arith
    go true false = omega arith
    go false b = omega arith
