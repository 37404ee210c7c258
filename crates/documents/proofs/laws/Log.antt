-- Laws of what specs/Log.antt defines.
--     Ending           the invariant of the loop that looks for the end;   ending: its start, its turn, its ends
--     end_inside      an end is behind document_close, and within the log
--     ahead_twice      counts add up
use Rattle.std.specs.Prelude.{◌≡◌, refl, Bool, false, ℕ, ◌+◌, ◌≤◌, ◌<◌, length, get_or, Option, None, Some}
use Rattle.std.proofs.Math.Path.{sym, ap}
use Rattle.std.proofs.Common.{◌∙◌, arith, drop_of_length-le, rules}
use Rattle.std.proofs.Math.Bool.{true}
use mathlib.Core.List.{List, [], ◌∷◌}
use Rattle.std.proofs.Math.ListN.{drop}
use Rattle.octets.specs.Pick.{pick}
use Rattle.octets.specs.laws.Pick.{flag_yes, flag_no}
use Rattle.octets.specs.laws.Scan.{drop_next}
use Rattle.octets.specs.Words.{starts}
use Rattle.octets.specs.laws.Words.{starts-length}
use Rattle.xml.specs.laws.Starting.{starts_inside}
use Rattle.documents.specs.Log.{document_close, ahead, document_end}

-- ---- counting

pub ahead_none : (o : Option ℕ) → ahead 0 o ≡ o
unfolding ahead
ahead_none None = refl
ahead_none (Some n) = let q : 0 + n ≡ n = omega arith in ap Some q

pub ahead_twice : (m n : ℕ) (o : Option ℕ) → ahead m (ahead n o) ≡ ahead (m + n) o
unfolding ahead
ahead_twice m n None = refl
ahead_twice m n (Some e) = let q : m + (n + e) ≡ m + n + e = omega arith in ap Some q

-- ---- a turn

pub end_here : (b : ℕ) (s : List ℕ) → starts document_close (b ∷ s) ≡ true → document_end (b ∷ s) ≡ Some 13
unfolding document_end pick
end_here b s h = rw h

pub end_later : (b : ℕ) (s : List ℕ) → starts document_close (b ∷ s) ≡ false → document_end (b ∷ s) ≡ ahead 1 (document_end s)
unfolding document_end pick
end_later b s h = rw h

-- ---- the loop

pub record Ending (s : List ℕ) (i : ℕ) : Type 0 where
  pub inside : i ≤ length s
  pub left : document_end s ≡ ahead i (document_end (drop i s))

module _ (s : List ℕ) where
  pub ending_start : Ending s 0
  ending_start = record { inside = omega arith; left = sym (ahead_none (document_end s)) }

  module _ (i : ℕ) where
    pub ending_more : Ending s i → i < length s → starts document_close (drop i s) ≡ false → Ending s (i + 1)
    ending_more t h e =
        let k : starts document_close (get_or s i 0 ∷ drop (i + 1) s) ≡ false = rw (← (drop_next s i h)) e in
        record { inside = omega arith; left = t.left ∙ ap (λ (r : List ℕ). ahead i (document_end r)) (drop_next s i h) ∙ ap (ahead i) (end_later _ _ k) ∙ ahead_twice i 1 (document_end (drop (i + 1) s)) }

    pub ending_here : Ending s i → i < length s → starts document_close (drop i s) ≡ true → Some (i + 13) ≡ document_end s
    unfolding ahead
    ending_here t h e =
        let k : starts document_close (get_or s i 0 ∷ drop (i + 1) s) ≡ true = rw (← (drop_next s i h)) e in
        sym (t.left ∙ ap (λ (r : List ℕ). ahead i (document_end r)) (drop_next s i h) ∙ ap (ahead i) (end_here _ _ k))

    pub ending_nowhere : Ending s i → length s ≤ i → None ≡ document_end s
    unfolding ahead document_end
    ending_nowhere t h = sym (t.left ∙ rw (drop_of_length-le s h))

pub ruleset ending = (ending_start, ending_more, ending_here, ending_nowhere, flag_yes, flag_no, rules)

-- where it stands, it ends within the log
pub close_inside : (s : List ℕ) (i : ℕ) → i ≤ length s → starts document_close (drop i s) ≡ true → i + 13 ≤ length s
close_inside s i l h = starts_inside document_close s i l h

-- ---- what an end is

pub some_same : (m n : ℕ) → Some m ≡ Some n → m ≡ n
some_same m n e = cc

pub none_is_some : {X : Type 0} (n : ℕ) → None ≡ Some n → X
none_is_some n e = let z : ◌≡◌ {A = ℕ} 0 1 = cc in absurd (omega arith)

pub end_inside : (s : List ℕ) (n : ℕ) → document_end s ≡ Some n → (13 ≤ n) × (n ≤ length s)
unfolding document_end pick ahead
end_inside [] n e = none_is_some n e
end_inside (b ∷ s) n e = go (starts document_close (b ∷ s)) refl (document_end s) refl e (end_inside s)
  where
    go : (t : Bool) → starts document_close (b ∷ s) ≡ t → (o : Option ℕ) → document_end s ≡ o → pick t (Some 13) (ahead 1 o) ≡ Some n →
        ((m : ℕ) → document_end s ≡ Some m → (13 ≤ m) × (m ≤ length s)) → (13 ≤ n) × (n ≤ length (b ∷ s))
    go true h o q e ih = let k = some_same 13 n e in let l = starts-length document_close (b ∷ s) h in (omega arith, omega arith)
    go false h None q e ih = none_is_some n e
    go false h (Some m) q e ih = let k = some_same (1 + m) n e in let l = ih m q in (omega arith, omega arith)
