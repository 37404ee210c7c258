-- Laws of what specs/Automaton.antt defines.
--     finds       the automaton's answer;   found: the same at the end of a loop
use Rattle.std.specs.Prelude.{◌≡◌, refl, Bool, true, false, List, [], ◌∷◌, ℕ, zero, suc, ◌+◌, ◌-◌, ◌≤◌, length, eqb, leb, Option, Some}
use Rattle.std.proofs.Common.{ap, ◌∙◌, arith}
use Rattle.std.proofs.Math.Dec.{eqb-suc-zero}
use Rattle.octets.specs.Pick.{pick, within, ◌and◌}
use Rattle.octets.specs.Scan.{foldi}
use Rattle.octets.specs.laws.Scan.{FoldingI, foldi_end}
use Rattle.utf8.specs.Utf8.{more, low, high, high_after, tails, bad_from, first_bad}
use Rattle.utf8.specs.Automaton.{reading, start, tail, step, verdict}
use Rattle.utf8.specs.declared.Reading.{Reading}

suc_sub_one : (n : ℕ) → suc n - 1 ≡ n
suc_sub_one n = omega arith

-- once a sequence is refused nothing changes
frozen : (n lo hi : ℕ) (l : Bool) (p i : ℕ) (s : List ℕ) → foldi step (reading n lo hi l false p) i s ≡ reading n lo hi l false p
unfolding foldi pick
frozen n lo hi l p i [] = refl
frozen n lo hi l p i (b ∷ s) = frozen n lo hi l p (i + 1) s

-- what a lead byte and a tail byte lead to, where t is the byte's test
lead_case : (t : Bool) (n lo hi : ℕ) (l : Bool) (i : ℕ) (s : List ℕ) →
    verdict (foldi step (reading n lo hi l true i) (i + 1) s) ≡ pick (tails n lo hi l s) (bad_from n (i + 1) s) (Some i) →
    verdict (foldi step (reading n lo hi l t i) (i + 1) s) ≡ pick (t and tails n lo hi l s) (bad_from n (i + 1) s) (Some i)
unfolding pick ◌and◌
lead_case true n lo hi l i s ih = ih
lead_case false n lo hi l i s ih = rw frozen

tail_case : (t : Bool) (n lo hi : ℕ) (l : Bool) (h p i : ℕ) (s : List ℕ) →
    verdict (foldi step (reading n 0x80 h false true p) (i + 1) s) ≡ pick (tails n 0x80 h false s) (bad_from n (i + 1) s) (Some p) →
    verdict (foldi step (pick t (reading n 0x80 h false true p) (reading (suc n) lo hi l false p)) (i + 1) s)
    ≡ pick (t and tails n 0x80 h false s) (bad_from n (i + 1) s) (Some p)
unfolding pick ◌and◌
tail_case true n lo hi l h p i s ih = ih
tail_case false n lo hi l h p i s ih = rw frozen

step-tail : (n lo hi : ℕ) (l : Bool) (p i b : ℕ) →
    step (reading (suc n) lo hi l true p) i b ≡ pick (within lo hi b) (tail n l b p) (reading (suc n) lo hi l false p)
unfolding pick
step-tail n lo hi l p i b = rw (eqb-suc-zero, suc_sub_one)

run : (s : List ℕ) (n lo hi : ℕ) (l : Bool) (p i : ℕ) →
    verdict (foldi step (reading n lo hi l true p) i s) ≡ pick (tails n lo hi l s) (bad_from n i s) (Some p)
unfolding foldi pick ◌and◌ tails bad_from
run [] zero lo hi l p i = refl
run [] (suc n) lo hi l p i = rw eqb-suc-zero
run (a ∷ s) zero lo hi l p i =
    lead_case (leb (more a) 3) (more a) (low a) (high a) (eqb a 0xEF) i s (run s (more a) (low a) (high a) (eqb a 0xEF) i (i + 1))
run (b ∷ s) (suc n) lo hi l p i =
    ap (λ (r : Reading). verdict (foldi step r (i + 1) s)) (step-tail n lo hi l p i b)
    ∙ tail_case (within lo hi b) n lo hi l (high_after l b) p i s (run s n 0x80 (high_after l b) false p (i + 1))

pub finds : (s : List ℕ) → verdict (foldi step start 0 s) ≡ first_bad s
unfolding pick tails
finds s = run s 0 0 0 false 0 0

-- the loop's end
pub found : {st : Reading} {s : List ℕ} {i : ℕ} {r : Option ℕ} → FoldingI step start s st i → length s ≤ i → r ≡ verdict st → r ≡ first_bad s
found {st} {s} {i} t h e = e ∙ ap verdict (foldi_end step s start st i t h) ∙ finds s
