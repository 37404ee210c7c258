-- An answer's number and its value can be told from its one number.
--     code_of_lem, code_fits  both put together
--     code_back               its number and its value from the one number
use Rattle.std.specs.Prelude.{◌≡◌, ℕ, ◌+◌, ◌*◌, ◌/◌, ◌%◌, ◌<◌}
use Rattle.std.proofs.Common.{◌∙◌, arith}
use Rattle.calls.specs.Conversion.{Outcome, written, refusal, numbers}
use Rattle.calls.specs.Answered.{outcome_of, code_of}
use Rattle.calls.specs.laws.Answered.{number_small}
use Rattle.calls.specs.declared.Answer.{Answer}

pub numbers_small : (o : Outcome) → (numbers o).0 < 256
numbers_small (written n) = omega arith
numbers_small (refusal r p) = number_small r

-- the answer's number and value, put together
pub code_of_lem : (a : Answer) {o : Outcome} {n v r : ℕ} → outcome_of a ≡ o → n ≡ (numbers (outcome_of a)).0 → v ≡ (numbers (outcome_of a)).1 → r ≡ n * 4294967296 + v → r ≡ code_of o
code_of_lem a {o} {n} {v} {r} e f g h = h ∙ rw (f, g, e)

pub code_fits : (a : Answer) {o : Outcome} {n v : ℕ} → (numbers o).1 < 4294967296 → outcome_of a ≡ o → n ≡ (numbers (outcome_of a)).0 → v ≡ (numbers (outcome_of a)).1 → (n < 256) × (v < 4294967296)
code_fits a h e f g = (rw f (numbers_small (outcome_of a)), rw (g, e) h)

pub code_back : (o : Outcome) → (numbers o).1 < 4294967296 → (code_of o / 4294967296 ≡ (numbers o).0) × (code_of o % 4294967296 ≡ (numbers o).1)
code_back o h = (omega (arith, h), omega (arith, h))
