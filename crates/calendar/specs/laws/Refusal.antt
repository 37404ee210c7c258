-- Laws of what specs/Refusal.antt defines.
--     refused_not    a refusal is not fine
use Rattle.std.specs.Prelude.{◌≡◌, refl, ℕ}
use Rattle.std.proofs.Common.{arith}
use Rattle.calendar.specs.Refusal.{Refusal, LENGTH, WORK, CHARACTER, LINE, NAME, FRAME, PARAMETER, VALUE, COUNT, ROOM, XML, JSON, EDITION, number_of, refusal_at, fine, refuse}

pub refusal_back : (r : Refusal) → refusal_at (number_of r) ≡ r
unfolding refusal_at
refusal_back LENGTH = refl
refusal_back WORK = refl
refusal_back CHARACTER = refl
refusal_back LINE = refl
refusal_back NAME = refl
refusal_back FRAME = refl
refusal_back PARAMETER = refl
refusal_back VALUE = refl
refusal_back COUNT = refl
refusal_back ROOM = refl
refusal_back XML = refl
refusal_back JSON = refl
refusal_back EDITION = refl

pub refused_not : {X : Type 0} (r : Refusal) (p : ℕ) → refuse r p ≡ fine → X
refused_not r p e = let z : ◌≡◌ {A = ℕ} 0 1 = cc in absurd (omega arith)
