-- The cursor of `source`: the byte that was found there is known.
use Rattle.std.specs.Prelude.{◌≡◌, false, List, ◌∷◌, ℕ, eqb}
use Rattle.std.proofs.Common.{◌∙◌}
use Rattle.octets.specs.Pick.{pick}
use Rattle.source.specs.Source.{rest, spell, Reads}
use Rattle.source.specs.declared.points.Unit.{Unit}

pub rest_this : {m : ℕ} {s : List ℕ} {c : ℕ} {r : Unit} → Reads m s c r → (b : ℕ) → r.u ≡ b → (eqb b 256 ≡ false) → rest m s c ≡ b ∷ rest m s r.next
unfolding spell pick
rest_this p b e f = p.is ∙ rw (e, f)
