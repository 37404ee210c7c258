-- Laws of what specs/Escape.antt defines.
use Rattle.std.specs.Prelude.{◌≡◌, refl, List, [], ◌∷◌, ◌++◌, ℕ}
use Rattle.std.proofs.Common.{ap}
use Rattle.octets.specs.Append.{◌⊕◌}
use Rattle.sink.specs.laws.Sink.{each}
use Rattle.xml.specs.Escape.{escaped_byte, escaped}

-- byte by byte
pub escaped-each : (s : List ℕ) → escaped s ≡ each escaped_byte s
unfolding escaped each ◌⊕◌
escaped-each [] = refl
escaped-each (b ∷ s) = ap (λ (l : List ℕ). escaped_byte b ++ l) (escaped-each s)
