-- Characters escaped byte by byte, as they stand, in small letters and in capitals.
--     escaped-each, small_each, capitals_each    a string's characters byte by byte
--     lettering                                  rules of the loops that change the case
use Rattle.std.specs.Prelude.{◌≡◌, refl, List, [], ◌∷◌, ◌++◌, ℕ, ◌<◌}
use Rattle.std.proofs.Common.{ap}
use Rattle.octets.specs.Append.{◌⊕◌}
use Rattle.octets.specs.Class.{upper, upper_byte, lower, lower_byte}
use Rattle.sink.specs.Sink.{Put}
use Rattle.sink.specs.laws.Sink.{each}
use Rattle.names.specs.laws.Case.{cased_small}
use Rattle.names.specs.declared.Case.TheVariants.{Capital, Small}
use Rattle.source.specs.laws.Copying.{copying}
use Rattle.json_text.specs.Write.{escaped_byte, escaped}

pub escaped-each : (s : List ℕ) → escaped s ≡ each escaped_byte s
unfolding escaped each ◌⊕◌
escaped-each [] = refl
escaped-each (b ∷ s) = ap (λ (l : List ℕ). escaped_byte b ++ l) (escaped-each s)

-- ---- in small letters

abbrev pub small_byte : ℕ → List ℕ
small_byte b = escaped_byte (lower_byte b)

pub small_each : (s : List ℕ) → escaped (lower s) ≡ each small_byte s
unfolding escaped lower each ◌⊕◌
small_each [] = refl
small_each (b ∷ s) = ap (λ (l : List ℕ). small_byte b ++ l) (small_each s)

pub small_small : (b : ℕ) → b < 256 → lower_byte b < 256
small_small b h = cased_small Small b h

-- the byte, made small by a call
pub put_small : {d e : List ℕ} {o r v : ℕ} (u : ℕ) → v ≡ lower_byte u → Put d e o r (escaped_byte v) → Put d e o r (small_byte u)
put_small u h p = rw (← h) p

-- ---- in capitals

abbrev pub capital_byte : ℕ → List ℕ
capital_byte b = escaped_byte (upper_byte b)

pub capitals_each : (s : List ℕ) → escaped (upper s) ≡ each capital_byte s
unfolding escaped upper each ◌⊕◌
capitals_each [] = refl
capitals_each (b ∷ s) = ap (λ (l : List ℕ). capital_byte b ++ l) (capitals_each s)

pub capital_small : (b : ℕ) → b < 256 → upper_byte b < 256
capital_small b h = cased_small Capital b h

pub put_capital : {d e : List ℕ} {o r v : ℕ} (u : ℕ) → v ≡ upper_byte u → Put d e o r (escaped_byte v) → Put d e o r (capital_byte u)
put_capital u h p = rw (← h) p

pub ruleset lettering = (put_small, put_capital, copying)
