-- UTC-OFFSET written: a sign, the digits two by two, and the marks of XML between them.
--     offset_bytes      what the writer puts
use Rattle.std.specs.Prelude.{Bool, List, [], ◌∷◌, ℕ, Option}
use Rattle.octets.specs.Pick.{pick}
use Rattle.octets.specs.Append.{◌⊕◌}
use Rattle.octets.specs.Reading.{or_nothing}
use Rattle.times.specs.Digits.{two_digits}
use Rattle.times.specs.Written.{marked}

-- 45 is -, 43 is +
unfoldable pub sign_of : Bool → ℕ
sign_of neg = pick neg 45 43

-- the second, if it was given
unfoldable pub last_bytes : Bool → Option ℕ → List ℕ
last_bytes to s = or_nothing (marked to 58) s

unfoldable pub offset_bytes : Bool → Bool → ℕ → ℕ → Option ℕ → List ℕ
offset_bytes to neg h m s = (sign_of neg ∷ []) ⊕ two_digits h ⊕ marked to 58 m ⊕ last_bytes to s
