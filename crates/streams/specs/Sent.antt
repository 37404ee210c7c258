-- What a writer is left with, of which it is known what it holds.
--     AppendsFront   some first bytes of bs are appended
--     Sends          what comes of sending bs: at Ok it is appended, and where a write fails some first bytes of it
--     Grows          some bytes are appended, or none
--     Fills          what a read that fails leaves of buf: some first bytes of it are consumed
use Rattle.std.specs.Prelude.{ℕ, ◌≤◌, List, Option, Result, MatchResult, length, take}
use Rattle.std.specs.Io.KnownBytes.{Appends, Consumes}

abbrev pub AppendsFront : Option (List ℕ) → Option (List ℕ) → List ℕ → Type 0
AppendsFront old new bs = (n : ℕ) × Appends old new (take n bs)

abbrev pub Sends : {A E : Type 0} → Option (List ℕ) → Option (List ℕ) → Result A E → List ℕ → Type 0
Sends old new r bs = MatchResult r (λ _. Appends old new bs) (λ _. AppendsFront old new bs)

abbrev pub Grows : Option (List ℕ) → Option (List ℕ) → Type 0
Grows old new = (bs : List ℕ) × Appends old new bs

abbrev pub Fills : Option (List ℕ) → Option (List ℕ) → List ℕ → Type 0
Fills old new buf = (n : ℕ) × (n ≤ length buf) × Consumes old new (take n buf)
