-- The characters that are read up to the next tag are clean, where the bytes of the document are well formed.
--     run_of           the characters of marks up to the next tag
use Rattle.std.specs.Prelude.{List, [], ◌∷◌, ℕ}
use Rattle.octets.specs.Append.{◌⊕◌}
use Rattle.xml.specs.Marks.{Mark, opens, closes, char, refers, fault}

unfoldable pub run_by : Mark → List ℕ → List ℕ
run_by (opens p nm) rest = []
run_by (closes p nm) rest = []
run_by (char p b) rest = b ∷ rest
run_by (refers p bs) rest = bs ⊕ rest
run_by (fault p) rest = []

unfoldable pub run_of : List Mark → List ℕ
run_of [] = []
run_of (m ∷ ms) = run_by m (run_of ms)
