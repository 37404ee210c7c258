-- The lines of a text. A line is what stands before the next CRLF; what has no CRLF after it is a loose line. A text that ends with CRLF ends with a whole line.
--     lines s          the lines of s, each with the index in s where it starts
--     lines_from p s   the same, where s starts at index p
--     to_break         how many bytes stand before the first CRLF
use Rattle.std.specs.Prelude.{Bool, true, false, List, [], ◌∷◌, ℕ, zero, suc, ◌+◌}
use Rattle.octets.specs.Pick.{pick, ◌or◌}
use Rattle.octets.specs.Words.{starts}
use Rattle.folding.specs.Unfold.{crlf}

-- where a line starts, and its bytes; or where a loose line starts
pub data Line : Type 0 where
  whole : ℕ → List ℕ → Line
  loose : ℕ → Line

-- one byte more, at index p, in front of the first line
unfoldable pub longer : ℕ → ℕ → List Line → List Line
longer p a [] = loose p ∷ []
longer p a (whole q l ∷ ls) = whole p (a ∷ l) ∷ ls
longer p a (loose q ∷ ls) = loose p ∷ ls

-- at CRLF a line ends, and LF is still to be left out; else a byte of the first line. f goes on with what follows
unfoldable pub line_step : Bool → ℕ → ℕ → (ℕ → List Line) → List Line
line_step true p a f = whole p [] ∷ f 1
line_step false p a f = longer p a (f 0)

-- the lines of s, which starts at index p, once k bytes have been left out
unfoldable pub lines_after : List ℕ → ℕ → ℕ → List Line
lines_after [] p k = []
lines_after (a ∷ s) p zero = line_step (starts crlf (a ∷ s)) p a (lines_after s (p + 1))
lines_after (a ∷ s) p (suc k) = lines_after s (p + 1) k

abbrev pub lines_from : ℕ → List ℕ → List Line
lines_from p s = lines_after s p 0

abbrev pub lines : List ℕ → List Line
lines s = lines_from 0 s

-- a CRLF stands somewhere in s
unfoldable pub holds_break : List ℕ → Bool
holds_break [] = false
holds_break (a ∷ s) = starts crlf (a ∷ s) or holds_break s

-- no line of a list is loose
unfoldable pub none_loose : List Line → Bool
none_loose [] = true
none_loose (whole p l ∷ ls) = none_loose ls
none_loose (loose p ∷ ls) = false

-- ---- the first line, by the number of bytes before its end

-- how many bytes stand before the first CRLF; all where there is none
unfoldable pub to_break : List ℕ → ℕ
to_break [] = 0
to_break (a ∷ s) = pick (starts crlf (a ∷ s)) 0 (suc (to_break s))
