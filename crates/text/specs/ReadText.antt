-- The answer for an iCalendar text in an edition: the calendar that it states, or its refusal with the place in the bytes as lent.
--     text_verdict   refusals 1, 2 and 3 in this order, then the first faulty line
--     read_calendar  the answer
use Rattle.std.specs.Prelude.{List, [], ◌∷◌, ℕ, leb, length}
use Rattle.octets.specs.Pick.{pick}
use Rattle.calendar.specs.Refusal.{LENGTH, WORK, FRAME, Verdict, fine, refuse, ◌otherwise◌, Answer, answer, limit, characters}
use Rattle.folding.specs.Unfold.{unfolded, origin}
use Rattle.folding.specs.Lines.{Line, lines}
use Rattle.utf8.specs.Utf8.{first_bad}
use Rattle.edition.specs.declared.Edition.{Edition}
use Rattle.text.specs.Nesting.{nesting}
use Rattle.text.specs.Tree.{calendar_of}

-- refusals 4 to 9: a text of no lines states no calendar
unfoldable pub lines_verdict : Edition → ℕ → List Line → Verdict
lines_verdict ed e [] = refuse FRAME e
lines_verdict ed e (l ∷ ls) = nesting ed e (l ∷ ls) []

-- the verdict on kept bytes, with places among these
unfoldable pub kept_verdict : Edition → List ℕ → Verdict
kept_verdict ed u = characters (first_bad u) otherwise lines_verdict ed (length u) (lines u)

-- the same with places in the bytes as lent
unfoldable pub placed : List ℕ → Verdict → Verdict
placed s fine = fine
placed s (refuse r p) = refuse r (origin s p)

unfoldable pub text_verdict : Edition → List ℕ → ℕ → Verdict
text_verdict ed s room =
    pick (leb (length s) limit)
    (pick (leb (length s) room) (placed s (kept_verdict ed (unfolded s))) (refuse WORK 0))
    (refuse LENGTH 0)

-- the answer where a work room of a given length is lent
unfoldable pub read_calendar : Edition → List ℕ → ℕ → Answer
read_calendar ed s room = answer (text_verdict ed s room) (calendar_of ed (lines (unfolded s)))
