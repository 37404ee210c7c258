-- A log is the canonical XML of calls, one document after another. It is split with no reading of XML: a document ends with the root's end tag and LF, and these
-- bytes stand together nowhere else in it (laws/Passed.antt, and Log.antt of crate theorems).
--     document_close      what a document ends with
--     document_end log    how many bytes there are to the end of the first document: up to the first document_close, and with it; none where it does not occur
--     documents log       the documents, first to last, and the bytes that are left behind them
--     Whole d             d is a document whatever follows it;   AllWhole: each of a list
use Rattle.std.specs.Prelude.{◌≡◌, List, [], ◌∷◌, ℕ, ◌+◌, length, take, drop, Option, None, Some}
use Rattle.octets.specs.Ascii.{ascii}
use Rattle.octets.specs.Pick.{pick}
use Rattle.octets.specs.Append.{◌⊕◌}
use Rattle.octets.specs.Words.{starts}
use Rattle.octets.specs.Many.{One, got, All, many}
use Rattle.octets.specs.Many as items

abbrev pub document_close : List ℕ
document_close = ascii "</icalendar>\n"

-- n bytes before a list are counted too
unfoldable pub ahead : ℕ → Option ℕ → Option ℕ
ahead n None = None
ahead n (Some e) = Some (n + e)

unfoldable pub document_end : List ℕ → Option ℕ
document_end [] = None
document_end (b ∷ s) = pick (starts document_close (b ∷ s)) (Some (length document_close)) (ahead 1 (document_end s))

-- ---- a log split

abbrev pub cut_by : Option ℕ → List ℕ → One (List ℕ)
cut_by None s = items.none
cut_by (Some n) s = got (take n s) (drop n s)

abbrev pub first_document : List ℕ → One (List ℕ)
first_document s = cut_by (document_end s) s

unfoldable pub documents : List ℕ → All (List ℕ)
documents log = many first_document log

-- whatever follows it, a document ends where it ends
abbrev pub Whole : List ℕ → Type 0
Whole d = (more : List ℕ) → document_end (d ⊕ more) ≡ Some (length d)

abbrev pub AllWhole : List (List ℕ) → Type 0
AllWhole [] = Unit {0}
AllWhole (d ∷ ds) = Whole d × AllWhole ds
