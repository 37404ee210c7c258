-- A log that is read in pieces: how much of document_close the bytes so far end with is all that is kept between them.
--     further k b        the same behind one byte more, b, where they end with its first k bytes. `<` is its first byte only, so that nothing else can be begun anew
--     Scanned k s r      what a search of the piece s answers, where the bytes before it end with the first k bytes: the document's end in s; or how many of
--                        them the bytes end with then, whatever follows
--     Reached l .. , Kept s ..    what a program keeps that has read l, and what it keeps behind the piece s
use Rattle.std.specs.Prelude.{◌≡◌, List, ℕ, ◌+◌, ◌≤◌, ◌<◌, eqb, length, get_or, take, Some}
use Rattle.octets.specs.Pick.{pick}
use Rattle.octets.specs.Append.{◌⊕◌, joined}
use Rattle.octets.specs.Many.{ok}
use Rattle.documents.specs.Log.{document_close, ahead, document_end, documents, AllWhole}
use Rattle.documents.specs.declared.pieces.Searched.{Searched}
use Rattle.documents.specs.declared.pieces.Searched.TheVariants.{End, Open}

abbrev pub further : ℕ → ℕ → ℕ
further k b = pick (eqb b (get_or document_close k 0)) (k + 1) (pick (eqb b 60) 1 0)

-- with the first k bytes of document_close before it, s ends a document behind its first n bytes
pub record Ended (k : ℕ) (s : List ℕ) (n : ℕ) : Type 0 where
  pub inside : n ≤ length s
  pub some_bytes : 0 < n
  pub end : document_end (take k document_close ⊕ s) ≡ Some (k + n)

-- no document ends in s, and a search of what follows it is one behind the first j bytes of document_close
pub record Opened (k : ℕ) (s : List ℕ) (j : ℕ) : Type 0 where
  pub small : j < 13
  pub before : ℕ
  pub counts : before + j ≡ k + length s
  pub left : (more : List ℕ) → document_end (take k document_close ⊕ (s ⊕ more)) ≡ ahead before (document_end (take j document_close ⊕ more))

abbrev pub Scanned : ℕ → List ℕ → Searched → Type 0
Scanned k s (End n) = Ended k s n
Scanned k s (Open j) = Opened k s j

-- how far a log is searched, of which l was read: behind its whole documents, which end before `start`, stand bytes in which none ends, and these end with the
-- first `come` bytes of document_close
pub record Reached (l : List ℕ) (come start at : ℕ) : Type 0 where
  pub whole : List (List ℕ)
  pub left : List ℕ
  pub split : documents l ≡ ok whole left
  pub parts : joined whole ⊕ left ≡ l
  pub each : AllWhole whole
  pub begins : start ≡ length (joined whole)
  pub long : at ≡ length l
  pub small : come < 13
  pub before : ℕ
  pub counts : before + come ≡ length left
  pub next : (more : List ℕ) → document_end (left ⊕ more) ≡ ahead before (document_end (take come document_close ⊕ more))

-- the same behind one piece more, s
pub record Kept (s : List ℕ) (come start at come' start' at' : ℕ) : Type 0 where
  pub small : come' < 13
  pub long : at' ≡ at + length s
  pub reached : (l : List ℕ) → Reached l come start at → Reached (l ⊕ s) come' start' at'

-- the same behind some piece more, whichever bytes it has
pub record KeptSome (come start at come' start' at' : ℕ) : Type 0 where
  pub piece : List ℕ
  pub short : length piece ≤ 65536
  pub kept : Kept piece come start at come' start' at'
