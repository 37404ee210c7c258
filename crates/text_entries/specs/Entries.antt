-- The entries of a text, as code finds them.
--     entries_at mode s at    what the lines of s from a cursor on are
--     First             the entry at a cursor, and the cursor of the next
--     FoundAt           the contract of `entry_at`
use Rattle.std.specs.Prelude.{◌≡◌, List, ◌∷◌, map, ℕ, ◌≤◌, ◌<◌, length, take, Some}
use Rattle.octets.specs.Ascii.{ascii}
use Rattle.octets.specs.Pick.{pick}
use Rattle.octets.specs.Class.{upper}
use Rattle.octets.specs.Words.{same}
use Rattle.source.specs.Source.{rest}
use Rattle.read_text_line.specs.ContentLine.{ContentLine}
use Rattle.read_text_line.specs.Decoded.{read_line}
use Rattle.read_text_line.specs.Line.{LineAt}
use Rattle.read_text_line.specs.LineEnd.{lines_at}
use Rattle.read_text_line.specs.Ready.{Ready}
use Rattle.read_text_line.specs.declared.LineCursors.{LineCursors}
use Rattle.text.specs.Tree.{Entry, begin, end, property, nothing, entry_of}
use Rattle.edition.specs.declared.Edition.{Edition}
use Rattle.text_entries.specs.declared.entry.Found.{Found}
use Rattle.text_entries.specs.declared.entry.Kind.{Kind}
use Rattle.text_entries.specs.declared.entry.Kind.TheVariants.{Begin, End, Property, Nothing}

-- what a content line with the name w is
abbrev pub kind_named : List ℕ → Kind
kind_named w = pick (same w (ascii "BEGIN")) Begin (pick (same w (ascii "END")) End Property)

module _ (ed : Edition) where
  unfoldable pub entries_at : ℕ → List ℕ → ℕ → List Entry
  entries_at mode s at = map (entry_of ed) (lines_at mode s at)

  -- the entry at a cursor, and the cursor of the next
  abbrev pub First : ℕ → List ℕ → ℕ → Entry → ℕ → Type 0
  First mode s at x next = entries_at mode s at ≡ x ∷ entries_at mode s next

  -- a property, the line that it is, and where its parts stand
  pub record PropertyAt (mode : ℕ) (s : List ℕ) (at : ℕ) (l : LineCursors) (e next : ℕ) : Type 0 where
    pub line : ContentLine
    pub is : read_line ed (rest mode (take e s) at) ≡ Some line
    pub parts : LineAt mode (take e s) at (Some l)
    pub first : First mode s at (property line) next

  abbrev pub FoundBy : Kind → ℕ → List ℕ → ℕ → LineCursors → ℕ → ℕ → Type 0
  FoundBy Begin mode s at l e next = First mode s at (begin (upper (rest mode (take e s) l.value))) next
  FoundBy End mode s at l e next = First mode s at end next
  FoundBy Property mode s at l e next = PropertyAt mode s at l e next
  FoundBy Nothing mode s at l e next = First mode s at nothing next

  pub record FoundAt (mode : ℕ) (s : List ℕ) (at : ℕ) (r : Found) : Type 0 where
    pub onward : at < r.next
    pub ready : Ready mode s r.next
    pub ends : r.end ≤ length s
    pub found : FoundBy r.kind mode s at r.line r.end r.next
