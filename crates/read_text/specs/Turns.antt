-- A line in its text, and a component from the line behind its BEGIN to its END: contracts.
--     on_from     the verdict from a place on, with components open
--     Turned      a line's kind, what it does to the open components, and the place behind it
--     Body        a component: whatever is open around it, with so many levels left, in a calendar with METHOD or without, the text goes on behind it, or is refused
use Rattle.std.specs.Prelude.{◌≡◌, Bool, List, ◌∷◌, ℕ, ◌+◌, ◌≤◌, ◌<◌, length, take, Result, Ok, Err}
use Rattle.source.specs.Source.{rest}
use Rattle.calendar.specs.Calendar.{Property}
use Rattle.calendar.specs.Levels.{levels}
use Rattle.calendar.specs.Refusal.{Verdict, refuse}
use Rattle.read_text_line.specs.LineEnd.{index, lines_at}
use Rattle.read_text_line.specs.Ready.{Ready}
use Rattle.text.specs.Nesting.{Open, opened, has_level, method_in, onward, nesting}
use Rattle.text.specs.LineKind.{LineKind, step}
use Rattle.edition.specs.declared.Edition.{Edition}
use Rattle.read_text.specs.Places.{PlaceAt}
use Rattle.read_text.specs.Kinds.{KindIs}
use Rattle.read_text.specs.declared.Turn.{Turn}
use Rattle.refusals.specs.Fault.{refusal_of}
use Rattle.refusals.specs.declared.Fault.{Fault}

abbrev pub open_in : List ℕ → List Property → Bool → Open
open_in c seen inner = record { name = c; seen = seen; inner = inner }

abbrev pub Ends : ℕ → List ℕ → ℕ → Result ℕ Fault → Type 0
Ends m s from (Ok next) = (from < next) × Ready m s next
Ends m s from (Err f) = f.place ≤ length s

module _ (ed : Edition) where
  abbrev pub on_from : ℕ → List ℕ → ℕ → List Open → Verdict
  on_from m s at st = nesting ed (length (rest m s 0)) (lines_at m s at) st

  -- ---- a line

  -- in a component c; v says whether there is a level left in it
  pub record Turned (c : List ℕ) (v inner : Bool) (m : ℕ) (s : List ℕ) (at : ℕ) (t : Turn) : Type 0 where
    pub bytes : List ℕ
    pub line : LineKind
    pub said : KindIs (PlaceAt m s at bytes) v m (take t.end s) line t.kind
    pub low : at < t.next
    pub high : Ready m s t.next
    pub within : t.end ≤ length s
    pub does : (seen : List Property) (st : List Open) → has_level (open_in c seen inner ∷ st) ≡ v →
        on_from m s at (open_in c seen inner ∷ st) ≡ onward (step line (open_in c seen inner) st) (index m s at) bytes (on_from m s t.next)

  -- ---- a component

  -- the text goes on at a cursor, or is refused
  abbrev pub resumed : ℕ → List ℕ → Result ℕ Fault → List Open → Verdict
  resumed m s (Ok next) st = on_from m s next st
  resumed m s (Err f) st = refuse (refusal_of f.refusal) (index m s f.place)

  pub record Body (c : List ℕ) (left : ℕ) (method : Bool) (m : ℕ) (s : List ℕ) (from : ℕ) (r : Result ℕ Fault) : Type 0 where
    pub ends : Ends m s from r
    pub agrees : (st : List Open) → method_in st ≡ method → length st + 1 + left ≡ levels → on_from m s from (opened c ∷ st) ≡ resumed m s r st
