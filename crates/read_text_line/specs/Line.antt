-- A content line read through a cursor.
--     line_from, named   the line whose parts stand at cursors
--     Parts              where a line's parts stand
--     LineAt             the contract of `line_at`: that this is the line from a cursor on, and where its parts stand
--     TailAt             ":" value, behind a name and its parameters
use Rattle.std.specs.Prelude.{◌≡◌, List, ℕ, Option, None, Some, option_map}
use Rattle.octets.specs.Class.{is_name_char}
use Rattle.octets.specs.Runs.{run_of}
use Rattle.octets.specs.Many.{ok}
use Rattle.source.specs.Source.{rest}
use Rattle.read_text_line.specs.ContentLine.{RawParameter, ContentLine, with_value, content_line}
use Rattle.read_text_line.specs.Cursor.{Onward, params_at}
use Rattle.read_text_line.specs.Params.{NameEnds}
use Rattle.read_text_line.specs.declared.LineCursors.{LineCursors}

-- ---- ":" value

-- the line of the name n and the parameters ps, whose value stands at a cursor
abbrev pub line_with : ℕ → List ℕ → List ℕ → List RawParameter → ℕ → ContentLine
line_with m s n ps v = record { name = n; parameters = ps; value = rest m s v }

abbrev pub OnwardIf : ℕ → List ℕ → ℕ → Option ℕ → Type 0
OnwardIf m s c (Some v) = Onward m s c v
OnwardIf m s c None = Unit {0}

pub record TailAt (m : ℕ) (s : List ℕ) (c : ℕ) (r : Option ℕ) : Type 0 where
  pub is : (n : List ℕ) (ps : List RawParameter) → with_value (ok ps (rest m s c)) n ≡ option_map (line_with m s n ps) r
  pub to : OnwardIf m s c r

-- ---- the line

-- the line of the name w, whose parameters and value stand at the cursors l
abbrev pub line_from : List ℕ → ℕ → List ℕ → LineCursors → ContentLine
line_from w m s l = record { name = w; parameters = params_at m s l.parameters; value = rest m s l.value }

-- whose name stands there too
abbrev pub named : ℕ → List ℕ → LineCursors → ContentLine
named m s l = line_from (run_of is_name_char (rest m s l.name)) m s l

-- its name ends where its parameters begin, and its value stands behind them
pub record Parts (m : ℕ) (s : List ℕ) (l : LineCursors) : Type 0 where
  pub name : NameEnds m s l.name l.parameters
  pub value : Onward m s l.parameters l.value

abbrev pub PartsOf : ℕ → List ℕ → ℕ → Option LineCursors → Type 0
PartsOf m s c (Some l) = (l.name ≡ c) × Parts m s l
PartsOf m s c None = Unit {0}

pub record LineAt (m : ℕ) (s : List ℕ) (c : ℕ) (r : Option LineCursors) : Type 0 where
  pub is : content_line (rest m s c) ≡ option_map (named m s) r
  pub parts : PartsOf m s c r
