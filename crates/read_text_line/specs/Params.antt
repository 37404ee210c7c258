-- Parameters of a content line read through a cursor.
--     ParamOf p m s c r     what p, which reads a parameter, reads from the cursor c on
--     ParamParts, ReadParts  where its parts stand;   where what was read of it stands;   NameIn: where its name ends
use Rattle.std.specs.Prelude.{List, ℕ, Option, Result}
use Rattle.octets.specs.Class.{is_name_char}
use Rattle.octets.specs.Runs.{after_byte, after_run, run_of}
use Rattle.octets.specs.Many.{One, bad}
use Rattle.source.specs.Source.{rest}
use Rattle.names.specs.Runs.{RunEnds as NameRun}
use Rattle.read_text_line.specs.ContentLine.{RawParameter, param_value, with_first}
use Rattle.read_text_line.specs.Cursor.{Onward, OnItem, OnRead, ItemAt, values_at}
use Rattle.read_text_line.specs.declared.Malformed.{Malformed}
use Rattle.read_text_line.specs.declared.ParameterCursors.{ParameterCursors}

-- ---- names

-- the run of name characters from c on ends at e
abbrev pub NameEnds : ℕ → List ℕ → ℕ → ℕ → Type 0
NameEnds m s c e = NameRun is_name_char m s c e

-- ---- a parameter

-- the parameter whose name, and whose first value, stand from cursors on
abbrev pub param_in : ℕ → List ℕ → ℕ → ℕ → RawParameter
param_in m s name first = record { name = run_of is_name_char (rest m s name); values = values_at m s first }

abbrev pub param_of : ℕ → List ℕ → ParameterCursors → RawParameter
param_of m s a = param_in m s a.name a.first

abbrev pub behind_param : ParameterCursors → ℕ
behind_param a = a.next

abbrev pub NameIn : ℕ → List ℕ → ParameterCursors → Type 0
NameIn m s a = NameEnds m s a.name a.end

-- where the parameter at c stands
pub record ParamParts (m : ℕ) (s : List ℕ) (c : ℕ) (a : ParameterCursors) : Type 0 where
  pub start : Onward m s c a.name
  pub named : NameEnds m s a.name a.end
  pub ends : Onward m s a.name a.end
  pub equals : Onward m s a.end a.first
  pub behind : Onward m s a.first a.next

-- where what was read of it stands, whether it is a parameter or a fault
pub record ReadParts (m : ℕ) (s : List ℕ) (c : ℕ) (a : ParameterCursors) : Type 0 where
  pub start : Onward m s c a.name
  pub ends : Onward m s a.name a.end
  pub equals : Onward m s a.end a.first
  pub behind : Onward m s a.first a.next

pub record ParamOf (p : List ℕ → One RawParameter) (m : ℕ) (s : List ℕ) (c : ℕ) (r : Result (Option ParameterCursors) (Malformed ParameterCursors)) : Type 0 where
  pub item : ItemAt p m s c (param_of m s) behind_param r
  pub parts : OnItem r (ParamParts m s c)
  pub read : OnRead r (ReadParts m s c)

-- of one without a name, or without an equals sign
abbrev pub bad_param : ℕ → ParameterCursors
bad_param c = record { name = c; end = c; first = c; next = c }

-- param, behind its name's check
abbrev pub named_param : List ℕ → One RawParameter
named_param s = after_byte 61 (after_run is_name_char s) (λ r. with_first (param_value r) (run_of is_name_char s)) (bad s)
