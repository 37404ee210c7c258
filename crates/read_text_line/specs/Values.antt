-- Values of a parameter read through a cursor.
--     ValueAt p m s c r     what p, which reads a value, reads from the cursor c on;   ValueParts: where its parts stand
--     ValuesAt m s c r      all values of a parameter, from its first on
use Rattle.std.specs.Prelude.{◌≡◌, Bool, true, false, List, ℕ, Option, Result}
use Rattle.octets.specs.Runs.{run_of}
use Rattle.octets.specs.Many.{One}
use Rattle.source.specs.Source.{rest}
use Rattle.read_text_line.specs.ContentLine.{ParamValue, is_q_safe_char, is_safe_char, param_value, with_first}
use Rattle.read_text_line.specs.Cursor.{Onward, OnwardTo, RunEnds, OnRead, ItemAt, one_to, values_at}
use Rattle.read_text_line.specs.declared.Malformed.{Malformed}
use Rattle.read_text_line.specs.declared.ValueCursors.{ValueCursors}

abbrev pub chars_in : Bool → ℕ → Bool
chars_in true = is_q_safe_char
chars_in false = is_safe_char

-- the value whose characters stand from a cursor on
abbrev pub value_in : ℕ → List ℕ → Bool → ℕ → ParamValue
value_in m s quoted c = record { quoted = quoted; chars = run_of (chars_in quoted) (rest m s c) }

abbrev pub value_of : ℕ → List ℕ → ValueCursors → ParamValue
value_of m s v = value_in m s v.quoted v.from

abbrev pub behind_value : ValueCursors → ℕ
behind_value v = v.next

-- where the value at c stands, or what was read of it
pub record ValueParts (m : ℕ) (s : List ℕ) (c : ℕ) (v : ValueCursors) : Type 0 where
  pub start : Onward m s c v.from
  pub chars : RunEnds (chars_in v.quoted) m s v.from v.to
  pub behind : Onward m s v.to v.next

pub record ValueAt (p : List ℕ → One ParamValue) (m : ℕ) (s : List ℕ) (c : ℕ) (r : Result (Option ValueCursors) (Malformed ValueCursors)) : Type 0 where
  pub item : ItemAt p m s c (value_of m s) behind_value r
  pub parts : OnRead r (ValueParts m s c)

-- ---- all values

-- whatever the parameter's name
pub record ValuesAt (m : ℕ) (s : List ℕ) (c : ℕ) (r : Result ℕ (Malformed ℕ)) : Type 0 where
  pub fault : List ℕ
  pub is : (n : List ℕ) → with_first (param_value (rest m s c)) n ≡ one_to m s (record { name = n; values = values_at m s c }) r fault
  pub to : OnwardTo m s c r
