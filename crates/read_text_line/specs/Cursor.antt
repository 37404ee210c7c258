-- Parts of a content line read through a cursor: what the readers answer, as contracts. `rest m s c` is what stands from the cursor c on.
--     Onward m s c r        the cursor r is at or behind c, within bounds, and reached from c by whole steps
--     RunEnds p m s c r     the run of characters that pass p, from c on, ends at r;   in_line, char_of: its tests, `passing` its rules
--     ItemAt p m s c ..     what p reads from c on: no item, an item and the cursor behind it, or a fault
--     OnItem r P            P of the cursors of an item that is there;   OnRead r P: of what was read of a faulty one too
--     there r               an item that has to be there
--     values_at, params_at  the values of a parameter from its first on, the parameters of a line, up to the first that is none
use Rattle.std.specs.Prelude.{◌≡◌, Bool, true, false, List, [], ◌∷◌, ℕ, ◌*◌, max, ◌≤◌, eqb, length, Option, None, Some, Result, Ok, Err}
use Rattle.octets.specs.Pick.{pick}
use Rattle.octets.specs.Runs.{after_run}
use Rattle.octets.specs.Many.{One, got, bad}
use Rattle.source.specs.Source.{rest, cuts, Reach}
use Rattle.read_text_line.specs.ContentLine.{ParamValue, RawParameter, is_q_safe_char, is_safe_char, is_value_char, param_value, next_value, next_param}
use Rattle.read_text_line.specs.Items.{items}
use Rattle.read_text_line.specs.declared.Chars.{Chars}
use Rattle.read_text_line.specs.declared.Chars.TheVariants.{Safe, Quoted, Valued}
use Rattle.read_text_line.specs.declared.Malformed.{Malformed}

-- ---- cursors

pub record Onward (m : ℕ) (s : List ℕ) (c r : ℕ) : Type 0 where
  pub onward : c ≤ r
  pub inside : r ≤ max c (4 * length s)
  pub plain : cuts m ≡ true → c ≤ length s → r ≤ length s
  pub reach : Reach m s c r

-- ---- runs of characters

-- a byte that passes p; 256 is the end
abbrev pub in_line : (ℕ → Bool) → ℕ → Bool
in_line p u = pick (eqb u 256) false (p u)

abbrev pub char_of : Chars → ℕ → Bool
char_of Safe = is_safe_char
char_of Quoted = is_q_safe_char
char_of Valued = is_value_char

pub record RunEnds (p : ℕ → Bool) (m : ℕ) (s : List ℕ) (c r : ℕ) : Type 0 where
  pub left : rest m s r ≡ after_run p (rest m s c)
  pub to : Onward m s c r

-- up to the cursor behind what is there, or behind what was read of it
abbrev pub OnwardTo : ℕ → List ℕ → ℕ → Result ℕ (Malformed ℕ) → Type 0
OnwardTo m s c (Ok next) = Onward m s c next
OnwardTo m s c (Err e) = Onward m s c e.read

-- ---- an item at a cursor

-- by the cursors v of its parts: the item that stands there, and what is left behind it
abbrev pub one_at : {C A : Type 0} → (C → A) → (C → List ℕ) → Result (Option C) (Malformed C) → List ℕ → One A
one_at item left (Ok (Some v)) f = got (item v) (left v)
one_at item left (Ok None) f = One.none
one_at item left (Err e) f = bad f

abbrev pub OnItem : {C : Type 0} → Result (Option C) (Malformed C) → (C → Type 0) → Type 0
OnItem (Ok (Some v)) P = P v
OnItem (Ok None) P = Unit {0}
OnItem (Err e) P = Unit {0}

abbrev pub OnRead : {C : Type 0} → Result (Option C) (Malformed C) → (C → Type 0) → Type 0
OnRead (Ok (Some v)) P = P v
OnRead (Ok None) P = Unit {0}
OnRead (Err e) P = P e.read

pub record ItemAt {C A : Type 0} (p : List ℕ → One A) (m : ℕ) (s : List ℕ) (c : ℕ) (item : C → A) (behind : C → ℕ) (r : Result (Option C) (Malformed C)) : Type 0 where
  pub fault : List ℕ
  pub is : p (rest m s c) ≡ one_at item (λ (v : C). rest m s (behind v)) r fault
  pub to : OnRead r (λ (v : C). Onward m s c (behind v))

abbrev pub there : {C : Type 0} → Result C (Malformed C) → Result (Option C) (Malformed C)
there (Ok v) = Ok (Some v)
there (Err e) = Err e

-- an item that ends at a cursor
abbrev pub one_to : {A : Type 0} → ℕ → List ℕ → A → Result ℕ (Malformed ℕ) → List ℕ → One A
one_to m s a (Ok next) f = got a (rest m s next)
one_to m s a (Err e) f = bad f

-- ---- all values of a parameter, all parameters of a line

unfoldable pub values_of : One ParamValue → List ParamValue
values_of (got v r) = v ∷ items next_value r
values_of One.none = []
values_of (bad r) = []

-- from the cursor of the first value on
abbrev pub values_at : ℕ → List ℕ → ℕ → List ParamValue
values_at m s c = values_of (param_value (rest m s c))

-- from the cursor behind the line's name on
abbrev pub params_at : ℕ → List ℕ → ℕ → List RawParameter
params_at m s c = items next_param (rest m s c)
