-- Items read one after another through a cursor, until there is none or a fault: the contract of such a loop.
--     AllAt p m s c r     all items from the cursor c on: r is the cursor behind them, or says that there is a fault: the cursor behind those before it
use Rattle.std.specs.Prelude.{◌≡◌, List, ℕ, Result, Ok, Err}
use Rattle.octets.specs.Many.{One, All, ok, no, many}
use Rattle.source.specs.Source.{rest}
use Rattle.read_text_line.specs.Items.{items}
use Rattle.read_text_line.specs.Cursor.{OnwardTo}
use Rattle.read_text_line.specs.declared.Malformed.{Malformed}

abbrev pub all_at : {A : Type 0} → ℕ → List ℕ → List A → Result ℕ (Malformed ℕ) → List ℕ → All A
all_at m s l (Ok next) f = ok l (rest m s next)
all_at m s l (Err e) f = no f

pub record AllAt {A : Type 0} (p : List ℕ → One A) (m : ℕ) (s : List ℕ) (c : ℕ) (r : Result ℕ (Malformed ℕ)) : Type 0 where
  pub fault : List ℕ
  pub is : many p (rest m s c) ≡ all_at m s (items p (rest m s c)) r fault
  pub to : OnwardTo m s c r
