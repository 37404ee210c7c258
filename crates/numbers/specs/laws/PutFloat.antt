-- A FLOAT written part by part: laws at each way that the code goes.
--     put_same, todo_same    what is written, or is left to write, by another name
--     trim_all               nothing is written yet of digits without trailing zeros
use Rattle.std.specs.Prelude.{◌≡◌, List, ℕ, ◌*◌, ◌^◌, ◌<◌, length}
use Rattle.octets.specs.Append.{◌⊕◌}
use Rattle.octets.specs.Reading.{or_nothing}
use Rattle.source.specs.Source.{rest}
use Rattle.sink.specs.Sink.{Put, Todo}
use Rattle.sink.specs.laws.Sink.{todo_all}
use Rattle.numbers.specs.Float.{no_trailing, read_float, write_float}
use Rattle.numbers.specs.Worth.{zeros}
use Rattle.numbers.specs.Until.{until}
use Rattle.numbers.specs.laws.Until.{until_all}
use Rattle.numbers.specs.laws.Spans.{trim_start}

pub put_same : {d e : List ℕ} {at r : ℕ} {x y : List ℕ} → Put d e at r x → x ≡ y → Put d e at r y
put_same p e = rw (← e) p

pub todo_same : {d₀ : List ℕ} {at₀ : ℕ} {all d : List ℕ} {at : ℕ} {x y : List ℕ} → Todo d₀ at₀ all d at x → x ≡ y → Todo d₀ at₀ all d at y
todo_same t e = rw (← e) t

pub trim_all : (d : List ℕ) (at : ℕ) (s : List ℕ) → length d * 1 < 2 ^ 63 → Todo d at (no_trailing s) d at (no_trailing (zeros 0 ⊕ s))
trim_all d at s h = todo_same (todo_all d at (no_trailing s) h) (trim_start s)

pub put_all_float : {d e : List ℕ} {at r : ℕ} (m : ℕ) (s : List ℕ) (c : ℕ) →
    Put d e at r (or_nothing write_float (read_float (until 256 m s c))) → Put d e at r (or_nothing write_float (read_float (rest m s c)))
put_all_float m s c p = rw (until_all m s c) at p
