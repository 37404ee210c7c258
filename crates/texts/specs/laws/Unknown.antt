-- Laws of what specs/Unknown.antt defines.
--     unknown_read_back, unknown_kept, unknown_accepted, unknown_one_line
use Rattle.std.specs.Prelude.{◌≡◌, true, false, List, ℕ, None, Some}
use Rattle.octets.specs.laws.Pick.{pick_yes, pick_second}
use Rattle.octets.specs.Words.{holds}
use Rattle.octets.specs.laws.Reading.{provided-some}
use Rattle.texts.specs.Unknown.{is_unknown, read_unknown}

pub unknown_read_back : (v : List ℕ) → is_unknown v ≡ true → read_unknown v ≡ Some v
unknown_read_back v h = pick_yes (is_unknown v) (Some v) None h

pub unknown_kept : (s v : List ℕ) → read_unknown s ≡ Some v → s ≡ v
unknown_kept s v h = (provided-some (is_unknown s) s v h).1

pub unknown_accepted : (s v : List ℕ) → read_unknown s ≡ Some v → is_unknown v ≡ true
unknown_accepted s v h = rw (← (unknown_kept s v h)) (provided-some (is_unknown s) s v h).0

pub unknown_one_line : (v : List ℕ) → is_unknown v ≡ true → holds 10 v ≡ false
unknown_one_line v h = (pick_second (holds 10 v) true h).0
