-- Laws of verdicts.
--     fine_after         a check after which nothing is checked
use Rattle.std.specs.Prelude.{◌≡◌, refl}
use Rattle.calendar.specs.Refusal.{Verdict, fine, refuse, ◌otherwise◌}

pub fine_after : (v : Verdict) → (v otherwise fine) ≡ v
unfolding ◌otherwise◌
fine_after fine = refl
fine_after (refuse n p) = refl
