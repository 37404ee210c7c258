-- DURATION read at a cursor, rule by rule.
--     Runs           the contract of a step over digits: r is the character after them and the cursor after that, if there are any
--     span_of        what a reader's answer says: a hyphen if it is negative, and the characters after the sign
use Rattle.std.specs.Prelude.{◌≡◌, Bool, true, false, List, ℕ, ltb, drop, Option, None, Some}
use Rattle.octets.specs.Append.{◌⊕◌}
use Rattle.octets.specs.Scan.{span_len}
use Rattle.octets.specs.Class.{is_digit}
use Rattle.octets.specs.Reading.{is_read}
use Rattle.source.specs.Source.{rest, spell}
use Rattle.source.specs.declared.points.Unit.{Unit}
use Rattle.times.specs.Letters.{cased}
use Rattle.times.specs.Written.{mark_bytes}
use Rattle.times.specs.declared.duration.Duration.{Duration}

pub record Runs (e : Bool) (m : ℕ) (s : List ℕ) (c : ℕ) (r : Option Unit) : Type 0 where
  pub some_digit : ltb 0 (span_len is_digit (cased e (rest m s c))) ≡ is_read r
  pub is : (a : Unit) → r ≡ Some a → drop (span_len is_digit (cased e (rest m s c))) (cased e (rest m s c)) ≡ spell a.u (cased e (rest m s a.next))

-- a duration, if there is one
abbrev pub span_if : Bool → Bool → ℕ → Option Duration
span_if true neg c = Some (record { negative = neg; at = c })
span_if false neg c = None

abbrev pub span_of : Bool → ℕ → List ℕ → Option Duration → Option (List ℕ)
span_of x m s (Some d) = Some (mark_bytes d.negative 45 ⊕ cased x (rest m s d.at))
span_of x m s None = None
