-- Laws of what specs/Quoting.antt defines.
--     plain_no_colon, plain_no_semicolon, plain_no_comma   of a value that needs no quotes
use Rattle.std.specs.Prelude.{◌≡◌, false, List, ℕ}
use Rattle.octets.specs.laws.Pick.{or_neither}
use Rattle.octets.specs.Words.{holds}
use Rattle.texts.specs.Quoting.{needs_quotes}

pub plain_no_colon : (s : List ℕ) → needs_quotes s ≡ false → holds 58 s ≡ false
plain_no_colon s h = (or_neither (holds 58 s) _ h).0

pub plain_no_semicolon : (s : List ℕ) → needs_quotes s ≡ false → holds 59 s ≡ false
plain_no_semicolon s h = (or_neither (holds 59 s) (holds 44 s) (or_neither (holds 58 s) _ h).1).0

pub plain_no_comma : (s : List ℕ) → needs_quotes s ≡ false → holds 44 s ≡ false
plain_no_comma s h = (or_neither (holds 59 s) (holds 44 s) (or_neither (holds 58 s) _ h).1).1
