-- The values of an array, or the members of an object, one after another with commas between them.
--     separator started    what stands before the next: a comma, but before the first
--     following started l   those that are left, with what stands before each
use Rattle.std.specs.Prelude.{Bool, List, [], ℕ}
use Rattle.octets.specs.Ascii.{ascii}
use Rattle.octets.specs.Pick.{pick}
use Rattle.octets.specs.Words.{each_after, joined_by}
use Rattle.json_text.specs.Bytes.{value_separator}

abbrev pub separator : Bool → List ℕ
separator started = pick started (ascii ",") []

unfoldable pub following : Bool → List (List ℕ) → List ℕ
following started l = pick started (each_after value_separator l) (joined_by value_separator l)
