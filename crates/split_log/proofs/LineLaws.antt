-- Laws of specs/Line.antt.
--     places_fit      two places have no more than 41 bytes
--     places_inside   so they are written whole into a room of 41;   places_whole: and stand at its front
use Rattle.std.specs.Prelude.{◌≡◌, List, ℕ, ◌+◌, ◌≤◌, length, take}
use Rattle.std.proofs.Common.{arith, length-append}
use Rattle.octets.specs.Ascii.{ascii}
use Rattle.octets.specs.Append.{◌⊕◌}
use Rattle.octets.specs.Decimal.{digits}
use Rattle.sink.specs.Sink.{Put, far}
use Rattle.sink.specs.laws.Sink.{put_length}
use Rattle.reporting.specs.laws.Line.{digits_fit, line_front}
use Rattle.split_log.specs.Line.{places}

places_fit : (from to : ℕ) → length (places from to) ≤ 41
unfolding ◌⊕◌
places_fit from to =
    let a = digits_fit 19 from in
    let b = digits_fit 19 to in
    rw (
      length-append (digits 19 from) (ascii " " ⊕ digits 19 to),
      length-append (ascii " ") (digits 19 to),
    ) (omega (arith, a, b))

pub places_inside : (from to : ℕ) {d e : List ℕ} {m : ℕ} → length d ≡ 41 → Put d e 0 m (places from to) → m ≤ length e
unfolding far
places_inside from to {d} {e} {m} k w = omega (arith, w.to, places_fit from to, k, put_length w)

pub places_whole : (from to : ℕ) {d e : List ℕ} {m : ℕ} → length d ≡ 41 → Put d e 0 m (places from to) → take m e ≡ places from to
places_whole from to {d} k w = line_front (rw k (places_fit from to)) w
