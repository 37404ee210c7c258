-- Laws of what specs/OffsetWritten.antt defines.
--     offset_written    it is what the definition writes
use Rattle.std.specs.Prelude.{◌≡◌, refl, Bool, true, false, List, [], ℕ, Option, None, Some}
use Rattle.octets.specs.Pick.{pick}
use Rattle.octets.specs.Append.{◌⊕◌}
use Rattle.octets.specs.Reading.{or_nothing}
use Rattle.calendar.specs.Calendar.{format_of}
use Rattle.sink.specs.Sink.{Put}
use Rattle.times.specs.Spelling.{with_marks, put_mark}
use Rattle.times.specs.Digits.{two_digits}
use Rattle.times.specs.Written.{marked}
use Rattle.times.specs.UtcOffset.{write_utc_offset}
use Rattle.times.specs.OffsetAlong.{shift_bytes, shift_of}
use Rattle.times.specs.OffsetWritten.{sign_of, last_bytes, offset_bytes}
use Rattle.times.specs.declared.offset.UtcOffset.{UtcOffset}

pub offset_written : (to neg : Bool) (h m : ℕ) (s : Option ℕ) → write_utc_offset (format_of to) (shift_bytes neg h m s) ≡ offset_bytes to neg h m s
unfolding write_utc_offset shift_bytes sign_of last_bytes offset_bytes with_marks put_mark two_digits marked pick ◌⊕◌
offset_written true neg h m (Some s) = refl
offset_written true neg h m None = refl
offset_written false neg h m (Some s) = refl
offset_written false neg h m None = refl

module _ {d e : List ℕ} {o q : ℕ} (to : Bool) {l : Option (List ℕ)} {r : Option UtcOffset} (p : l ≡ shift_of r) where
  pub put_shift_read : {t : UtcOffset} → r ≡ Some t → Put d e o q (offset_bytes to t.negative t.hour t.minute t.second) → Put d e o q (or_nothing (write_utc_offset (format_of to)) l)
  put_shift_read {t} g k = rw (p, g, offset_written to t.negative t.hour t.minute t.second) k

  pub put_no_shift : r ≡ None → Put d e o q [] → Put d e o q (or_nothing (write_utc_offset (format_of to)) l)
  put_no_shift g k = rw (p, g) k
