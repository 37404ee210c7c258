-- One name that opens every shut definition of this crate, for examples that compute: `unfolding times_compute`.
use Rattle.std.specs.Prelude.{ℕ}
use Rattle.octets.specs.Computing.{octets_compute}
use Rattle.times.specs.Spelling.{is_time_char, keep, begins, put_mark, take_mark, with_marks, without_marks, fits}
use Rattle.gregorian.specs.Month.{is_leap_year, has_thirty_days, days_in_month, is_day}
use Rattle.times.specs.Date.{is_date, read_date, write_date}
use Rattle.times.specs.Digits.{two_digits, date_of}
use Rattle.times.specs.DateText.{date_text}
use Rattle.times.specs.Time.{is_clock, is_time, read_time, write_time}
use Rattle.times.specs.DateTime.{is_date_time, read_date_time, write_date_time}
use Rattle.times.specs.Duration.{counted, optional, dur_second, dur_minute, dur_hour, dur_time, dur_date, dur_week, unsigned_duration, is_duration, duration_of, read_duration, write_duration}
use Rattle.times.specs.UtcOffset.{is_shift, is_some_shift, is_utc_offset, read_utc_offset, write_utc_offset}
use Rattle.times.specs.Period.{is_no_slash, is_period_char, period_from, read_period, write_period}
use Rattle.times.specs.Pattern.{passes, tally, along, followed_by, is_mark, are_marks, zeros, digits_at}
use Rattle.times.specs.Letters.{cased}
use Rattle.times.specs.DateAlong.{day_from, dated}
use Rattle.times.specs.TimeAlong.{is_hms, is_zone, hms, clock_from, timed, zone, time_of, clock_by}
use Rattle.times.specs.DateTimeAlong.{join_time, moment_from, moment_by, moment}
use Rattle.times.specs.Written.{marked, year_digits, day_bytes, clock_bytes, moment_bytes}
use Rattle.times.specs.OffsetAlong.{followed_to_end, shift_bytes, offset_by, is_minus, offset_of}
use Rattle.times.specs.OffsetWritten.{sign_of, last_bytes, offset_bytes}
use Rattle.times.specs.PeriodAlong.{slashed, after_start, period_upper, period_by, cut_period, period_after}
use Rattle.times.specs.PeriodWritten.{of_period, start_xml, end_xml, end_bytes}

unfoldable pub times_compute : ℕ
unfolding octets_compute is_time_char keep begins put_mark take_mark with_marks without_marks fits is_leap_year has_thirty_days days_in_month is_day is_date read_date write_date two_digits date_of date_text is_clock is_time read_time write_time is_date_time read_date_time write_date_time counted optional dur_second dur_minute dur_hour dur_time dur_date dur_week unsigned_duration is_duration duration_of read_duration write_duration is_shift is_some_shift is_utc_offset read_utc_offset write_utc_offset is_no_slash is_period_char period_from read_period write_period passes tally along followed_by is_mark are_marks zeros digits_at cased day_from dated is_hms is_zone hms clock_from timed zone time_of clock_by join_time moment_from moment_by moment marked year_digits day_bytes clock_bytes moment_bytes followed_to_end shift_bytes offset_by is_minus offset_of sign_of last_bytes offset_bytes slashed after_start period_upper period_by cut_period period_after of_period start_xml end_xml end_bytes
times_compute = 0
