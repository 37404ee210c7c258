-- Dates and times, computed.
use Rattle.std.specs.Prelude.{◌≡◌, refl, [], ◌∷◌, map, None, Some}
use Rattle.octets.specs.Ascii.{ascii}
use Rattle.calendar.specs.Calendar.{ical, xcal, period_explicit, period_start}
use Rattle.gregorian.specs.Month.{days_in_month}
use Rattle.times.specs.Date.{read_date, write_date}
use Rattle.times.specs.Time.{read_time, write_time}
use Rattle.times.specs.DateTime.{read_date_time, write_date_time}
use Rattle.times.specs.Duration.{read_duration}
use Rattle.times.specs.UtcOffset.{read_utc_offset, write_utc_offset}
use Rattle.times.specs.Period.{read_period}
use Rattle.octets.specs.Reading.{or_nothing}
use Rattle.times.specs.Pattern.{reached, lost, along}
use Rattle.times.specs.DateAlong.{date_pattern}
use Rattle.times.specs.OffsetAlong.{minute_pattern}
use Rattle.times.specs.PeriodWritten.{start_xml, end_xml}
use Rattle.times.specs.Computing.{times_compute}

-- leap days: every fourth year has one, 1900 and 2100 have none, 2000 and 0000 do
leap_days :
    map (read_date ical) (ascii "20240229" ∷ ascii "20230229" ∷ ascii "19000229" ∷ ascii "20000229" ∷ ascii "21000229" ∷ ascii "00000229" ∷ [])
    ≡ Some (ascii "20240229") ∷ None ∷ None ∷ Some (ascii "20000229") ∷ None ∷ Some (ascii "00000229") ∷ []
unfolding times_compute
leap_days = refl

month_lengths :
    map (days_in_month 2023) (1 ∷ 2 ∷ 3 ∷ 4 ∷ 5 ∷ 6 ∷ 7 ∷ 8 ∷ 9 ∷ 10 ∷ 11 ∷ 12 ∷ [])
    ≡ 31 ∷ 28 ∷ 31 ∷ 30 ∷ 31 ∷ 30 ∷ 31 ∷ 31 ∷ 30 ∷ 31 ∷ 30 ∷ 31 ∷ []
unfolding times_compute
month_lengths = refl

-- month 0, month 13, day 0, day 31 of April, a sign, too short, too long, marks in text
no_dates :
    map (read_date ical) (ascii "20240004" ∷ ascii "20241304" ∷ ascii "20240500" ∷ ascii "20240431" ∷ ascii "+2024050" ∷ ascii "2024050" ∷ ascii "202405040" ∷ ascii "2024-05-04" ∷ ascii "" ∷ [])
    ≡ None ∷ None ∷ None ∷ None ∷ None ∷ None ∷ None ∷ None ∷ None ∷ []
unfolding times_compute
no_dates = refl

dates_in_xml :
    map (read_date xcal) (ascii "2024-05-04" ∷ ascii "9999-12-31" ∷ ascii "20240504" ∷ ascii "2024-5-04" ∷ ascii "2024-05-04Z" ∷ ascii "2024/05/04" ∷ ascii "202-405-04" ∷ ascii " 2024-05-04" ∷ [])
    ≡ Some (ascii "20240504") ∷ Some (ascii "99991231") ∷ None ∷ None ∷ None ∷ None ∷ None ∷ None ∷ []
unfolding times_compute
dates_in_xml = refl

times :
    map (read_time ical) (ascii "080000" ∷ ascii "235960Z" ∷ ascii "235960z" ∷ ascii "240000" ∷ ascii "006000" ∷ ascii "000061" ∷ ascii "0800" ∷ ascii "080000ZZ" ∷ ascii "080000-0500" ∷ [])
    ≡ Some (ascii "080000") ∷ Some (ascii "235960Z") ∷ Some (ascii "235960Z") ∷ None ∷ None ∷ None ∷ None ∷ None ∷ None ∷ []
unfolding times_compute
times = refl

times_in_xml :
    map (read_time xcal) (ascii "08:00:00" ∷ ascii "08:00:00Z" ∷ ascii "08:00:00z" ∷ ascii "080000" ∷ ascii "08:00" ∷ ascii "08:00:0" ∷ [])
    ≡ Some (ascii "080000") ∷ Some (ascii "080000Z") ∷ None ∷ None ∷ None ∷ None ∷ []
unfolding times_compute
times_in_xml = refl

date_times :
    map (read_date_time ical) (ascii "20240504T080000Z" ∷ ascii "20240504t080000z" ∷ ascii "20240504T080000" ∷ ascii "20240504" ∷ ascii "20240504 080000" ∷ ascii "20230229T080000" ∷ ascii "20240504T250000" ∷ [])
    ≡ Some (ascii "20240504T080000Z") ∷ Some (ascii "20240504T080000Z") ∷ Some (ascii "20240504T080000") ∷ None ∷ None ∷ None ∷ None ∷ []
unfolding times_compute
date_times = refl

date_times_in_xml :
    map (read_date_time xcal) (ascii "2024-05-04T08:00:00Z" ∷ ascii "2024-05-04t08:00:00Z" ∷ ascii "20240504T080000Z" ∷ ascii "2024-05-04T08:00:00+01:00" ∷ [])
    ≡ Some (ascii "20240504T080000Z") ∷ None ∷ None ∷ None ∷ []
unfolding times_compute
date_times_in_xml = refl

-- only a plus goes
durations :
    map (read_duration ical) (ascii "PT1H0M5S" ∷ ascii "P15DT5H0M20S" ∷ ascii "+P7W" ∷ ascii "-pt15m" ∷ ascii "-P0D" ∷ ascii "P007D" ∷ ascii "PT99999999999999999999S" ∷ ascii "P1DT2M" ∷ [])
    ≡ Some (ascii "PT1H0M5S") ∷ Some (ascii "P15DT5H0M20S") ∷ Some (ascii "P7W") ∷ Some (ascii "-PT15M") ∷ Some (ascii "-P0D") ∷ Some (ascii "P007D") ∷ Some (ascii "PT99999999999999999999S") ∷ Some (ascii "P1DT2M") ∷ []
unfolding times_compute
durations = refl

no_durations :
    map (read_duration ical) (ascii "PT1H5S" ∷ ascii "P" ∷ ascii "PT" ∷ ascii "P1DT" ∷ ascii "P1W1D" ∷ ascii "P1WT1H" ∷ ascii "P1H" ∷ ascii "PD" ∷ ascii "+-P1D" ∷ ascii "++P1D" ∷ ascii "1D" ∷ ascii "P1Y" ∷ ascii "" ∷ ascii "P1D " ∷ [])
    ≡ None ∷ None ∷ None ∷ None ∷ None ∷ None ∷ None ∷ None ∷ None ∷ None ∷ None ∷ None ∷ None ∷ None ∷ []
unfolding times_compute
no_durations = refl

durations_in_xml :
    map (read_duration xcal) (ascii "-PT15M" ∷ ascii "+PT15M" ∷ ascii "pt15m" ∷ ascii "PT15m" ∷ [])
    ≡ Some (ascii "-PT15M") ∷ Some (ascii "PT15M") ∷ None ∷ None ∷ []
unfolding times_compute
durations_in_xml = refl

-- no negative zero, but -000060 is not zero
offsets :
    map (read_utc_offset ical) (ascii "+0100" ∷ ascii "-013015" ∷ ascii "+0000" ∷ ascii "-0000" ∷ ascii "-000000" ∷ ascii "-000060" ∷ ascii "+000000" ∷ ascii "0100" ∷ ascii "+2400" ∷ ascii "+0060" ∷ ascii "+000061" ∷ ascii "+01" ∷ ascii "+01000" ∷ [])
    ≡ Some (ascii "+0100") ∷ Some (ascii "-013015") ∷ Some (ascii "+0000") ∷ None ∷ None ∷ Some (ascii "-000060") ∷ Some (ascii "+000000") ∷ None ∷ None ∷ None ∷ None ∷ None ∷ None ∷ []
unfolding times_compute
offsets = refl

offsets_in_xml :
    map (read_utc_offset xcal) (ascii "+01:00" ∷ ascii "-01:30:15" ∷ ascii "+0100" ∷ ascii "+01:00:" ∷ ascii "+01:0015" ∷ ascii "+0100:15" ∷ ascii "-00:00" ∷ ascii "-00:00:60" ∷ [])
    ≡ Some (ascii "+0100") ∷ Some (ascii "-013015") ∷ None ∷ None ∷ None ∷ None ∷ None ∷ Some (ascii "-000060") ∷ []
unfolding times_compute
offsets_in_xml = refl

periods :
    map read_period (ascii "19970101T180000Z/19970102T070000Z" ∷ ascii "19970101t180000z/pt5h30m" ∷ ascii "19970101T180000Z/-P1D" ∷ [])
    ≡ Some (period_explicit (ascii "19970101T180000Z") (ascii "19970102T070000Z")) ∷ Some (period_start (ascii "19970101T180000Z") (ascii "PT5H30M")) ∷ Some (period_start (ascii "19970101T180000Z") (ascii "-P1D")) ∷ []
unfolding times_compute
periods = refl

no_periods :
    map read_period (ascii "19970101T180000Z" ∷ ascii "19970101T180000Z/" ∷ ascii "/PT1H" ∷ ascii "19970101/PT1H" ∷ ascii "19970101T180000Z//PT1H" ∷ ascii "19970101T180000Z/PT1H/PT1H" ∷ ascii "PT1H/19970101T180000Z" ∷ [])
    ≡ None ∷ None ∷ None ∷ None ∷ None ∷ None ∷ None ∷ []
unfolding times_compute
no_periods = refl

written_to_xml :
    write_date xcal (ascii "20240504") ∷ write_time xcal (ascii "080000Z") ∷ write_date_time xcal (ascii "20240504T080000") ∷ write_utc_offset xcal (ascii "+0100") ∷ write_utc_offset xcal (ascii "-013015") ∷ []
    ≡ ascii "2024-05-04" ∷ ascii "08:00:00Z" ∷ ascii "2024-05-04T08:00:00" ∷ ascii "+01:00" ∷ ascii "-01:30:15" ∷ []
unfolding times_compute
written_to_xml = refl

-- a spelling followed along a pattern
patterns :
    along (date_pattern ical) 0 (ascii "20240504") ∷ along (date_pattern xcal) 0 (ascii "2024-05-04Z") ∷ along (date_pattern xcal) 0 (ascii "20240504") ∷ along (minute_pattern xcal) 0 (ascii "-01:30") ∷ []
    ≡ reached 20240504 [] ∷ reached 20240504 (ascii "Z") ∷ lost ∷ reached 130 [] ∷ []
unfolding times_compute
patterns = refl

-- the parts of periods as XML has them
period_parts :
    map (or_nothing start_xml) (read_period (ascii "19970101T180000Z/19970102T070000Z") ∷ read_period (ascii "19970101T180000/+PT5H") ∷ read_period (ascii "19970101T180000/") ∷ [])
    ≡ ascii "1997-01-01T18:00:00Z" ∷ ascii "1997-01-01T18:00:00" ∷ [] ∷ []
unfolding times_compute
period_parts = refl

period_ends :
    map (or_nothing end_xml) (read_period (ascii "19970101T180000Z/19970102T070000Z") ∷ read_period (ascii "19970101T180000/+PT5H") ∷ read_period (ascii "19970101T180000/") ∷ [])
    ≡ ascii "1997-01-02T07:00:00Z" ∷ ascii "PT5H" ∷ [] ∷ []
unfolding times_compute
period_ends = refl
