-- Dates and times: the value types DATE, TIME, DATE-TIME, DURATION, UTC-OFFSET and PERIOD. What a kept value is, reading and writing it as iCalendar text
-- (`ical`) and as XML character data (`xcal`). A kept value is the list of its characters as iCalendar text spells it in capitals.
--     Spelling   the characters of these values, and the marks that XML puts between them
--     Pattern    a spelling followed along a pattern
--     Letters    characters from a cursor on
--     Followed   what following a pattern answers
--     Digits     the digits of dates and times
--     Date       DATE
--     DateText   a date as a text, and where dates stand in DATE-TIME and PERIOD
--     MonthRule  shown: in every month DATE accepts exactly the days from 1 to its length
--     DateAlong  DATE by its pattern
--     Time       TIME
--     TimeAlong  TIME by its pattern
--     DateTime   DATE-TIME
--     DateTimeAlong  DATE-TIME by its pattern
--     Written        dates and times written
--     Duration       DURATION
--     DurationAt     DURATION read at a cursor
--     UtcOffset      UTC-OFFSET
--     OffsetAlong    UTC-OFFSET by its patterns
--     OffsetWritten  UTC-OFFSET written
--     Period         PERIOD in iCalendar text
--     PeriodAlong    PERIOD by the pattern of its start
--     PeriodAt       PERIOD read at a cursor
--     PeriodWritten  PERIOD written
--     Computing  opens all of these, for examples that compute
--     Examples   readings and writings, computed
--     laws       laws of these, and what proofs need
pub mod Spelling
pub mod Pattern
pub mod Letters
pub mod Followed
pub mod Digits
pub mod Date
pub mod DateText
pub mod MonthRule
pub mod DateAlong
pub mod Time
pub mod TimeAlong
pub mod DateTime
pub mod DateTimeAlong
pub mod Written
pub mod Duration
pub mod DurationAt
pub mod UtcOffset
pub mod OffsetAlong
pub mod OffsetWritten
pub mod Period
pub mod PeriodAlong
pub mod PeriodAt
pub mod PeriodWritten
pub mod Computing
pub mod Examples
pub mod laws
