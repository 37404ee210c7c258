-- Laws. Dates and times: the value types DATE, TIME, DATE-TIME, DURATION, UTC-OFFSET and PERIOD.
--     Spelling       the characters of these values, and the marks that XML puts between them
--     Pattern        a spelling followed along a pattern
--     Digits         digits, and what they are worth
--     Letters        characters from a cursor on
--     Followed       what following a pattern answers
--     Date           DATE, and the Gregorian month
--     MonthRule      the month rule
--     DateParts      the dates of DATE-TIME and PERIOD are read as DATE is
--     DateAlong      DATE by its pattern
--     Time           TIME
--     TimeAlong      TIME by its pattern
--     DateTime       DATE-TIME
--     DateTimeAlong  DATE-TIME by its pattern
--     Written        dates and times written
--     Duration       DURATION
--     DurationAt     DURATION read at a cursor
--     UtcOffset      UTC-OFFSET
--     OffsetAlong    UTC-OFFSET by its patterns
--     OffsetWritten  UTC-OFFSET written
--     Period         PERIOD in iCalendar text
--     PeriodAlong    PERIOD by the pattern of its start
--     PeriodAt       PERIOD read at a cursor
--     PeriodWritten  PERIOD written
pub mod Spelling
pub mod Pattern
pub mod Digits
pub mod Letters
pub mod Followed
pub mod Date
pub mod MonthRule
pub mod DateParts
pub mod DateAlong
pub mod Time
pub mod TimeAlong
pub mod DateTime
pub mod DateTimeAlong
pub mod Written
pub mod Duration
pub mod DurationAt
pub mod UtcOffset
pub mod OffsetAlong
pub mod OffsetWritten
pub mod Period
pub mod PeriodAlong
pub mod PeriodAt
pub mod PeriodWritten
