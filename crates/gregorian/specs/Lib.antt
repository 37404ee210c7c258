-- The months of the Gregorian calendar.
--     Month    leap years, the length of a month, days
pub mod Month
