-- What is printed of a log.
--     Line   how a line of it begins
pub mod Line
