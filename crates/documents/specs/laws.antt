-- Words of laws. A log, and where its documents end.
--     Passed        the content of an element in which no document ends
pub mod Passed
