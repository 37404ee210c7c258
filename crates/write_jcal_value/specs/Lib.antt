-- A value of iCalendar text, written as JSON.
--     Texts        texts between bare separators, byte by byte
--     Scalars      values that are made of characters
--     Labels       names by number
--     Rules        the object of a rule, piece by piece
--     PutPeriod    a period's array
--     laws         laws of these, and what proofs need
pub mod Texts
pub mod Scalars
pub mod Labels
pub mod Rules
pub mod PutPeriod
pub mod laws
