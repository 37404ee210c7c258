-- Laws. A value of iCalendar text, written as JSON.
--     Each          each of a list, read and written
--     Texts         texts between bare separators, byte by byte
--     Characters    the characters of a value of any type
--     Pieces        pieces between commas, each written by a function
--     Labels        names by number
--     Rules         the object of a rule, piece by piece
--     PutRule       the rules of the code that writes it
--     PutPeriod     a period's array
--     PutValue      a value of any type
pub mod Each
pub mod Texts
pub mod Characters
pub mod Pieces
pub mod Labels
pub mod Rules
pub mod PutRule
pub mod PutPeriod
pub mod PutValue
