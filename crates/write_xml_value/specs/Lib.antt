-- A value of iCalendar text, written as its XML element.
--     Tags         names of elements by number
--     Rules        the elements of a rule, piece by piece
--     PutPeriod    a period's element
--     laws         laws of these, and what proofs need
pub mod Tags
pub mod Rules
pub mod PutPeriod
pub mod laws
