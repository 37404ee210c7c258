-- iCalendar text to canonical XML.
--     laws    what proofs of the steps need
pub mod laws
