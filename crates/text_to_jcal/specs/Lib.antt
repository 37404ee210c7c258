-- iCalendar text to canonical jCal.
--     laws    what proofs of the steps need
pub mod laws
