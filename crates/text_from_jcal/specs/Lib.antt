-- jCal to canonical iCalendar text.
--     Steps   what the steps of the call give
--     laws    laws of these, and what proofs need
pub mod Steps
pub mod laws
