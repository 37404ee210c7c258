-- How long the iCalendar text of a jCal text is, and a content line of it.
--     Fitting    whether the lines of a calendar fit into a room for one line
--     laws       laws, and what proofs need
pub mod Fitting
pub mod laws
