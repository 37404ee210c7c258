-- Laws. iCalendar text to canonical jCal.
--     Steps  laws of the steps of the code
pub mod Steps
