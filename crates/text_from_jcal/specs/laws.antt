-- Laws. jCal to canonical iCalendar text.
--     Steps   what the steps of the call give
pub mod Steps
