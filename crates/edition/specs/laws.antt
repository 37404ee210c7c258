-- Laws. The editions of iCalendar text.
--     Carets       what is encoded is decoded; lengths; what the bytes pass
pub mod Carets
