-- Laws. iCalendar text to canonical XML.
--     Steps  laws of the steps of the code
--     Small  the values of their answers are small
pub mod Steps
pub mod Small
