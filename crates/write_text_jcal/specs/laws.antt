-- Laws. The canonical text of a jCal text's components.
--     Context      the context of a property's values
--     Content      the content line of a property's array
--     Fitting      lines that fit
--     Walks        what is written of the arrays of properties and of components, one by one
--     Calendars    the calendars of a text
pub mod Context
pub mod Content
pub mod Fitting
pub mod Walks
pub mod Calendars
