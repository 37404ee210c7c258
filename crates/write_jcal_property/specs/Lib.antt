-- A property of iCalendar text written as its array of jCal.
--     Geo        the array of GEO
--     Pieces     lists, and the parts of a REQUEST-STATUS
--     Shown      what is written of the type and the values of a property, by numbers
--     Property   the array of a content line's property
--     laws       laws of these, and what proofs need
pub mod Geo
pub mod Pieces
pub mod Shown
pub mod Property
pub mod laws
