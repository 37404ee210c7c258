-- A property of iCalendar text written as its element of XML.
--     Geo        the elements of GEO
--     Pieces     a list of values, an element for each
--     Shown      what is written of the values of a property, by numbers
--     Property   the element of a content line's property
--     laws       laws of these, and what proofs need
pub mod Geo
pub mod Pieces
pub mod Shown
pub mod Property
pub mod laws
