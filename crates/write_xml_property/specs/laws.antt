-- Laws. A property of iCalendar text written as its element of XML.
--     Geo       the elements of GEO
--     Pieces    a list of values, an element for each
--     Placed    the values of a property, by numbers of its names
--     Shown     what is written of the values of a property, by numbers
--     Property  the element of a content line's property
pub mod Geo
pub mod Pieces
pub mod Placed
pub mod Shown
pub mod Property
