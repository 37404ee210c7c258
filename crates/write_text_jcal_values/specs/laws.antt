-- Laws. A property's values from its jCal array, written as iCalendar text.
--     Elements   the elements of an array by places
--     Joining    elements that are written with a separator between them, in a loop
--     Own        GEO and REQUEST-STATUS
--     Scalars    values of one scalar
--     Periods    PERIOD
--     Items      RECUR: the items of a part;   Rules: its parts
--     Typed      values of any type
--     Property   the values of a property by numbers
pub mod Elements
pub mod Joining
pub mod Own
pub mod Scalars
pub mod Periods
pub mod Items
pub mod Rules
pub mod Typed
pub mod Property
