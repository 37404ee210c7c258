-- Laws. A property's values from its XML elements, written as iCalendar text.
--     Walking   a walk over nodes to the first that is sought
--     Children  the first child of a name
--     Periods   PERIOD
--     Rules     RECUR: the items of a part
--     PutRule   its parts
--     Own       GEO and REQUEST-STATUS
--     Typed     values in elements that are named as their type
--     Types     the type of a value
--     ValuesAt  the values of a property by its number
pub mod Walking
pub mod Children
pub mod Periods
pub mod Rules
pub mod PutRule
pub mod Own
pub mod Typed
pub mod Types
pub mod ValuesAt
