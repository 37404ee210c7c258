-- A property's values from its XML elements, written as iCalendar text.
--     Children    the first child of a name
--     Periods     PERIOD
--     Rules       RECUR: the items of a part;   PutRule: its parts
--     Own         GEO and REQUEST-STATUS
--     Typed       values in elements that are named as their type
--     laws        laws of these, and what proofs need
pub mod Children
pub mod Periods
pub mod Rules
pub mod PutRule
pub mod Own
pub mod Typed
pub mod laws
