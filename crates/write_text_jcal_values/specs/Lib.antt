-- A property's values from its jCal array, written as iCalendar text.
--     Elements    the elements of an array by places
--     Periods     PERIOD
--     Rules       RECUR
--     Property    the values of a property by numbers
--     laws        laws of these, and what proofs need
pub mod Elements
pub mod Periods
pub mod Rules
pub mod Property
pub mod laws
