-- The calendar that an input states, and what is answered of an input that states none.
--     Calendar   components, properties, parameters, typed values
--     Levels     components inside one another, and how many levels a calendar has
--     Refusal    the refusals with their numbers, and the answer of a reading
--     laws       laws of these, and what proofs need
pub mod Calendar
pub mod Levels
pub mod Refusal
pub mod laws
