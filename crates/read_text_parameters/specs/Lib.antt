-- The parameters of a line, checked through cursors. What is checked is defined in crate text.
--     Cutting      parameters and values cut out of a line
--     Typing       a value of a parameter, by the parameter's number
--     Stating      the type that a line states
--     Readable     parameters that can be read, by their numbers
--     Comparing    names compared
--     Collecting   names collected by their cursors
--     Naming       the name that stands from a cursor on
--     Rounds       names in rounds
--     Walking      the walk over a line's parameters, by numbers
--     laws         laws of these, and what proofs need
pub mod Cutting
pub mod Typing
pub mod Stating
pub mod Readable
pub mod Comparing
pub mod Collecting
pub mod Naming
pub mod Rounds
pub mod Walking
pub mod laws
