-- Laws. The parameters of a line, checked through cursors.
--     Cutting     parameters and values cut out of a line
--     Typing      a value of a parameter, by the parameter's number
--     Stating     the type that a line states
--     Steps       a test of a list, an element at a time
--     Readable    parameters that can be read, by their numbers
--     Comparing   names compared
--     Collecting  names collected by their cursors
--     Before      names that stand before others
--     Naming      the name that stands from a cursor on
--     Rounds      names in rounds
--     Judging     one parameter, each way that code goes
--     Walking     the walk over a line's parameters, by numbers
--     Named       the same, of a property by its name
pub mod Cutting
pub mod Typing
pub mod Stating
pub mod Steps
pub mod Readable
pub mod Comparing
pub mod Collecting
pub mod Before
pub mod Naming
pub mod Rounds
pub mod Judging
pub mod Walking
pub mod Named
