-- Laws. The check of an unfolded text by numbers: contracts of the code and their laws.
--     Names       names of components
--     Components  components by their numbers
--     Action      the word of ACTION
--     Places      the place of a fault in a line, found by a cursor
--     Kinds       the kind of a line in an open component
--     Holding     a property in an open component
--     Turns       a line in its text, and a component
--     Outer       a line where nothing is open
pub mod Names
pub mod Components
pub mod Action
pub mod Places
pub mod Kinds
pub mod Holding
pub mod Turns
pub mod Outer
