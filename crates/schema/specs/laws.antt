-- Laws. The schema as tables: what may stand where, how often, with which parameters and types.
--     Types       the value types by name
--     Rows        laws of these tables
--     Closed      laws of closed sets
--     Tallies     laws of counting
--     Unknown     an unrecognised component
--     Numbers     names by their numbers, and the rows of numbers
--     Cells       tables that a definition fills
--     Places      the number of the name of a number
--     Columns     what the tables say, by numbers
--     Sets        closed sets, by numbers
--     Arrays      the tallies of a component in an array
--     Completing  counts over that array
--     Property    the numbers of properties by name
--     Halving     a name found by halving
--     Lists       the lists that the table was made of
--     Table       the table answers what they answer
pub mod Types
pub mod Rows
pub mod Closed
pub mod Tallies
pub mod Unknown
pub mod Numbers
pub mod Cells
pub mod Places
pub mod Columns
pub mod Sets
pub mod Arrays
pub mod Halving
pub mod Completing
pub mod Property
pub mod Lists
pub mod Table
