-- What is kept of the properties of a component while they are read, whichever format they stand in.
--     Counting     the tallies of properties, and the word of the first ACTION
--     laws         laws of these
pub mod Counting
pub mod laws
