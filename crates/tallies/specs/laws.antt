-- Laws. What is kept of the properties of a component while they are read.
--     Counting     the tallies of properties, and the word of the first ACTION
pub mod Counting
