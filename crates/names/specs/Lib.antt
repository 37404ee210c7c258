-- Names and words: compared and written in a given case, and looked up in a table.
--     Case       a word in a given case, byte by byte
--     Table      a table of names, the place of a name in it, and the row of a list by that place
--     Matching   the walk over a table
--     Runs       a run of bytes, and the loops that compare and write a word
--     Packing    names found by their numbers
--     Computing  one name that opens all of them
--     Examples   lookups that compute
--     laws       laws of these, and what proofs need
pub mod Case
pub mod Table
pub mod Matching
pub mod Runs
pub mod Packing
pub mod Computing
pub mod Examples
pub mod laws
