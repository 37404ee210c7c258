-- Laws. Names and words: compared and written in a given case, and looked up in a table.
--     Case      a word in a given case, byte by byte
--     Table     a table of names, the place of a name in it, and the row of a list by that place
--     Known     what is said of a word, by its place in a list of known words
--     Places    words compared by their places, the word at a place
--     Matching  the walk over a table
--     Runs      a run of bytes, and the loops that compare and write a word
--     Plain     the same loops over bytes as they stand
--     Packing   names found by their numbers, and the loops that make a number
--     Numbered  names by number, in the arms of a `match`
pub mod Case
pub mod Table
pub mod Known
pub mod Places
pub mod Matching
pub mod Runs
pub mod Plain
pub mod Packing
pub mod Numbered
