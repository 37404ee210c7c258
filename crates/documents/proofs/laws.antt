-- Laws. A log, and where its documents end.
--     Log           the place of an end; the code's loop; a log that was cut off
--     Passed        the content of an element in which no document ends
--     Splitting     documents joined are split again
--     Pieces        a log that is read in pieces
pub mod Log
pub mod Passed
pub mod Splitting
pub mod Pieces
