-- The check of an unfolded text by numbers: contracts of the code and their laws.
--     Answers      what the check answers, as a verdict
--     Places       the place of a fault in a line, found by a cursor
--     Kinds        the kind of a line in an open component
--     Turns        a line in its text, and a component
--     Outer        a line where nothing is open
--     laws         laws of these, and what proofs need
pub mod Answers
pub mod Places
pub mod Kinds
pub mod Turns
pub mod Outer
pub mod laws
