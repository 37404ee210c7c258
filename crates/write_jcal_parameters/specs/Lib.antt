-- The members of a line's parameters in jCal: the laws of the code that writes them.
--     Shown    what is written of parameters, readable or not; of those that are readable it is the jCal of what they state
--     laws     laws of these, and what proofs need
pub mod Shown
pub mod laws
