-- The XML of a line's parameters: the laws of the code that writes it.
--     Shown    what is written of parameters, readable or not; of those that are readable it is the XML of what they state
--     Parts    a value, a name, a parameter, each written by its parts
--     laws     laws of these, and what proofs need
pub mod Shown
pub mod Parts
pub mod laws
