-- Pieces of canonical text, whatever document they are written from.
--     Leaves      values that are characters in the document
--     Typing      VALUE, where it must stand
--     Filled      what the room for a line holds
--     laws        laws of these, and what proofs need
pub mod Leaves
pub mod Typing
pub mod Filled
pub mod laws
