-- The characters of a text through a cursor. What is promised is defined in crates utf8 and source.
--     laws     what proofs need
pub mod laws
