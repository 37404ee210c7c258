-- A text as it is lent: unfolded into the work room, and checked there.
--     Whole    the verdict on it, and what code answers of it
--     laws     laws of these, and what proofs need
pub mod Whole
pub mod laws
