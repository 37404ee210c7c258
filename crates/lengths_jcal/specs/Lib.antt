-- How long the jCal of a text is.
--     laws    laws, and what proofs need
pub mod laws
