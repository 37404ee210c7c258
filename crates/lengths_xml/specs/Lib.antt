-- How long the XML of a text is.
--     laws    laws, and what proofs need
pub mod laws
