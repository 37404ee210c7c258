-- How long the text of a document is, and a content line of it.
--     laws    laws, and what proofs need
pub mod laws
