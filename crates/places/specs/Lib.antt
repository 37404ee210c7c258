-- Where a document or a jCal text is refused: at a place within it, or at its end.
--     laws    laws, and what proofs need
pub mod laws
