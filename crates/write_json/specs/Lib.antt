-- Writing JSON: what the code that does it is proved by. The definitions of JSON written are in crate json_text, specs/Write.antt.
--     Separated    values one after another, with commas between them
--     laws         laws of these, and what proofs need
pub mod Separated
pub mod laws
