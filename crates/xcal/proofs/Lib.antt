-- Laws and theorems. xCal (RFC 6321).
--     Examples         a calendar that is read back from its document
--     laws             laws of these, and what proofs need
pub mod Examples
pub mod laws
